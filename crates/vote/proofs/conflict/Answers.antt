-- `vote::conflict` meets its contract: a test of each transaction.
-- Assumes nothing.
use Rattle.std.proofs.Common.{rules, tests}
use Rattle.tables.proofs.Ranges.{any_in_range}
use Rattle.vote.specs.Vote.{conflict}
use Rattle.vote.proofs.conflict.Goals as goal

pub returns : goal.returns
unfolding conflict
returns c = any_in_range _ _ _ _ _ c.any.ensures.ran (λ x b q k. search (rules, tests)) cc
