-- `vote::outdated` meets its contract: a test of each cell.
-- Assumes nothing.
use Rattle.std.proofs.Common.{rules, tests}
use Rattle.tables.proofs.Ranges.{any_in_range}
use Rattle.vote.specs.Vote.{outdated}
use Rattle.vote.proofs.outdated.Goals as goal

pub returns : goal.returns
unfolding outdated
returns c = any_in_range _ _ _ _ _ c.any.ensures.ran (λ x b q k. search (rules, tests)) cc
