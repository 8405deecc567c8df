-- `vote::full` meets its contract: a test of each cell.
-- Assumes nothing.
use Rattle.std.proofs.Common.{rules, tests}
use Rattle.tables.proofs.Ranges.{any_in_range}
use Rattle.vote.specs.Vote.{full}
use Rattle.vote.proofs.full.Goals as goal

pub returns : goal.returns
unfolding full
returns c = any_in_range _ _ _ _ _ c.any.ensures.ran (λ x b q k. search (rules, tests)) cc
