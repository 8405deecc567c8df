-- `decide::tagged` meets its contract: a test of each node.
-- Assumes nothing.
use Rattle.std.proofs.Common.{rules, tests}
use Rattle.tables.proofs.Ranges.{any_in_range}
use Rattle.decide.proofs.tagged.Goals as goal

pub returns : goal.returns
returns c = any_in_range _ _ _ _ _ c.any.ensures.ran (λ x b q k. search (rules, tests)) cc
