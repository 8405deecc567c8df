-- `whole::ranges::row_sound` meets its contract: a test of each node.
-- Assumes nothing.
use Rattle.std.proofs.Common.{rules, tests}
use Rattle.tables.proofs.Ranges.{all_in_range}
use Rattle.whole.proofs.ranges.row_sound.Goals as goal

pub returns : goal.returns
returns c = all_in_range _ _ _ _ _ c.all.ensures.ran (λ x b q k. search (rules, tests)) cc
