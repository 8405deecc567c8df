-- `whole::entries::empty` meets its contract: a test of each node.
-- Assumes nothing.
use Rattle.std.proofs.Common.{rules, tests}
use Rattle.tables.proofs.Ranges.{all_in_range}
use Rattle.whole.specs.Whole.{empty}
use Rattle.whole.proofs.entries.empty.Goals as goal

pub returns : goal.returns
unfolding empty
returns c = all_in_range _ _ _ _ _ c.all.ensures.ran (λ x b q k. search (rules, tests)) cc
