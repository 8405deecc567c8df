-- `judge::chains::chains_sound` meets its contract: a test of each cell.
-- Assumes nothing.
use Rattle.std.proofs.Common.{rules, tests}
use Rattle.tables.proofs.Ranges.{all_in_range}
use Rattle.whole.specs.Whole.{chains_sound}
use Rattle.judge.proofs.chains.chains_sound.Goals as goal

pub returns : goal.returns
unfolding chains_sound
returns c = all_in_range _ _ _ _ _ c.all.ensures.ran (λ x b q k. search (rules, tests)) cc
