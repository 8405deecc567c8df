-- `judge::pending::fits` meets its contract: a test of each cell.
-- Assumes nothing.
use Rattle.std.proofs.Common.{rules, tests}
use Rattle.tables.proofs.Ranges.{all_in_range}
use Rattle.judge.proofs.pending.fits.Goals as goal

pub returns : goal.returns
returns c = all_in_range _ _ _ _ _ c.all.ensures.ran (λ x b q k. search (rules, tests)) cc
