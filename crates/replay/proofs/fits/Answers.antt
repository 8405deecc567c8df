-- `replay::fits` meets its contract: the longest text fits, and any other is counted.
-- Assumes nothing.
use mathlib.Core.Path.{refl}
use Rattle.replay.proofs.Texts.{enough, counts}
use Rattle.replay.proofs.fits.Goals as goal

pub returns-then-out-ge-LONGEST : goal.returns-then-out-ge-LONGEST
returns-then-out-ge-LONGEST c = (enough _ _ c.requires.0 _ c.requires.1 c.requires.2 c.args.out.now c.if-out-ge-LONGEST.true, refl)

pub walk-size-requires : goal.walk-size-requires
walk-size-requires c = counts _ _ c.requires.0 _ c.requires.1 c.requires.2

pub returns : goal.returns
returns c = let w = c.walk-size.ensures in (rw (w.0, w.1), w.1)
