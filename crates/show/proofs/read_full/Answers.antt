-- `show::read_full` meets its contract: each read adds to the front of the space what the input loses by it.
-- Assumes nothing.
use native.Mathlib.Omega.{arith}
use Rattle.std.proofs.KnownBytes.{Consumes-nil}
use Rattle.show.proofs.Reading.{front_inside, lost_grows}
use Rattle.show.proofs.read_full.Goals as goal

pub loop-done-init : goal.loop-done-init
loop-done-init g c = (omega arith, Consumes-nil _)

pub loop-done-preserved : goal.loop-done-preserved
loop-done-preserved g c = (
  front_inside _ _ _ _ _ c.loop-done.invariant.0 c.in_ok-n.ensures.bound.0,
  lost_grows _ _ _ _ _ c.loop-done.invariant.0 c.in_ok-n.ensures.bound.0 _ _ _ c.loop-done.invariant.1 c.in_ok-n.ensures.bytes.0,
)
