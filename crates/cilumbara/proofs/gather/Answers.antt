-- `cilumbara::gather` meets its contract.
-- Assumes nothing.
use native.Mathlib.Omega.{arith}
use Rattle.listing.proofs.Going.{taken_is, taken_never}
use Rattle.cilumbara.proofs.Laws.{steps_none, steps_next, steps_end}
use Rattle.cilumbara.proofs.gather.Goals as goal

pub loop-i-init : goal.loop-i-init
loop-i-init c = steps_none c.args.part.now c.args.steps.now

pub returns-in_default : goal.returns-in_default
returns-in_default c = taken_never _ _ (omega (arith, c.loop-i.auto.steps)) c.in_default.ensures

pub loop-i-preserved : goal.loop-i-preserved
loop-i-preserved c =
    steps_next _ _ _ _ (omega (arith, c.loop-i.auto.steps)) c.loop-i.invariant (taken_is _ _ (omega (arith, c.loop-i.auto.steps)) _ c.in-Some.ensures)

pub returns : goal.returns
returns c = steps_end _ _ _ _ c.loop-i.auto.steps c.loop-i.auto.i-end c.loop-i-test.false c.loop-i.invariant
