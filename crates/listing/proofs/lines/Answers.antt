-- `listing::lines` meets its contract: after i steps the state is that of the run, and their lines are written or counted.
-- Assumes nothing.
use mathlib.Core.Path.{ap}
use native.Mathlib.Omega.{arith}
use Rattle.score.specs.Steps.{Stepped}
use Rattle.score.specs.Parts.{reached}
use Rattle.listing.proofs.Going.{gone_none, gone_size, never, still_whole, place_low, all_shown, line_fits, gone_next, done_is}
use Rattle.listing.proofs.lines.Goals as goal

pub loop-i-init : goal.loop-i-init
loop-i-init c = gone_none _ _ _ _ _ _

pub shape_of-out-in_default : goal.shape_of-out-in_default
shape_of-out-in_default c = gone_size _ _ _ _ _ _ _ _ _ _ c.loop-i.invariant

pub returns-in_default : goal.returns-in_default
returns-in_default c = never _ _ _ _ _ _ c.requires.0 c.requires.1 c.requires.2 _ _ _ _ c.loop-i.invariant c.loop-i-test.true c.in_default.ensures

pub step_whole-answer-requires : goal.step_whole-answer-requires
step_whole-answer-requires c = still_whole _ _ _ _ _ _ c.requires.0 c.requires.1 c.requires.2 _ _ _ _ c.loop-i.invariant c.loop-i-test.true

pub overflow_cast-i : goal.overflow_cast-i
overflow_cast-i c = omega (arith, c.loop-i-test.true, c.requires.0.few)

pub put_line-at-requires : goal.put_line-at-requires
put_line-at-requires c =
    let e = done_is _ _ _ _ _ _ c.requires.0 c.requires.1 c.requires.2 _ _ _ _ c.loop-i.invariant c.loop-i-test.true _ c.in-Some.ensures _ c.step_whole-answer.ensures in (
      place_low _ _ _ _ _ _ c.requires.0 c.requires.1 c.requires.2 _ _ _ _ c.loop-i.invariant,
      line_fits _ _ _ _ _ _ c.requires.0 c.requires.1 c.requires.2 _ _ _ _ c.loop-i.invariant c.loop-i-test.true _ (ap (λ (o : Stepped). o.answer) e),
    )

pub loop-i-preserved : goal.loop-i-preserved
loop-i-preserved c =
    let e = done_is _ _ _ _ _ _ c.requires.0 c.requires.1 c.requires.2 _ _ _ _ c.loop-i.invariant c.loop-i-test.true _ c.in-Some.ensures _ c.step_whole-answer.ensures in
    gone_next _ _ _ _ _ _ c.requires.0 c.requires.1 c.requires.2 _ _ _ _ c.loop-i.invariant c.loop-i-test.true _ e _ _ c.put_line-at.ensures

pub shape_of-out : goal.shape_of-out
shape_of-out c = gone_size _ _ _ _ _ _ _ _ _ _ c.loop-i.invariant

pub returns : goal.returns
returns c = all_shown _ _ _ _ _ _ c.requires.0 c.requires.1 c.requires.2 _ _ _ _ c.loop-i.invariant c.loop-i-test.false
