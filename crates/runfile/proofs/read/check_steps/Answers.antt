-- `runfile::read::check_steps` meets its contract.
-- Assumes nothing.
use mathlib.Core.Path.{sym, ◌∙◌}
use native.Mathlib.Omega.{arith}
use Rattle.runfile.proofs.Reading.{found}
use Rattle.runfile.proofs.Sections.{steps_start_lem, steps_turn, steps_cut, steps_bad, steps_end}
use Rattle.runfile.proofs.read.check_steps.Goals as goal

pub loop-i-init : goal.loop-i-init
loop-i-init c = steps_start_lem _ _

pub returns-in_err-x : goal.returns-in_err-x
returns-in_err-x c = grind (arith, steps_cut _ _ _ c.loop-i.invariant)

pub returns-then-not-fields_sound : goal.returns-then-not-fields_sound
returns-then-not-fields_sound c =
    let e = sym c.step_at.ensures ∙ found _ _ _ (sym c.in_ok-x.ensures.value) in
    steps_bad _ _ _ c.loop-i.invariant _ c.loop-i-test.true e (sym c.fields_sound.ensures ∙ c.if-not-fields_sound.true)

pub loop-i-preserved : goal.loop-i-preserved
loop-i-preserved c =
    let e = sym c.step_at.ensures ∙ found _ _ _ (sym c.in_ok-x.ensures.value) in
    steps_turn _ _ _ c.loop-i.invariant _ c.loop-i-test.true e (sym c.fields_sound.ensures ∙ c.if-not-fields_sound.false)

pub returns : goal.returns
returns c = steps_end _ _ _ c.loop-i.invariant c.loop-i.auto.i-end c.loop-i-test.false
