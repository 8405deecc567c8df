-- `runwrite::put::masks_sound` meets its contract.
-- Assumes nothing.
use mathlib.Core.Path.{sym, ◌∙◌}
use native.Mathlib.Omega.{arith}
use Rattle.tables.specs.Table.{at}
use Rattle.tables.proofs.Loop.{every_none, every_more, every_not, every_end}
use Rattle.runwrite.proofs.put.masks_sound.Goals as goal

pub loop-i-init : goal.loop-i-init
loop-i-init c = every_none _

pub returns-then-not-mask_sound : goal.returns-then-not-mask_sound
unfolding at
returns-then-not-mask_sound c = sym (every_not _ _ _ (omega (arith, c.loop-i-test.true, c.from-i-end.ensures)) (sym c.mask_sound.ensures ∙ c.if-not-mask_sound.true))

pub loop-i-preserved : goal.loop-i-preserved
unfolding at
loop-i-preserved c = every_more _ _ c.loop-i.invariant (sym c.mask_sound.ensures ∙ c.if-not-mask_sound.false)

pub returns : goal.returns
returns c = sym (every_end _ _ _ (omega (arith, c.loop-i.auto.i-end, c.from-i-end.ensures)) (omega (arith, c.loop-i-test.false, c.from-i-end.ensures)) c.loop-i.invariant)
