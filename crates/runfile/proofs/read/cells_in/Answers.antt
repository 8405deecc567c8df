-- `runfile::read::cells_in` meets its contract.
-- Assumes nothing.
use mathlib.Core.Path.{refl, sym, ◌∙◌}
use native.Mathlib.Omega.{arith}
use Rattle.tables.specs.Table.{put}
use Rattle.runfile.proofs.Parts.{number_there}
use Rattle.runfile.proofs.Reading.{found}
use Rattle.runfile.proofs.Sections.{cells_start, cells_turn, cells_cut, cells_bad, masks_padded, values_padded, cells_end}
use Rattle.runfile.proofs.read.cells_in.Goals as goal

pub loop-i-init : goal.loop-i-init
loop-i-init c = cells_start _ _ _ _

pub returns-in_err-value-clause-read : goal.returns-in_err-value-clause-read
returns-in_err-value-clause-read c = grind (arith, cells_cut _ _ _ _ _ _ _ c.loop-i.invariant)

pub bounds-file-at : goal.bounds-file-at
bounds-file-at c =
    let e = sym c.read.ensures ∙ found _ _ _ (sym c.in_ok-value.ensures.value) in
    let l = (number_there _ _ 4 _ e).1 in omega arith

pub returns-then-not-mask_sound-clause-read : goal.returns-then-not-mask_sound-clause-read
returns-then-not-mask_sound-clause-read c =
    let e = sym c.read.ensures ∙ found _ _ _ (sym c.in_ok-value.ensures.value) in
    cells_bad _ _ _ _ _ _ _ c.loop-i.invariant _ _ c.loop-i-test.true e refl (sym c.mask_sound.ensures ∙ c.if-not-mask_sound.true)

pub loop-i-preserved : goal.loop-i-preserved
unfolding put
loop-i-preserved c =
    let e = sym c.read.ensures ∙ found _ _ _ (sym c.in_ok-value.ensures.value) in
    cells_turn _ _ _ _ _ _ _ c.loop-i.invariant _ _ c.loop-i-test.true c.requires.2 e refl (sym c.mask_sound.ensures ∙ c.if-not-mask_sound.false)

pub returns-clause-read : goal.returns-clause-read
returns-clause-read c = cells_end _ _ _ _ _ _ _ c.loop-i.invariant c.loop-i.auto.i-end c.loop-i-test.false

pub returns-clause-masks : goal.returns-clause-masks
returns-clause-masks c = masks_padded _ _ _ _ _ _ _ c.loop-i.invariant c.requires.2 c.loop-i.auto.i-end

pub returns-clause-values : goal.returns-clause-values
returns-clause-values c = values_padded _ _ _ _ _ _ _ c.loop-i.invariant c.requires.2 c.loop-i.auto.i-end
