-- `little::number_at` meets its contract.
-- Assumes nothing.
use mathlib.Core.Path.{◌≡◌, sym, ap, ap₂, ◌∙◌}
use Rattle.std.specs.Prelude.{Some}
use Prim.Native.Nat.{ℕ, ◌+◌, ◌*◌, ◌-◌, ◌<◌}
use native.Mathlib.Omega.{arith}
use native.Mathlib.Nat.{sub_self}
use lib.Dec.{lit<}
use Rattle.little.proofs.Laws.{fits_true, number_out, high_none, high_next, high_all, low_next, low_room}
use Rattle.little.proofs.number_at.Goals as goal

pub returns-then-not-fits : goal.returns-then-not-fits
returns-then-not-fits c = sym (number_out _ _ _ (sym c.fits.ensures ∙ c.if-not-fits.true))

pub loop-i-init : goal.loop-i-init
loop-i-init c = let a = c.args in (sym (high_none a.s.now a.at a.k), rw (sub_self a.k) (lit< tt))

pub overflow_add-at : goal.overflow_add-at
overflow_add-at c = omega (arith, fits_true _ _ _ (sym c.fits.ensures ∙ c.if-not-fits.false))

pub bounds-s-at : goal.bounds-s-at
bounds-s-at c = omega (arith, fits_true _ _ _ (sym c.fits.ensures ∙ c.if-not-fits.false))

pub overflow_mul-x : goal.overflow_mul-x
overflow_mul-x c = omega (arith, low_room _ _ _ c.loop-i-test.true (fits_true _ _ _ (sym c.fits.ensures ∙ c.if-not-fits.false)).0 c.loop-i.invariant.1)

pub overflow_add-x : goal.overflow_add-x
overflow_add-x c =
    let r = low_room _ _ _ c.loop-i-test.true (fits_true _ _ _ (sym c.fits.ensures ∙ c.if-not-fits.false)).0 c.loop-i.invariant.1 in
    omega (arith, c.from.ensures, c.type_inv.s (c.args.at + (c.loop-i.i - 1)))

pub loop-i-preserved : goal.loop-i-preserved
loop-i-preserved c =
    let f = fits_true _ _ _ (sym c.fits.ensures ∙ c.if-not-fits.false) in
    let b : c.from.result < 256 = omega (arith, c.from.ensures, c.type_inv.s (c.args.at + (c.loop-i.i - 1))) in
    let h = c.loop-i.invariant in (
      ap₂ (λ (b y : ℕ). b + 256 * y) c.from.ensures h.0 ∙ sym (high_next _ _ _ _ c.loop-i-test.true c.loop-i.auto.i f.1),
      low_next _ _ _ _ c.loop-i-test.true c.loop-i.auto.i b h.1,
    )

pub returns : goal.returns
returns c =
    let e : c.loop-i.i ≡ 0 = omega arith in
    ap Some (rw e at c.loop-i.invariant.0) ∙ sym (high_all _ _ _ (sym c.fits.ensures ∙ c.if-not-fits.false))
