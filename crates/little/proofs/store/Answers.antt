-- `little::store` meets its contract.
-- Assumes nothing.
use mathlib.Core.Path.{◌≡◌, sym, ◌∙◌}
use native.Mathlib.Omega.{arith}
use Rattle.little.proofs.Laws.{fits_true, stored_out, rest_none, rest_all, rest_next}
use Rattle.little.proofs.store.Goals as goal

pub returns-then-not-fits : goal.returns-then-not-fits
returns-then-not-fits c = let e = sym c.fits.ensures ∙ c.if-not-fits.true in (sym e, sym (stored_out _ _ _ _ e))

pub loop-i-init : goal.loop-i-init
loop-i-init c = rest_all _ _ _ _ (sym c.fits.ensures ∙ c.if-not-fits.false)

pub overflow_add-out : goal.overflow_add-out
overflow_add-out c = omega (arith, fits_true _ _ _ (sym c.fits.ensures ∙ c.if-not-fits.false))

pub bounds-out-at : goal.bounds-out-at
bounds-out-at c = omega (arith, c.loop-i.auto.out, fits_true _ _ _ (sym c.fits.ensures ∙ c.if-not-fits.false))

pub loop-i-preserved : goal.loop-i-preserved
loop-i-preserved c = c.loop-i.invariant ∙ rest_next _ _ _ _ _ c.loop-i-test.true

pub returns : goal.returns
returns c =
    let e : c.loop-i.i ≡ c.args.k = omega arith in
    (sym (sym c.fits.ensures ∙ c.if-not-fits.false), sym (c.loop-i.invariant ∙ rw e (rest_none _ _ _ _)))
