-- `fresh::fill_lens` meets its contract: every place is written, so that what stood there does not matter.
-- Assumes nothing.
use mathlib.Core.Path.{◌≡◌, refl, ◌∙◌}
use native.Mathlib.Omega.{arith}
use Rattle.tables.proofs.Anew.{anew_again}
use Rattle.fresh.specs.Fresh.{fresh_lens}
use Rattle.fresh.proofs.fill_lens.Goals as goal

pub returns : goal.returns
unfolding fresh_lens
returns c = let l = c.loop-i in
    let e : l.i ≡ 256 = omega arith in
    rw e at l.invariant ∙ anew_again 0 256 _ c.args.lens.now _ (omega arith) refl
