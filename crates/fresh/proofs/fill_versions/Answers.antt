-- `fresh::fill_versions` meets its contract.
-- Assumes nothing.
use mathlib.Core.Path.{◌≡◌, sym, ap₂, ◌∙◌}
use Prim.Native.Nat.{◌*◌, ◌/◌}
use native.Mathlib.Omega.{arith}
use Rattle.tables.specs.Table.{at, put}
use Rattle.tables.specs.Pair.{pair}
use Rattle.tables.proofs.Loop.{each_none, each_next}
use Rattle.fresh.specs.Fresh.{fresh_versions}
use Rattle.fresh.proofs.fill_versions.Goals as goal

pub loop-i-init : goal.loop-i-init
loop-i-init c = c.requires ∙ sym (each_none _ _ _ _)

pub loop-i-preserved : goal.loop-i-preserved
unfolding at put
loop-i-preserved c =
    let l = c.loop-i in
    let p : l.i * 8 ≡ pair 8 l.i 0 = omega arith in
    let v : c.packed.result ≡ at c.args.values.now (l.i / 8) 0 = omega arith in
    ap₂ (put l.versions) p v ∙ rw l.invariant (sym (each_next _ _ _ _ _))

pub returns : goal.returns
unfolding fresh_versions
returns c = let l = c.loop-i in
    let e : l.i ≡ 256 = omega arith in
    rw e at l.invariant
