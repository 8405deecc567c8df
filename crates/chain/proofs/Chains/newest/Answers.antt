-- `chain::Chains::newest` meets its contract.
-- Assumes nothing.
use mathlib.Core.Path.{◌≡◌, sym, ap, ◌∙◌}
use Rattle.std.specs.Prelude.{Some}
use native.Mathlib.Omega.{arith}
use Rattle.chain.specs.declared.Version.{Version}
use Rattle.chain.proofs.Laws.{newest_all, newest_none, newest_here, newest_older}
use Rattle.chain.proofs.Chains.newest.Goals as goal

pub loop-i-init : goal.loop-i-init
loop-i-init c = newest_all _ _ _ _ _ ∙ rw c.size-i.ensures

pub returns-then-v-s : goal.returns-then-v-s
returns-then-v-s c = let e = c.version-v.ensures in
    sym (c.loop-i.invariant ∙ newest_here _ _ _ _ _ (omega arith) (rw e at c.if-v-s.true) ∙ ap (λ (v : Version). Some v) (sym e))

pub loop-i-preserved : goal.loop-i-preserved
loop-i-preserved c = let e = c.version-v.ensures in
    c.loop-i.invariant ∙ newest_older _ _ _ _ _ (omega arith) (rw e at c.if-v-s.false)

pub returns : goal.returns
returns c = let l = c.loop-i in
    let e : l.i ≡ 0 = omega arith in
    sym (l.invariant ∙ rw e (newest_none _ _ _ _))
