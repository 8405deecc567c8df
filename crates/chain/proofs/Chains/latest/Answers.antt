-- `chain::Chains::latest` meets its contract: a chain with no version, or its last one.
-- Assumes nothing.
use mathlib.Core.Path.{sym, ap, ◌∙◌}
use Rattle.chain.specs.declared.Version.{Version}
use Rattle.chain.proofs.Laws.{latest_none, latest_some}
use Rattle.chain.proofs.Chains.latest.Goals as goal

pub returns-then-n-eq0 : goal.returns-then-n-eq0
returns-then-n-eq0 c = sym (latest_none _ _ _ _ (sym c.size-n.ensures ∙ c.if-n-eq0.true))

pub returns : goal.returns
returns c = let e = c.size-n.ensures in
    ap (λ (v : Version). v.number) c.version.ensures ∙ rw e (sym (latest_some _ _ _ _ (λ z. c.if-n-eq0.false (e ∙ z))))
