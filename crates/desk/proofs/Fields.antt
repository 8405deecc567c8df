-- The fields of a step that is not refused for them: those that its kind uses are in range.
-- Assumes nothing.
use mathlib.Core.Path.{◌≡◌, refl, ap, ◌∙◌}
use mathlib.Core.Bool.{Bool, true, false, not, ◌||◌}
use mathlib.Core.List.{List, []}
use Prim.Native.Nat.{ℕ, ◌<◌, ◌≤◌}
use native.Mathlib.Omega.{arith}
use borrow.Author.Tests.{ltb-true}
use Rattle.std.specs.Prelude.{None}
use Rattle.tables.specs.Pair.{word}
use Rattle.tables.proofs.Choice.{not_both, and_true}
use Rattle.tables.proofs.Tests.{Passed, passed}
use Rattle.kinds.specs.declared.Kind.{Kind}
use Rattle.kinds.specs.declared.Kind.TheVariants.{Ask}
use Rattle.kinds.specs.declared.Step.{Step}
use Rattle.kinds.specs.declared.Fields.{Fields as Used}
use Rattle.kinds.specs.Kinds.{named, uses_of, uses_by}
use Rattle.kinds.proofs.Laws.{uses_named}
use Rattle.group.specs.declared.Refusal.{Refusal}
use Rattle.group.specs.State.{noted}
use Rattle.desk.specs.Acts.{field_tests}
use Rattle.desk.specs.Ready.{Ready}
use Rattle.desk.specs.Parts.{field_refusal}

pub record Fields (nodes cells : ℕ) (x : Step) (k : Kind) : Type 0 where
  pub node : (uses_by k).node ≡ true → x.node < nodes
  pub slot : (uses_by k).slot ≡ true → x.slot < 32
  pub cell : (uses_by k).cell ≡ true → x.cell < cells

used : (b c : Bool) → (not b || c) ≡ true → b ≡ true → c ≡ true
used true c e d = e
used false c e d = absurd (not_both d refl)

pub fields_passed : (nodes cells : ℕ) (x : Step) (k : Kind) (ts : List (Bool × Refusal)) → named x.kind ≡ k → Passed (field_tests nodes cells x ts) → Fields nodes cells x k
fields_passed nodes cells x k ts e o =
    let u : uses_of x.kind ≡ uses_by k = uses_named x.kind o.0 ∙ ap uses_by e in
    let b = and_true _ _ o.1.1.0 in
    record {
      node = λ d. ltb-true _ _ (used _ _ o.1.0 (ap (λ (f : Used). f.node) u ∙ d));
      slot = λ d. ltb-true _ _ (used _ _ b.0 (ap (λ (f : Used). f.slot) u ∙ d));
      cell = λ d. ltb-true _ _ (used _ _ b.1 (ap (λ (f : Used). f.cell) u ∙ d));
    }

-- an ask's transaction wrote of its cell a value, or nothing
pub asked_value :
    (nodes cells : ℕ) (writes : List ℕ) (x : Step) → Ready cells writes → field_refusal nodes cells x ≡ None → named x.kind ≡ Ask
    → noted writes x.slot x.cell ≤ word
unfolding field_refusal
asked_value nodes cells writes x r fine e =
    let f = fields_passed nodes cells x Ask [] e (passed (field_tests nodes cells x []) fine) in
    r.values x.slot x.cell (f.slot refl) (let c = f.cell refl in let l = r.few in omega arith)
