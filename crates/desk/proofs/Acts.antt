-- Laws of the step of a desk: what each kind comes to, from what its own function ensures.
-- Assumes nothing.
use mathlib.Core.Path.{◌≡◌, refl, sym, ap, ◌∙◌}
use mathlib.Core.Bool.{Bool, true, false, cond, not, ◌&&◌, ◌||◌}
use mathlib.Core.List.{List}
use Prim.Native.Nat.{ℕ}
use lib.Dec.{leb, ltb}
use Rattle.std.specs.Prelude.{Option, None, Some, Result, Ok, Err}
use Rattle.tables.specs.Tests.{refusal}
use Rattle.tables.proofs.Choice.{some_none}
use Rattle.counters.specs.Counters.{counted_to}
use Rattle.counters.specs.declared.Counters.{Counters}
use Rattle.kinds.specs.declared.Kind.{Kind}
use Rattle.kinds.specs.Kinds.{is_known, named, uses_of}
use Rattle.kinds.specs.declared.Step.{Step}
use Rattle.group.specs.declared.Slot.{Slot}
use Rattle.group.specs.declared.Group.{Group}
use Rattle.group.specs.declared.Tables.{Tables}
use Rattle.group.specs.declared.Turn.{Turn}
use Rattle.group.specs.declared.Refusal.{Refusal}
use Rattle.group.specs.declared.Refusal.TheVariants.{NoKind, NoNode, NoPlace}
use Rattle.group.specs.declared.Answer.TheVariants.{Cut}
use Rattle.group.specs.Answer.{code, told, refused_turn, stepped, changed}
use Rattle.desk.specs.Desk.{Desk, desk_on, turned, with_counters}
use Rattle.desk.specs.Acts.{field_tests, needs, does, rise, cuts, judge, act}
use Rattle.desk.specs.Parts.{field_refusal, unless, outcome}

-- ---- refused for its fields, or judged by what its kind needs

-- the first three tests, before o
abbrev first : Bool → Bool → Bool → Option Refusal → Option Refusal
first a b d o = cond a (cond b (cond d o (Some NoPlace)) (Some NoNode)) (Some NoKind)

fail_first : (a b d : Bool) (o : Option Refusal) (why : Refusal) → first a b d None ≡ Some why → first a b d o ≡ Some why
fail_first true true true o why e = absurd (some_none why (sym e))
fail_first true true false o why e = e
fail_first true false d o why e = e
fail_first false b d o why e = e

pass_first : (a b d : Bool) (o : Option Refusal) → first a b d None ≡ None → first a b d o ≡ o
pass_first true true true o e = refl
pass_first true true false o e = absurd (some_none NoPlace e)
pass_first true false d o e = absurd (some_none NoNode e)
pass_first false b d o e = absurd (some_none NoKind e)

module _ (nodes cells : ℕ) (x : Step) (ts : List (Bool × Refusal)) where
  fields_fail : (why : Refusal) → field_refusal nodes cells x ≡ Some why → refusal (field_tests nodes cells x ts) ≡ Some why
  unfolding field_refusal refusal
  fields_fail why e =
      fail_first (is_known x.kind) (not (uses_of x.kind).node || ltb x.node nodes)
      ((not (uses_of x.kind).slot || ltb x.slot 32) && (not (uses_of x.kind).cell || ltb x.cell cells)) (refusal ts) why e

  fields_pass : field_refusal nodes cells x ≡ None → refusal (field_tests nodes cells x ts) ≡ refusal ts
  unfolding field_refusal refusal
  fields_pass e =
      pass_first (is_known x.kind) (not (uses_of x.kind).node || ltb x.node nodes)
      ((not (uses_of x.kind).slot || ltb x.slot 32) && (not (uses_of x.kind).cell || ltb x.cell cells)) (refusal ts) e

ok_err : {A E : Type 0} (x : A) (y : E) → ◌≡◌ {A = Result A E} (Ok x) (Err y) → ⊥
ok_err x y e = cc

unless_err : (o : Option Refusal) (k : Kind) (why : Refusal) → Err why ≡ unless o k → o ≡ Some why
unless_err None k why e = absurd (ok_err k why (sym e))
unless_err (Some w) k why e = let z : why ≡ w = cc in ap Some (sym z)

-- a turn that changes no table leaves all
pub still : (o : Option Refusal) (cut : Bool) (l : Tables) → l ≡ changed o cut l l
still None true l = refl
still None false l = refl
still (Some why) cut l = refl

module _ (g : Group) (tables : Tables) (slot : Slot) (c : Counters) where
  -- the desk before the step
  abbrev q : Desk
  q = desk_on g tables slot c

  -- what a kind's own function ensures is what is judged, cut or done
  settles :
      (o : Option Refusal) (cut : Bool) (k : ℕ) (t : Turn) (after : Tables)
      → outcome (told (stepped o cut slot c k t) slot c) g (changed o cut tables after)
      ≡ judge o q (cond cut (record { answer = Cut; desk = with_counters q (counted_to c k) }) (turned (desk_on g after slot c) t))
  settles None true k t after = refl
  settles None false k t after = refl
  settles (Some why) cut k t after = refl

  module _ (x : Step) where
    pub act_refused :
        (why : Refusal) → field_refusal g.nodes g.cells x ≡ Some why → (r : Turn) → r ≡ refused_turn (code why) slot c
        → outcome r g tables ≡ act q x
    unfolding act
    act_refused why e r p = rw (p, fields_fail g.nodes g.cells x (needs q x (named x.kind)) why e)

    -- refused for its fields
    pub act_unless :
        (k : Result Kind Refusal) → k ≡ unless (field_refusal g.nodes g.cells x) (named x.kind) → (why : Refusal) → k ≡ Err why
        → (r : Result Turn Refusal) → r ≡ Err why → outcome (told r slot c) g tables ≡ act q x
    act_unless k a why b r d = rw d (act_refused why (unless_err _ _ why (sym b ∙ a)) _ refl)

    -- k is the kind of a step that is not refused for its fields; t is its whole turn, and the tables after that are `after`
    pub acts :
        field_refusal g.nodes g.cells x ≡ None → (cut : Bool) → cut ≡ leb 128 x.kind
        → (k : Kind) → named x.kind ≡ k
        → (r : Result Turn Refusal) (t : Turn) → r ≡ stepped (refusal (needs q x k)) cut slot c (rise q x k) t
        → (tables' after : Tables) → tables' ≡ changed (refusal (needs q x k)) cut tables after
        → does q x k ≡ turned (desk_on g after slot c) t
        → outcome (told r slot c) g tables' ≡ act q x
    unfolding act cuts
    acts fine cut cutting k e r t a tables' after b d =
        rw (a, b) (settles (refusal (needs q x k)) cut (rise q x k) t after ∙ sym (rw (e, fields_pass g.nodes g.cells x (needs q x k) fine, ← cutting, d)))
