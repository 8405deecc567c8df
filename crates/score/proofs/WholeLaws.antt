-- Laws of the step of a whole state: what its desk has, and that what lies on the desk is put back.
-- Assumes nothing.
use mathlib.Core.Path.{◌≡◌, refl, sym, ap, ◌∙◌}
use mathlib.Core.Bool.{Bool, true, false, cond, not, ◌||◌}
use mathlib.Core.List.{List}
use Prim.Native.Nat.{ℕ, ◌≤◌, ◌<◌}
use native.Mathlib.Omega.{arith}
use lib.Dec.{ltb}
use borrow.Author.Tests.{le-ltb, ltb-false, leb-true}
use Rattle.std.specs.Prelude.{Option, None, Some}
use Rattle.tables.specs.Table.{at, put}
use Rattle.tables.specs.Pair.{pair}
use Rattle.tables.specs.Tests.{refusal}
use Rattle.tables.proofs.Table.{put_at}
use Rattle.tables.proofs.Choice.{by_test, and_true}
use Rattle.tables.proofs.Pair.{pair_fits}
use Rattle.tables.proofs.Loop.{every_at}
use Rattle.counters.specs.Counters.{zeroed}
use Rattle.counters.specs.declared.Counters.{Counters}
use Rattle.kinds.specs.Kinds.{named, is_known, uses_of}
use Rattle.kinds.specs.declared.Step.{Step}
use Rattle.group.specs.declared.Slot.{Slot}
use Rattle.group.specs.declared.Group.{Group}
use Rattle.group.specs.declared.Tables.{Tables}
use Rattle.group.specs.declared.Turn.{Turn}
use Rattle.group.specs.declared.Refusal.{Refusal}
use Rattle.group.specs.declared.Refusal.TheVariants.{NotWhole, NoKind, NoNode, NoPlace}
use Rattle.group.specs.declared.Answer.{Answer}
use Rattle.group.specs.declared.Answer.TheVariants.{Refused}
use Rattle.group.specs.State.{State, state_of, no_slot, slot_at, counters_at}
use Rattle.group.specs.Answer.{code}
use Rattle.whole.specs.Whole.{note_sound, notes_sound, whole}
use Rattle.whole.proofs.Laws.{counts_in}
use Rattle.desk.specs.Desk.{Outcome, desk_on}
use Rattle.desk.specs.Acts.{act}
use Rattle.desk.specs.Ready.{Ready}
use Rattle.desk.specs.Parts.{field_refusal, outcome}
use Rattle.desk.proofs.Acts.{act_refused}
use Rattle.score.specs.Place.{node_of, place_of, desk_of, put_back}
use Rattle.score.specs.Steps.{Stepped, step_whole, step_of}
use Rattle.score.specs.Parts.{reached}

-- ---- what a whole state says of a step's desk

pub whole_ready : (s : State) → whole s ≡ true → Ready s.group.cells s.writes
unfolding whole notes_sound
whole_ready s e =
    let a = and_true _ _ e in
    let b = and_true _ _ a.0 in
    let c = and_true _ _ b.0 in
    let d = and_true _ _ c.0 in
    let f = and_true _ _ d.0 in
    let g = and_true _ _ f.0 in
    let k = and_true _ _ g.0 in
    record {
      few = (counts_in s.group.nodes s.group.cells k.0).1;
      values = λ t n h l. leb-true _ _ (every_at (note_sound s.writes) 1024 f.1 (pair 32 t n) (pair_fits 32 32 t n h l));
    }

-- ---- what lies on the desk is put back

module _ (g : Group) (tables : Tables) (x : Step) where
  pub put_back_lem :
      (slot : Slot) → slot ≡ at g.slots x.slot no_slot
      → (n : ℕ) → n ≡ node_of (named x.kind) slot x.node
      → (c : Counters) → c ≡ at g.counters n (zeroed 0)
      → (t : Turn) (tables' : Tables) → outcome t g tables' ≡ act (desk_on g tables slot c) x
      → (slots : List Slot) → slots ≡ put g.slots x.slot t.slot
      → (counters : List Counters) → counters ≡ put g.counters n t.counters
      → reached t.answer (record { nodes = g.nodes; cells = g.cells; counters = counters; masks = g.masks; slots = slots }) tables'
      ≡ step_whole (state_of g tables) x
  unfolding step_whole desk_of put_back
  put_back_lem slot a n b c d t tables' e slots o counters p =
      let f = rw (d, b, a) at e in
      rw (← f, o, p, b, a)

-- ---- a step that names no slot

-- there is a refusal
data Refuses (o : Option Refusal) : Type 0 where
  refuses : (why : Refusal) → o ≡ Some why → Refuses o

-- the first three tests, of which the last fails
some_fails : (a b : Bool) → Refuses (cond a (cond b (cond false None (Some NoPlace)) (Some NoNode)) (Some NoKind))
some_fails true true = refuses NoPlace refl
some_fails true false = refuses NoNode refl
some_fails false b = refuses NoKind refl

-- a step that uses a slot past the last is refused for its fields
no_such_slot : (nodes cells : ℕ) (x : Step) → (uses_of x.kind).slot ≡ true → 32 ≤ x.slot → Refuses (field_refusal nodes cells x)
unfolding field_refusal refusal
no_such_slot nodes cells x u h = rw (u, le-ltb x.slot 32 h) (some_fails (is_known x.kind) (not (uses_of x.kind).node || ltb x.node nodes))

module _ (g : Group) (tables : Tables) (x : Step) where
  -- refused whatever lies on its desk, a step leaves the state
  stays : (why : Refusal) → field_refusal g.nodes g.cells x ≡ Some why → reached (Refused (code why)) g tables ≡ step_whole (state_of g tables) x
  unfolding step_whole desk_of put_back
  stays why e =
      let s = state_of g tables in
      let q = act_refused g tables (slot_at s x.slot) (counters_at s (place_of s x)) x why e _ refl in
      rw (← q, put_at g.slots x.slot no_slot, put_at g.counters (place_of s x) (zeroed 0))

  -- so a step may be shown the slot of another place where its own is past the last
  module _ (used : (uses_of x.kind).slot ≡ false → x.slot < 32) (i : ℕ) (place : i ≡ cond (ltb x.slot 32) x.slot 0) where
    pub put_back_at :
        (slot : Slot) → slot ≡ at g.slots i no_slot
        → (n : ℕ) → n ≡ node_of (named x.kind) slot x.node
        → (c : Counters) → c ≡ at g.counters n (zeroed 0)
        → (t : Turn) (tables' : Tables) → outcome t g tables' ≡ act (desk_on g tables slot c) x
        → (slots : List Slot) → slots ≡ put g.slots i t.slot
        → (counters : List Counters) → counters ≡ put g.counters n t.counters
        → reached t.answer (record { nodes = g.nodes; cells = g.cells; counters = counters; masks = g.masks; slots = slots }) tables'
        ≡ step_whole (state_of g tables) x
    put_back_at slot a n b c d t tables' e slots o counters p =
        by_test (ltb x.slot 32) (λ l. inside (place ∙ ap (λ (m : Bool). cond m x.slot 0) l)) (λ l. outside (no_such_slot g.nodes g.cells x (is_used (uses_of x.kind).slot refl l) (ltb-false x.slot 32 l)))
      where
        is_used : (u : Bool) → (uses_of x.kind).slot ≡ u → ltb x.slot 32 ≡ false → u ≡ true
        is_used true q l = refl
        is_used false q l = absurd (omega (arith, used q, ltb-false x.slot 32 l))

        after : Stepped
        after = reached t.answer (record { nodes = g.nodes; cells = g.cells; counters = counters; masks = g.masks; slots = slots }) tables'

        inside : i ≡ x.slot → after ≡ step_whole (state_of g tables) x
        inside j = put_back_lem g tables x slot (rw j at a) n b c d t tables' e slots (rw j at o) counters p

        outside : Refuses (field_refusal g.nodes g.cells x) → after ≡ step_whole (state_of g tables) x
        outside (refuses why q) =
            let r = e ∙ sym (act_refused g tables slot c x why q _ refl) in
            let ts : t.slot ≡ slot = ap (λ (y : Outcome). y.desk.slot) r in
            let tc : t.counters ≡ c = ap (λ (y : Outcome). y.desk.counters) r in
            let ta : t.answer ≡ Refused (code why) = ap (λ (y : Outcome). y.answer) r in
            let k : tables' ≡ tables = ap (λ (y : Outcome). record { flight = y.desk.flight; chains = y.desk.chains; writes = y.desk.writes; reads = y.desk.reads }) r in
            let os : slots ≡ g.slots = o ∙ ap (put g.slots i) (ts ∙ a) ∙ put_at g.slots i no_slot in
            let oc : counters ≡ g.counters = p ∙ ap (put g.counters n) (tc ∙ d) ∙ put_at g.counters n (zeroed 0) in
            rw (ta, k, os, oc) (stays why q)

-- ---- the step of any state

module _ (s : State) (x : Step) where
  pub not_whole : whole s ≡ false → record { answer = Refused (code NotWhole); state = s } ≡ step_of s x
  unfolding step_of
  not_whole e = rw e

  pub is_whole : whole s ≡ true → (o : Stepped) → o ≡ step_whole s x → o ≡ step_of s x
  unfolding step_of
  is_whole e o q = rw e q

  -- two outcomes that meet the step's contract are one: the answer, the group, and every table
  pub step_only :
      (a a' : Answer) (g g' : Group) (t t' : Tables)
      → reached a g t ≡ step_of s x → reached a' g' t' ≡ step_of s x
      → (a ≡ a') × (g ≡ g') × (t ≡ t')
  step_only a a' g g' t t' e q =
      let p = e ∙ sym q in (
        ap (λ (o : Stepped). o.answer) p,
        ap (λ (o : Stepped). o.state.group) p,
        ap (λ (o : Stepped). record { flight = o.state.flight; chains = o.state.chains; writes = o.state.writes; reads = o.state.reads }) p,
      )
