-- Every step keeps what holds: refused, cut and whole.
-- Assumes nothing.
use mathlib.Core.Path.{◌≡◌, refl, sym, ap, subst, ◌∙◌}
use mathlib.Core.Logic.{◌≢◌}
use mathlib.Core.Bool.{Bool, true, false, cond}
use mathlib.Core.List.Memᴰ
use mathlib.Core.List.{List, [], ◌∷◌, ◌++◌}
use Prim.Native.Nat.{ℕ, ◌%◌, ◌≤◌, ◌<◌}
use native.Mathlib.Omega.{arith}
use lib.Dec.{leb, ltb, eqb}
use borrow.Author.Tests.{ltb-true, ltb-false, eqb-true, ne_eqb}
use Rattle.std.specs.Prelude.{Option, None, Some}
use Rattle.tables.specs.Table.{at}
use Rattle.tables.specs.Pair.{word}
use Rattle.tables.specs.Tests.{refusal}
use Rattle.tables.proofs.Choice.{by_test}
use Rattle.tables.proofs.Tests.{Passed, passed}
use Rattle.counters.specs.Counters.{counted_to}
use Rattle.counters.specs.declared.Counters.{Counters}
use Rattle.kinds.specs.declared.Step.{Step}
use Rattle.kinds.specs.declared.Kind.{Kind}
use Rattle.kinds.specs.declared.Kind.TheVariants.{Begin as begin, Write as write, Ask as ask, Serve as serve, Return as return, Commit as commit, Prepare as prepare, Decide as decide, GiveUp as give_up, Learn as learn, Apply as apply, Advance as advance, Abandon as abandon}
use Rattle.kinds.specs.Kinds.{named}
use Rattle.number.specs.Proposal.{proposal, IsProposal, number}
use Rattle.number.proofs.Laws.{proposal_is}
use Rattle.group.specs.declared.Refusal.{Refusal}
use Rattle.group.specs.declared.Answer.{Answer}
use Rattle.group.specs.declared.Answer.TheVariants.{Value, Aborted}
use Rattle.group.specs.Answer.{said, code}
use Rattle.group.specs.State.{State, note_of, slot_at, counters_at}
use Rattle.whole.specs.Whole.{whole}
use Rattle.read.specs.Read.{spoilt, return_turn}
use Rattle.vote.specs.declared.Reason.{Reason}
use Rattle.vote.specs.Vote.{reason, vote_for, vote, vote_rise}
use Rattle.learn.specs.Learn.{learn_tests}
use Rattle.desk.specs.Desk.{Outcome}
use Rattle.score.specs.Place.{node_of, place_of, desk_of, put_back}
use Rattle.desk.specs.Acts.{field_tests, needs, does, rise, cuts, refuses, judge, act}
use Rattle.score.specs.Steps.{step_whole, step_of}
use Rattle.desk.proofs.Fields.{Fields, fields_passed}
use Rattle.desk.proofs.Codes.{Accepted, refused_coded}
use Rattle.serial.specs.Serial.{Handed, Run, handed_by, next, run_of, Steps32}
use Rattle.serial.proofs.Views.{slots_of, All, set_counters, set_slot, same_counters, same_slot}
use Rattle.serial.proofs.Change.{any_counters, counted_to_lem}
use Rattle.serial.proofs.Slots.{begin_keeps, write_keeps, ask_keeps, give_up_keeps, abandon_keeps}
use Rattle.serial.proofs.Reading.{serve_keeps, handing, return_hands, return_spoils, read_low, note_low}
use Rattle.serial.proofs.Committing.{commit_keeps}
use Rattle.serial.proofs.Preparing.{prepare_keeps}
use Rattle.serial.proofs.Deciding.{decide_keeps}
use Rattle.serial.proofs.Learning.{learn_keeps}
use Rattle.serial.proofs.Applying.{apply_keeps, advance_keeps}

-- ---- what is handed

-- only a return hands out of the store
pub nothing_handed : (s : State) (x : Step) (r : Answer) → eqb x.kind 5 ≡ false → handed_by s x r ≡ []
nothing_handed s x r e = by_test (eqb (said r).code 1) (λ c. rw (c, e)) (λ c. rw c)

-- kind 5 is return
five : (k : ℕ) → named k ≢ return → eqb k 5 ≡ false
unfolding named at
five k d = by_test (eqb k 5) (λ e. absurd (d (ap named (eqb-true k 5 e)))) (λ e. e)

-- any kind but return
abbrev Other : Kind → Type 0
Other begin = Unit {0}
Other write = Unit {0}
Other ask = Unit {0}
Other serve = Unit {0}
Other return = ⊥
Other commit = Unit {0}
Other prepare = Unit {0}
Other decide = Unit {0}
Other give_up = Unit {0}
Other learn = Unit {0}
Other apply = Unit {0}
Other advance = Unit {0}
Other abandon = Unit {0}

other : (k : Kind) → Other k → k ≢ return
other k o z = subst Other z o

-- fewer values to explain
fewer : (first : ℕ → ℕ) (s : State) (h : Handed) (H : List Handed) → All first s (h ∷ H) → All first s H
fewer first s h H a = record {
  sizes = a.sizes;
  inv = record {
    counting = a.inv.counting;
    numbering = a.inv.numbering;
    deciding = a.inv.deciding;
    locking = a.inv.locking;
    chaining = a.inv.chaining;
    reading = a.inv.reading;
    handing = record { given = λ g m. a.inv.handing.given g (Memᴰ.tail m); took = λ g m. a.inv.handing.took g (Memᴰ.tail m) };
  };
}

-- ---- the fields that a kind uses

abbrev pub FieldsIn : State → Step → Kind → Type 0
FieldsIn s x k = Fields s.group.nodes s.group.cells x k

pub fields_in : (s : State) (x : Step) (k : Kind) (ts : List (Bool × Refusal)) → named x.kind ≡ k → Passed (field_tests s.group.nodes s.group.cells x ts) → FieldsIn s x k
fields_in s x k ts e o = fields_passed s.group.nodes s.group.cells x k ts e o

-- the step's node, by its kind
pub at_kind : (s : State) (x : Step) (k : Kind) → named x.kind ≡ k → place_of s x ≡ node_of k (slot_at s x.slot) x.node
at_kind s x k e = ap (λ (j : Kind). node_of j (slot_at s x.slot) x.node) e

-- a final number is one that a node has counted
pub final_low : (first : ℕ → ℕ) (s : State) (H : List Handed) → All first s H → (t : ℕ) → t < 32 → (slots_of s).fin t < word
final_low first s H a t ht = by_test (ltb 0 ((slots_of s).fin t))
    (λ z. omega (arith, a.inv.numbering.given t ht (ltb-true _ _ z), a.inv.counting.fits ((slots_of s).fin t % 8) (omega arith))) (λ z. omega (arith, ltb-false))

-- ---- a whole step

module _ (first : ℕ → ℕ) (s : State) (H : List Handed) (a : All first s H) (x : Step) (hv : x.value < word) where
  abbrev After : Outcome → Type 0
  After o = All first (put_back s x o.desk) (handed_by s x o.answer ++ H)

  quietly_done : (k : Kind) → Other k → named x.kind ≡ k → All first (put_back s x (does (desk_of s x) x k).desk) H → After (does (desk_of s x) x k)
  quietly_done k d e b = subst (λ (l : List Handed). All first (put_back s x (does (desk_of s x) x k).desk) (l ++ H))
      (sym (nothing_handed s x (does (desk_of s x) x k).answer (five x.kind (λ z. other k d (sym e ∙ z))))) b

  returns : FieldsIn s x return → Passed (needs (desk_of s x) x return) → After (does (desk_of s x) x return)
  unfolding needs does desk_of return_turn
  returns f o = by_test (spoilt (slot_at s x.slot))
      (λ b. subst (λ (r : Answer). All first (put_back s x (does (desk_of s x) x return).desk) (handed_by s x r ++ H)) (sym (spoils b)) (return_spoils first s H a x ht e b))
      (λ b. subst (λ (r : Answer). All first (put_back s x (does (desk_of s x) x return).desk) (handed_by s x r ++ H)) (sym (hands b))
      (by_test (eqb x.kind 5) (λ z. rw z (return_hands first s H a x ht e b)) (λ z. rw z (fewer first _ (handing first s H a x ht) H (return_hands first s H a x ht e b)))))
    where
      ht : x.slot < 32
      ht = f.slot refl

      e : (slots_of s).stg x.slot ≡ 3
      e = eqb-true _ _ o.0

      spoils : spoilt (slot_at s x.slot) ≡ true → (return_turn (slot_at s x.slot) (counters_at s (place_of s x))).answer ≡ Aborted
      spoils b = rw (b, return_turn)

      hands : spoilt (slot_at s x.slot) ≡ false → (return_turn (slot_at s x.slot) (counters_at s (place_of s x))).answer ≡ Value (note_of (slot_at s x.slot).stage).s (note_of (slot_at s x.slot).stage).value
      hands b = rw (b, return_turn)

  kinds_keep : (k : Kind) → named x.kind ≡ k → FieldsIn s x k → Passed (needs (desk_of s x) x k) → After (does (desk_of s x) x k)
  kinds_keep begin e f o = quietly_done begin tt e (begin_keeps first s H a x (f.slot refl) o)
  kinds_keep write e f o = quietly_done write tt e (write_keeps first s H a x (f.slot refl) (f.cell refl) hv o)
  kinds_keep ask e f o = quietly_done ask tt e (ask_keeps first s H a x (f.slot refl) (omega (arith, any_counters first s H a (place_of s x))) (f.node refl) (f.cell refl) o)
  kinds_keep serve e f o = quietly_done serve tt e (serve_keeps first s H a x (f.slot refl) (at_kind s x serve e) o)
  kinds_keep return e f o = returns f o
  kinds_keep commit e f o = quietly_done commit tt e (commit_keeps first s H a x (f.slot refl) o)
  kinds_keep prepare e f o = quietly_done prepare tt e (prepare_keeps first s H a x (f.slot refl) (f.node refl) (at_kind s x prepare e) o)
  kinds_keep decide e f o = quietly_done decide tt e (decide_keeps first s H a x (f.slot refl) o)
  kinds_keep give_up e f o = quietly_done give_up tt e (give_up_keeps first s H a x (f.slot refl) o)
  kinds_keep learn e f o = quietly_done learn tt e (learn_keeps first s H a x (f.slot refl) (f.node refl) (at_kind s x learn e) o)
  kinds_keep apply e f o = quietly_done apply tt e (apply_keeps first s H a x (f.node refl) (at_kind s x apply e) o)
  kinds_keep advance e f o = quietly_done advance tt e (advance_keeps first s H a x (f.node refl) (at_kind s x advance e) o)
  kinds_keep abandon e f o = quietly_done abandon tt e (abandon_keeps first s H a x (f.slot refl) o)

  -- ---- a cut step

  -- what a yes vote raises the counter to is a number
  votes_low : (c : Counters) (n : ℕ) (r : Option Reason) (p : Option ℕ) → IsProposal n c.counter p → vote_rise (vote_for r p) < word
  votes_low c n None None q = omega arith
  votes_low c n None (Some k) (number b o l m) = omega arith
  votes_low c n (Some i) p q = omega arith

  rises_low : (k : Kind) → named x.kind ≡ k → FieldsIn s x k → Passed (needs (desk_of s x) x k) → rise (desk_of s x) x k < word
  unfolding rise needs desk_of vote learn_tests
  rises_low begin e f o = omega arith
  rises_low write e f o = omega arith
  rises_low ask e f o = omega arith
  rises_low serve e f o = read_low first s H a x (f.slot refl) (eqb-true _ _ o.0) (at_kind s x serve e)
  rises_low return e f o = note_low first s H a x (f.slot refl) (eqb-true _ _ o.0)
  rises_low commit e f o = omega arith
  rises_low prepare e f o = votes_low (counters_at s (place_of s x)) x.node (reason (slot_at s x.slot) (counters_at s (place_of s x)) s.group.cells s.group.masks s.flight s.chains s.writes s.reads x.slot x.node) (proposal x.node (counters_at s (place_of s x)).counter) (proposal_is x.node (counters_at s (place_of s x)).counter)
  rises_low decide e f o = omega arith
  rises_low give_up e f o = omega arith
  rises_low learn e f o = final_low first s H a x.slot (f.slot refl)
  rises_low apply e f o = omega arith
  rises_low advance e f o = omega arith
  rises_low abandon e f o = omega arith

  cuts_keep : (k : Kind) → named x.kind ≡ k → FieldsIn s x k → Passed (needs (desk_of s x) x k) → After (cuts (desk_of s x) x k)
  unfolding cuts desk_of put_back
  cuts_keep k e f o = subst (λ (z : State). All first z H) (sym (same_slot (set_counters s (place_of s x) (counted_to (counters_at s (place_of s x)) (rise (desk_of s x) x k))) x.slot))
      (counted_to_lem first s H (place_of s x) (rise (desk_of s x) x k) (rises_low k e f o) a)

  -- ---- every step of a state

  -- a code of 16 or more is not that of a value
  refused_same : (c : ℕ) → 16 ≤ c → After (refuses (desk_of s x) c)
  unfolding desk_of put_back
  refused_same c h = rw (ne_eqb c 1 (λ z. omega arith)) (subst (λ (z : State). All first (set_slot z x.slot (slot_at s x.slot)) H) (sym (same_counters s (place_of s x))) (subst (λ (z : State). All first z H) (sym (same_slot s x.slot)) a))

  judged : (r : Option Refusal) → Accepted r → refusal (field_tests s.group.nodes s.group.cells x (needs (desk_of s x) x (named x.kind))) ≡ r
      → After (judge r (desk_of s x) (cond (leb 128 x.kind) (cuts (desk_of s x) x (named x.kind)) (does (desk_of s x) x (named x.kind))))
  judged None h e = let o = passed _ e in let f = fields_in s x (named x.kind) (needs (desk_of s x) x (named x.kind)) refl o in
      by_test (leb 128 x.kind) (λ b. rw b (cuts_keep (named x.kind) refl f o.1.1.1)) (λ b. rw b (kinds_keep (named x.kind) refl f o.1.1.1))
  judged (Some c) h e = refused_same (code c) h.0

  pub whole_step : All first (step_whole s x).state (handed_by s x (step_whole s x).answer ++ H)
  unfolding step_whole act desk_of
  whole_step = judged (refusal (field_tests s.group.nodes s.group.cells x (needs (desk_of s x) x (named x.kind)))) (refused_coded (desk_of s x) x (named x.kind)) refl

pub step_keeps : (first : ℕ → ℕ) (r : Run) (x : Step) → x.value < word → All first r.state r.handed → All first (next r x).state (next r x).handed
unfolding next step_of
step_keeps first r x hv a = by_test (whole r.state) (λ b. rw (b, step_of) (whole_step first r.state r.handed a x hv)) (λ b. rw (b, step_of) a)

-- ---- a run

pub run_keeps : (first : ℕ → ℕ) (xs : List Step) (r : Run) → Steps32 xs → All first r.state r.handed → All first (run_of r xs).state (run_of r xs).handed
unfolding run_of
run_keeps first [] r v a = a
run_keeps first (x ∷ xs) r v a = run_keeps first xs (next r x) (λ y m. v y (Memᴰ.tail m)) (step_keeps first r x (v x (Memᴰ.head refl)) a)
