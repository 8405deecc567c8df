-- One slot changes its stage, and with it no table: what such a change keeps.
-- Assumes nothing.
use mathlib.Core.Path.{◌≡◌, refl, sym, ap, subst, ◌∙◌}
use mathlib.Core.Logic.{◌≢◌}
use mathlib.Core.List.{List}
use Prim.Native.Nat.{ℕ, ◌≤◌, ◌<◌}
use native.Mathlib.Omega.{arith}
use Rattle.kinds.specs.declared.Step.{Step}
use Rattle.group.specs.declared.Slot.{Slot}
use Rattle.group.specs.declared.Stage.{Stage}
use Rattle.group.specs.declared.Stage.TheVariants.{Unused, Open, Asking, Served, Voting, Committed, Aborted}
use Rattle.group.specs.State.{State, stage_number, ask_of, note_of, final_of, at_stage, slot_at, counters_at}
use Rattle.counters.specs.declared.Counters.{Counters}
use Rattle.group.specs.declared.Turn.{Turn}
use Rattle.desk.specs.Desk.{turned}
use Rattle.score.specs.Place.{place_of, desk_of, put_back}
use Rattle.serial.specs.Serial.{Handed}
use Rattle.serial.proofs.Inv.{Ground, Nodes, Reading, Slots, Transaction}
use Rattle.serial.proofs.Quiet.{QuietAt}
use Rattle.serial.proofs.Views.{All, fixed_at, ground_of, nodes_of, same_counters, set_counters, set_slot, set_tables, slots_of}
use Rattle.serial.proofs.Rows.{no_rows}
use Rattle.serial.proofs.Change.{aborted_one, no_read, nothing_new, quietly, slot_here}

-- no final number but for a committed one
pub no_final : (st : Stage) → stage_number st ≢ 5 → final_of st ≡ 0
no_final Unused h = refl
no_final Open h = refl
no_final (Asking a) h = refl
no_final (Served v) h = refl
no_final Voting h = refl
no_final (Committed k) h = absurd (h refl)
no_final Aborted h = refl

-- a transaction with nothing pending after the change, that keeps what it was handed
pub free :
    (S S' : Slots) (t : ℕ) → S.fin t ≡ 0 → S'.fin t ≡ 0 → ((n : ℕ) → n < 8 → S'.tag t n ≤ 2) → (0 < S.snap t → S'.snap t ≡ S.snap t)
    → ((c : ℕ) → c < 32 → 0 < S.snap t → 0 < S.rd t c → 0 < S'.rd t c) → QuietAt S S' t
free S S' t f f' low fixed joined = record {
  none = f;
  none' = f';
  tag = λ n hn l. absurd (omega (arith, low n hn));
  num = λ n hn l. absurd (omega (arith, low n hn));
  wr = λ n c hn hc l. absurd (omega (arith, low n hn));
  rd = λ n c hn hc l. absurd (omega (arith, low n hn));
  snap = λ n hn l. absurd (omega (arith, low n hn));
  fixed = fixed;
  joined = joined;
}

-- a transaction whose entries, writes, reads and snapshot stay
pub stage_only :
    (S S' : Slots) (t : ℕ) → S.fin t ≡ 0 → S'.fin t ≡ 0 → ((n : ℕ) → n < 8 → S'.tag t n ≡ S.tag t n) → ((n : ℕ) → n < 8 → S'.num t n ≡ S.num t n)
    → ((c : ℕ) → c < 32 → S'.wr t c ≡ S.wr t c) → ((c : ℕ) → c < 32 → S'.rd t c ≡ S.rd t c) → S'.snap t ≡ S.snap t → QuietAt S S' t
stage_only S S' t f f' tag num wr rd snap = record {
  none = f;
  none' = f';
  tag = λ n hn l h. tag n hn;
  num = λ n hn l h. num n hn;
  wr = λ n c hn hc l h. wr c hc;
  rd = λ n c hn hc l h. rd c hc;
  snap = λ n hn l h. snap;
  fixed = λ l. snap;
  joined = λ c hc l b. rw (rd c hc) b;
}

module _ (first : ℕ → ℕ) (s : State) (H : List Handed) (a : All first s H) (x : Step) (ht : x.slot < 32) where
  abbrev t : ℕ
  t = x.slot

  abbrev S : Slots
  S = slots_of s

  -- before it is decided, a transaction has no final number
  pub undecided : (k : ℕ) → S.stg t ≡ k → k ≢ 5 → S.fin t ≡ 0
  undecided k e d = no_final (slot_at s t).stage (λ z. d (sym e ∙ z))

  -- whatever is put back, the node's counters are as they were
  pub unmoved : (y : Slot) (f w r : List ℕ) → All first (set_tables (set_slot s t y) f s.chains w r) H
      → All first (set_tables (set_slot (set_counters s (place_of s x) (counters_at s (place_of s x))) t y) f s.chains w r) H
  unmoved y f w r b = subst (λ (z : State). All first (set_tables (set_slot z t y) f s.chains w r) H) (sym (same_counters s (place_of s x))) b

  -- a slot at another stage, with nothing else changed: the transaction had no final number and has none
  pub restaged :
      (st : Stage) → S.fin t ≡ 0 → final_of st ≡ 0 → Transaction (ground_of s first) (nodes_of s) (slots_of (set_slot s t (at_stage (slot_at s t) st))) t
      → Reading (ground_of s first) (nodes_of s) (slots_of (set_slot s t (at_stage (slot_at s t) st))) t (ask_of st) (note_of st) → All first (set_slot s t (at_stage (slot_at s t) st)) H
  restaged st f f' own its =
      quietly s t y s.flight s.writes s.reads first H H ht (no_rows s t a.sizes)
      (stage_only S (slots_of (set_slot s t y)) t f (ap (λ (z : Slot). final_of z.stage) here ∙ f') (λ n hn. refl) (λ n hn. refl) (λ c hc. refl) (λ c hc. refl) (ap (λ (z : Slot). fixed_at z.snapshot) here))
      own its (nothing_new (ground_of s first) (nodes_of s) (slots_of (set_slot s t y)) H) a
    where
      y : Slot
      y = at_stage (slot_at s t) st

      here : slot_at (set_slot s t y) t ≡ y
      here = slot_here s t y s.flight s.writes s.reads a.sizes ht

  pub stage_here : (st : Stage) → (slots_of (set_slot s t (at_stage (slot_at s t) st))).stg t ≡ stage_number st
  stage_here st = ap (λ (z : Slot). stage_number z.stage) (slot_here s t (at_stage (slot_at s t) st) s.flight s.writes s.reads a.sizes ht)

  pub final_here : (st : Stage) → (slots_of (set_slot s t (at_stage (slot_at s t) st))).fin t ≡ final_of st
  final_here st = ap (λ (z : Slot). final_of z.stage) (slot_here s t (at_stage (slot_at s t) st) s.flight s.writes s.reads a.sizes ht)

  pub snap_here : (st : Stage) → (slots_of (set_slot s t (at_stage (slot_at s t) st))).snap t ≡ S.snap t
  snap_here st = ap (λ (z : Slot). fixed_at z.snapshot) (slot_here s t (at_stage (slot_at s t) st) s.flight s.writes s.reads a.sizes ht)

  -- aborted, from a stage in which nothing is learned
  pub aborts : 0 < S.stg t → S.fin t ≡ 0 → ((n : ℕ) → n < 8 → S.tag t n ≤ 3) → All first (set_slot s t (at_stage (slot_at s t) Aborted)) H
  aborts l f low =
      restaged Aborted f refl
      (aborted_one G C S' t (final_here Aborted) (λ c hc k b. (a.inv.deciding t ht).in_run c hc l b) (a.inv.deciding t ht).values (stage_here Aborted) (λ n hn. omega (arith, low n hn)) (a.inv.deciding t ht).outside (λ n hn z. omega (arith, low n hn)))
      (no_read G C S' t _ _ (λ z. omega (arith, stage_here Aborted)) (λ z. omega (arith, stage_here Aborted)) (λ z. absurd (omega (arith, stage_here Aborted))) (omega (arith, snap_here Aborted, (a.inv.reading t ht).bounded)))
    where
      G : Ground
      G = ground_of s first

      C : Nodes
      C = nodes_of s

      S' : Slots
      S' = slots_of (set_slot s t (at_stage (slot_at s t) Aborted))

  -- what lies on the desk after a turn that moved the slot alone
  pub turned_slot : (z : Turn) → z.counters ≡ counters_at s (place_of s x) → All first (set_slot s t z.slot) H → All first (put_back s x (turned (desk_of s x) z).desk) H
  unfolding desk_of put_back
  turned_slot z e b = subst (λ (c : Counters). All first (set_tables (set_slot (set_counters s (place_of s x) c) t z.slot) s.flight s.chains s.writes s.reads) H) (sym e)
      (unmoved z.slot s.flight s.writes s.reads b)
