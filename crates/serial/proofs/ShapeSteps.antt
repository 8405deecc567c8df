-- Every step keeps the shape of a state.
-- Assumes nothing.
use mathlib.Core.Path.{◌≡◌, refl, sym, ap, subst, ◌∙◌}
use mathlib.Core.Bool.{Bool, true, false, cond}
use mathlib.Core.List.{List}
use Prim.Native.Nat.{ℕ, ◌/◌, ◌%◌, ◌≤◌, ◌<◌}
use native.Mathlib.Omega.{arith}
use lib.Dec.{leb, ltb}
use borrow.Author.Tests.{ltb-true, ltb-false, leb-true, eqb-true}
use Rattle.std.specs.Prelude.{Option, None, Some}
use Rattle.tables.specs.Table.{at}
use Rattle.tables.specs.Pair.{pair, word}
use Rattle.tables.specs.Tests.{refusal}
use Rattle.tables.proofs.Choice.{by_test, and_true}
use Rattle.tables.proofs.Pair.{pair_low}
use Rattle.tables.proofs.Tests.{Passed, passed}
use Rattle.counters.specs.Counters.{counted_to, committed_at}
use Rattle.counters.specs.declared.Counters.{Counters}
use Rattle.kinds.specs.declared.Step.{Step}
use Rattle.kinds.specs.declared.Kind.{Kind}
use Rattle.kinds.specs.declared.Kind.TheVariants.{Begin as begin, Write as write, Ask as ask, Serve as serve, Return as return, Commit as commit, Prepare as prepare, Decide as decide, GiveUp as give_up, Learn as learn, Apply as apply, Advance as advance, Abandon as abandon}
use Rattle.kinds.specs.Kinds.{named}
use Rattle.number.specs.Proposal.{proposal, IsProposal, number}
use Rattle.number.proofs.Laws.{proposal_is}
use Rattle.chain.specs.declared.Chains.{Chains}
use Rattle.group.specs.declared.Refusal.{Refusal}
use Rattle.group.specs.declared.Slot.{Slot}
use Rattle.group.specs.declared.Stage.TheVariants.{Voting, Committed, Aborted}
use Rattle.group.specs.declared.Answer.TheVariants as Answer
use Rattle.group.specs.Answer.{code, turn}
use Rattle.group.specs.State.{State, voted_no, voted_yes, to_apply, finished, entered, writer, involved, committed, stage_number, final_of, in_stage, at_stage, slot_at, counters_at}
use Rattle.vote.specs.declared.Reason.{Reason}
use Rattle.vote.specs.Vote.{prepare_tests, reason, vote_for, vote, prepare_turn, prepare_flight}
use Rattle.decide.specs.Decide.{commit_turn, sent_to, commit_flight, refused_by, decide_tests, final, decide_turn}
use Rattle.learn.specs.Learn.{learn_tests, learn_turn, learn_flight}
use Rattle.settle.specs.Settle.{applied, apply_chains, apply_flight}
use Rattle.settle.specs.Settle as Settle
use Rattle.life.specs.Life.{give_up_tests, abandon_tests}
use Rattle.desk.specs.Desk.{turned, with_flight}
use Rattle.score.specs.Place.{place_of, desk_of, put_back}
use Rattle.desk.specs.Acts.{field_tests, needs, does, cuts, refuses, judge, act}
use Rattle.score.specs.Steps.{step_whole}
use Rattle.serial.specs.Serial.{Handed}
use Rattle.settle.proofs.Reasons.{First, first as first_of, apply_first}
use Rattle.serial.proofs.Inv.{Slots, Writes, writes}
use Rattle.serial.proofs.Views.{All, Sizes, fixed_at, ground_of, same_slot, set_counters, set_slot, set_tables, slots_of}
use Rattle.serial.proofs.Rows.{sent_away, sent_here, sent_not, sent_rows}
use Rattle.serial.proofs.Change.{moved, slot_here}
use Rattle.serial.proofs.Shape.{Shape, Touches, entry_shape, moved_shape, stage_shape, touches, uncounted}
use Rattle.serial.proofs.Steps.{FieldsIn, at_kind, fields_in, final_low}
use Rattle.serial.proofs.ShapeTurns.{aborts_early, aborts_voting, ask_shape, begin_shape, by_turn, involved_touches, return_shape, same_shape, serve_shape, stages, turned_shape, write_shape}

module _ (first : ℕ → ℕ) (s : State) (H : List Handed) (a : All first s H) (b : Shape s) (x : Step) where
  abbrev t : ℕ
  t = x.slot

  abbrev S : Slots
  S = slots_of s

  abbrev m : ℕ
  m = place_of s x

  abbrev z : Sizes s
  z = a.sizes

  module _ (ht : x.slot < 32) where
    -- ---- commit

    commits_shape : S.stg t ≡ 1 → (w : Bool) → writer s.group.cells s.writes t ≡ w
        → Shape (put_back s x (turned (with_flight (desk_of s x) (cond w (sent_to s.group.nodes s.group.cells s.group.masks s.flight s.writes s.reads t) s.flight)) (commit_turn (slot_at s t) (counters_at s m) w)).desk)
    unfolding desk_of put_back commit_turn
    commits_shape e false w = uncounted s m (counters_at s m) t (at_stage (slot_at s t) (Committed 0)) s.flight s.chains s.writes s.reads (stages first s H a b x ht (Committed 0) (omega (arith, e)) (λ y. omega arith) refl (omega arith))
    commits_shape e true w = uncounted s m (counters_at s m) t y f s.chains s.writes s.reads (moved_shape s t y f s.writes s.reads z ht (sent_rows s t z) (record {
      early = λ n h l. (goes n h).1;
      late = λ n h d. (goes n h).1;
      reads = (b.slots t ht).reads;
      origin = λ l. (b.slots t ht).origin (omega (arith, e));
      updates = λ c h l i. (b.slots t ht).updates c h (omega (arith, e)) i;
      fixed = λ c h l i. rw (ap (λ (j : Slot). fixed_at j.snapshot) now) ((b.slots t ht).fixed c h (omega (arith, e)) i);
      spread = λ n h l. touched₁ ((goes n h).0 l);
      aborted = λ d. absurd (omega (arith, ap (λ (j : Slot). stage_number j.stage) now));
      author = λ l. absurd (omega (arith, ap (λ (y : Slot). final_of y.stage) now));
      small = omega arith;
    }) b)
      where
        y : Slot
        y = at_stage (slot_at s t) Voting

        f : List ℕ
        f = sent_to s.group.nodes s.group.cells s.group.masks s.flight s.writes s.reads t

        s' : State
        s' = moved s t y f s.writes s.reads

        now : slot_at s' t ≡ y
        now = slot_here s t y f s.writes s.reads z ht

        touched₁ : {n : ℕ} → Touches (ground_of s (λ c. 0)) S t n → Touches (ground_of s (λ c. 0)) (slots_of s') t n
        touched₁ (touches c hc h l) = touches c hc h l

        idle : (n : ℕ) → n < 8 → S.tag t n ≡ 0
        idle n h = (a.inv.deciding t ht).early n h (omega (arith, e))

        -- sent there, or as it was
        asis : (n : ℕ) → n < 8 → at f (pair 8 t n) 0 ≡ at s.flight (pair 8 t n) 0 → (1 ≤ (slots_of s').tag t n → Touches (ground_of s (λ c. 0)) S t n) × ((slots_of s').num t n ≡ 0)
        asis n h d = (λ l. absurd (omega (arith, ap (◌/ word) d, idle n h)), ap (◌% word) d ∙ (b.slots t ht).early n h (omega (arith, idle n h)))

        goes : (n : ℕ) → n < 8 → (1 ≤ (slots_of s').tag t n → Touches (ground_of s (λ c. 0)) S t n) × ((slots_of s').num t n ≡ 0)
        goes n h = by_test (ltb n s.group.nodes)
            (λ d. by_test (involved s.group.cells s.group.masks s.writes s.reads t n)
            (λ i. (λ l. involved_touches s t n z.cells_high i, ap (◌% word) (sent_here s.group.nodes s.group.cells s.group.masks s.flight s.writes s.reads t n z.flight256 ht z.nodes_high (ltb-true _ _ d) i) ∙ pair_low word 1 0 (omega arith)))
            (λ i. asis n h (sent_not s.group.nodes s.group.cells s.group.masks s.flight s.writes s.reads t n z.flight256 ht z.nodes_high (ltb-true _ _ d) i)))
            (λ d. asis n h (sent_away s.group.nodes s.group.cells s.group.masks s.flight s.writes s.reads t t n z.nodes_high h (λ i. ltb-false _ _ d)))

    commit_shape : Passed (needs (desk_of s x) x commit) → Shape (put_back s x (does (desk_of s x) x commit).desk)
    unfolding needs does desk_of commit_flight
    commit_shape o = commits_shape (eqb-true _ _ o.0) (writer s.group.cells s.writes t) refl

    -- ---- decide, give_up, abandon

    decide_shape : Passed (needs (desk_of s x) x decide) → Shape (put_back s x (does (desk_of s x) x decide).desk)
    unfolding needs does desk_of decide_tests decide_turn
    decide_shape o = by_test (refused_by s.group.nodes s.flight t)
        (λ d. by_turn first s H a b x (decide_turn (slot_at s t) k s.group.nodes s.flight t) (turn Answer.Aborted (at_stage (slot_at s t) Aborted) k) (rw (d, decide_turn)) (turned_shape first s H a b x (turn Answer.Aborted (at_stage (slot_at s t) Aborted) k) (aborts_voting first s H a b x ht e)))
        (λ d. by_turn first s H a b x (decide_turn (slot_at s t) k s.group.nodes s.flight t) (turn (Answer.Committed f) (at_stage (slot_at s t) (Committed f)) k) (rw (d, decide_turn)) (turned_shape first s H a b x (turn (Answer.Committed f) (at_stage (slot_at s t) (Committed f)) k) (stage_shape s t (Committed f) z ht (omega (arith, e)) (λ d. absurd (omega arith)) (λ l. again ((a.inv.deciding t ht).votes e)) (omega arith) b)))
      where
        k : Counters
        k = counters_at s m

        f : ℕ
        f = final s.group.nodes s.flight t

        e : S.stg t ≡ 4
        e = eqb-true _ _ o.0

        again : Writes (ground_of s first) S t → Writes (ground_of s (λ c. 0)) S t
        again (writes c hc i w) = writes c hc i w

    give_up_shape : Passed (needs (desk_of s x) x give_up) → Shape (put_back s x (does (desk_of s x) x give_up).desk)
    unfolding needs does desk_of give_up_tests
    give_up_shape o = turned_shape first s H a b x (turn Answer.Aborted (at_stage (slot_at s t) Aborted) (counters_at s m)) (aborts_voting first s H a b x ht (eqb-true _ _ o.0))

    abandon_shape : Passed (needs (desk_of s x) x abandon) → Shape (put_back s x (does (desk_of s x) x abandon).desk)
    unfolding needs does desk_of abandon_tests
    abandon_shape o = let w = and_true (leb 1 (S.stg t)) (leb (S.stg t) 3) o.0 in
        turned_shape first s H a b x (turn Answer.Aborted (at_stage (slot_at s t) Aborted) (counters_at s m)) (aborts_early first s H a b x ht (omega (arith, leb-true 1 (S.stg t) w.0)) (omega (arith, leb-true (S.stg t) 3 w.1)))

  -- ---- entries

  -- one entry of a transaction that has one there, with the slot as it was
  entered_shape : (c : Counters) (u n g k : ℕ) (h : Chains) → u < 32 → n < 8 → k < word → 1 ≤ S.tag u n → 1 ≤ g → (g < 3 → k ≡ 0) → (g ≡ 5 → k ≡ 0)
      → Shape (set_tables (set_slot (set_counters s m c) t (slot_at s t)) (entered s.flight u n g k) h s.writes s.reads)
  entered_shape c u n g k h hu hn hk was now low high = uncounted s m c t (slot_at s t) (entered s.flight u n g k) h s.writes s.reads
      (subst (λ (y : State). Shape (set_tables y (entered s.flight u n g k) h s.writes s.reads)) (sym (same_slot s t)) (entry_shape s u n g k h z hu hn hk was now low high b))

  module _ (hn : x.node < s.group.nodes) where
    abbrev n : ℕ
    n = x.node

    hn8 : n < 8
    hn8 = omega (arith, z.nodes_high)

    votes_shape : x.slot < 32 → S.tag t n ≡ 1 → (r : Option Reason) (p : Option ℕ) → IsProposal n (counters_at s m).counter p
        → Shape (put_back s x (turned (with_flight (desk_of s x) (prepare_flight s.flight t n (vote_for r p))) (prepare_turn (slot_at s t) (counters_at s m) (vote_for r p))).desk)
    unfolding desk_of put_back
    votes_shape ht e None None q = entered_shape (counters_at s m) t n voted_no 0 s.chains ht hn8 (omega arith) (omega (arith, e)) (omega arith) (λ l. refl) (λ l. refl)
    votes_shape ht e None (Some k) (number above own small fewest) =
        entered_shape (counted_to (counters_at s m) k) t n voted_yes k s.chains ht hn8 (omega arith) (omega (arith, e)) (omega arith) (λ l. absurd (omega arith)) (λ l. absurd (omega arith))
    votes_shape ht e (Some i) p q = entered_shape (counters_at s m) t n voted_no 0 s.chains ht hn8 (omega arith) (omega (arith, e)) (omega arith) (λ l. refl) (λ l. refl)

    prepare_shape : x.slot < 32 → place_of s x ≡ n → Passed (needs (desk_of s x) x prepare) → Shape (put_back s x (does (desk_of s x) x prepare).desk)
    unfolding needs does desk_of prepare_tests vote
    prepare_shape ht p o = votes_shape ht (eqb-true _ _ o.1.0)
        (reason (slot_at s t) (counters_at s m) s.group.cells s.group.masks s.flight s.chains s.writes s.reads t n) (proposal n (counters_at s m).counter) (proposal_is n (counters_at s m).counter)

    learn_shape : x.slot < 32 → Passed (needs (desk_of s x) x learn) → Shape (put_back s x (does (desk_of s x) x learn).desk)
    unfolding needs does desk_of put_back learn_tests learn_turn learn_flight
    learn_shape ht o = by_test (in_stage (slot_at s t) committed)
        (λ e. rw (e, learn_turn, learn_flight) (entered_shape (counted_to (counters_at s m) (S.fin t)) t n to_apply (S.fin t) s.chains ht hn8 (final_low first s H a t ht) low (omega arith) (λ l. absurd (omega arith)) (λ l. absurd (omega arith))))
        (λ e. rw (e, learn_turn, learn_flight) (entered_shape (counters_at s m) t n finished 0 s.chains ht hn8 (omega arith) low (omega arith) (λ l. refl) (λ l. refl)))
      where
        low : 1 ≤ S.tag t n
        low = leb-true _ _ (and_true _ _ o.1.0).0

    apply_shape : Passed (needs (desk_of s x) x apply) → Shape (put_back s x (does (desk_of s x) x apply).desk)
    unfolding needs does desk_of put_back
    apply_shape o = goes (Settle.least s.flight n) (apply_first s.flight n o)
      where
        goes : (r : Option ℕ) → First s.flight n r
            → Shape (set_tables (set_slot (set_counters s m (committed_at (counters_at s m) (applied s.flight n r))) t (slot_at s t))
            (apply_flight s.flight n r) (apply_chains s.group.cells s.group.masks s.flight s.chains s.writes n r) s.writes s.reads)
        goes None x = elim x [ ]
        goes (Some u) (first_of hu d l) = entered_shape _ u n finished 0 _ hu hn8 (omega arith) (omega (arith, d)) (omega arith) (λ l. refl) (λ l. refl)

  -- ---- counters alone

  counted_shape : (c : Counters) → Shape (set_tables (set_slot (set_counters s m c) t (slot_at s t)) s.flight s.chains s.writes s.reads)
  counted_shape c = uncounted s m c t (slot_at s t) s.flight s.chains s.writes s.reads (same_shape first s H a b x)

  advance_shape : Shape (put_back s x (does (desk_of s x) x advance).desk)
  unfolding does desk_of put_back
  advance_shape = counted_shape _

  cut_shape : (k : Kind) → Shape (put_back s x (cuts (desk_of s x) x k).desk)
  unfolding cuts desk_of put_back
  cut_shape k = counted_shape _

  refused_shape : (c : ℕ) → Shape (put_back s x (refuses (desk_of s x) c).desk)
  unfolding desk_of put_back
  refused_shape c = counted_shape _

  -- ---- every step

  kinds_shape : (k : Kind) → named x.kind ≡ k → FieldsIn s x k → Passed (needs (desk_of s x) x k) → Shape (put_back s x (does (desk_of s x) x k).desk)
  kinds_shape begin e f o = begin_shape first s H a b x (f.slot refl) (f.node refl) o
  kinds_shape write e f o = write_shape first s H a b x (f.slot refl) (f.cell refl) o
  kinds_shape ask e f o = ask_shape first s H a b x (f.slot refl) o
  kinds_shape serve e f o = serve_shape first s H a b x (f.slot refl) o
  kinds_shape return e f o = return_shape first s H a b x (f.slot refl) o
  kinds_shape commit e f o = commit_shape (f.slot refl) o
  kinds_shape prepare e f o = prepare_shape (f.node refl) (f.slot refl) (at_kind s x prepare e) o
  kinds_shape decide e f o = decide_shape (f.slot refl) o
  kinds_shape give_up e f o = give_up_shape (f.slot refl) o
  kinds_shape learn e f o = learn_shape (f.node refl) (f.slot refl) o
  kinds_shape apply e f o = apply_shape (f.node refl) o
  kinds_shape advance e f o = advance_shape
  kinds_shape abandon e f o = abandon_shape (f.slot refl) o

  judged_shape : (r : Option Refusal) → refusal (field_tests s.group.nodes s.group.cells x (needs (desk_of s x) x (named x.kind))) ≡ r
      → Shape (put_back s x (judge r (desk_of s x) (cond (leb 128 x.kind) (cuts (desk_of s x) x (named x.kind)) (does (desk_of s x) x (named x.kind)))).desk)
  judged_shape None e = let o = passed _ e in
      by_test (leb 128 x.kind) (λ d. rw d (cut_shape (named x.kind))) (λ d. rw d (kinds_shape (named x.kind) refl (fields_in s x (named x.kind) (needs (desk_of s x) x (named x.kind)) refl o) o.1.1.1))
  judged_shape (Some c) e = refused_shape (code c)

  pub step_shape : Shape (step_whole s x).state
  unfolding step_whole act desk_of
  step_shape = judged_shape _ refl
