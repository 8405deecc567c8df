-- Decide keeps what holds: a commit takes the largest proposal, which is the own number of one node and of no other writer.
-- Assumes nothing.
use mathlib.Core.Path.{◌≡◌, refl, sym, ap, subst, fun_ext, ◌∙◌}
use mathlib.Core.Logic.{◌≢◌}
use mathlib.Core.Bool.{true, false, cond}
use mathlib.Core.List.{List}
use Prim.Native.Nat.{ℕ, ◌≤◌, ◌<◌}
use native.Mathlib.Omega.{arith}
use native.Mathlib.Decide.{ℕ_discrete}
use lib.Dec.{ltb, eqb}
use borrow.Author.Tests.{ltb-true, ltb-false, eqb-true, eqb-false, not-true}
use Rattle.tables.proofs.Choice.{by_test}
use Rattle.tables.proofs.Table.{put_size, put_other}
use Rattle.tables.proofs.Loop.{any_at, largest_reached, Reached, empty, reached}
use Rattle.tables.proofs.Tests.{Passed}
use Rattle.counters.specs.declared.Counters.{Counters}
use Rattle.kinds.specs.declared.Step.{Step}
use Rattle.kinds.specs.declared.Kind.TheVariants.{Decide as decide}
use Rattle.group.specs.declared.Slot.{Slot}
use Rattle.group.specs.declared.Stage.{Stage}
use Rattle.group.specs.declared.Stage.TheVariants.{Committed, Aborted}
use Rattle.group.specs.declared.Turn.{Turn}
use Rattle.group.specs.declared.Answer.TheVariants as Answer
use Rattle.group.specs.Answer.{turn}
use Rattle.group.specs.State.{State, sent, voted_no, voted_yes, tag_at, stage_number, ask_of, note_of, final_of, at_stage, slot_at, counters_at}
use Rattle.decide.specs.Decide.{refused_by, lacking, decide_tests, final, decide_turn}
use Rattle.decide.proofs.Reasons.{final_most}
use Rattle.desk.specs.Desk.{turned}
use Rattle.score.specs.Place.{place_of, desk_of, put_back}
use Rattle.desk.specs.Acts.{needs, does}
use Rattle.serial.specs.Serial.{Handed}
use Rattle.serial.proofs.Inv.{Ground, Inv, Nodes, Slots, Transaction, Writes, writes}
use Rattle.serial.proofs.Decided.{decided}
use Rattle.serial.proofs.Views.{All, Sizes, asks_of, fixed_at, ground_of, links_of, nodes_of, notes_of, set_slot, slots_of}
use Rattle.serial.proofs.Stages.{aborts, final_here, snap_here, stage_here, turned_slot, undecided}

module _ (first : ℕ → ℕ) (s : State) (H : List Handed) (a : All first s H) (x : Step) (ht : x.slot < 32) where
  abbrev t : ℕ
  t = x.slot

  abbrev G : Ground
  G = ground_of s first

  abbrev C : Nodes
  C = nodes_of s

  abbrev S : Slots
  S = slots_of s

  module _ (e : S.stg t ≡ 4) where
    none_final : S.fin t ≡ 0
    none_final = undecided first s H a x ht 4 e (λ z. omega arith)

    decides : refused_by s.group.nodes s.flight t ≡ false → lacking s.group.nodes s.flight t ≡ false
        → All first (set_slot s t (at_stage (slot_at s t) (Committed (final s.group.nodes s.flight t)))) H
    unfolding refused_by lacking final
    decides no_no no_gap = record {
      sizes = record { counters8 = z.counters8; slots32 = put_size _ _ _ ∙ z.slots32; flight256 = z.flight256; lens256 = z.lens256; versions2048 = z.versions2048; writes1024 = z.writes1024; reads1024 = z.reads1024; nodes_high = z.nodes_high; cells_high = z.cells_high; in_run_lem = z.in_run_lem; held = z.held };
      inv = subst (λ (g : ℕ → ℕ). Inv G C (record { stg = (slots_of s').stg; fin = (slots_of s').fin; snap = g; tag = S.tag; num = S.num; wr = S.wr; rd = S.rd }) (links_of s) (asks_of s') (notes_of s') H) (fun_ext snap)
          (chosen (largest_reached s.group.nodes vote_at));
    }
      where
        z : Sizes s
        z = a.sizes

        f : ℕ
        f = final s.group.nodes s.flight t

        st : Stage
        st = Committed f

        s' : State
        s' = set_slot s t (at_stage (slot_at s t) st)

        b : Transaction G C S t
        b = a.inv.deciding t ht

        away_slot : (u : ℕ) → u ≢ t → slot_at s' u ≡ slot_at s u
        away_slot u d = put_other s.group.slots t (at_stage (slot_at s t) st) u _ d

        snap : (u : ℕ) → S.snap u ≡ (slots_of s').snap u
        snap u = elim (ℕ_discrete u t) [ yes d ↦ rw d (sym (snap_here first s H a x ht st)) | no d ↦ ap (λ (y : Slot). fixed_at y.snapshot) (sym (away_slot u d)) ]

        vote_at : ℕ → ℕ
        vote_at n = cond (eqb (S.tag t n) voted_yes) (S.num t n) 0

        inside : (n : ℕ) → n < 8 → 1 ≤ S.tag t n → n < s.group.nodes
        inside n hn l = by_test (ltb n s.group.nodes) (λ y. ltb-true _ _ y) (λ y. absurd (omega (arith, b.outside n hn (ltb-false _ _ y))))

        all_yes : (n : ℕ) → n < 8 → 1 ≤ S.tag t n → S.tag t n ≡ 3
        all_yes n hn l = let h = inside n hn l in
            omega (arith, b.voting n hn e, eqb-false (S.tag t n) 2 (any_at (λ i. eqb (tag_at s.flight t i) voted_no) s.group.nodes no_no n h), eqb-false (S.tag t n) 1 (any_at (λ i. eqb (tag_at s.flight t i) sent) s.group.nodes no_gap n h))

        largest_of : (n : ℕ) → n < 8 → S.tag t n ≡ 3 → S.num t n ≤ f
        largest_of n hn y = final_most s.group.nodes s.flight t n (inside n hn (omega arith)) y

        positive : 0 < f
        positive = some_vote (b.votes e)
          where
            some_vote : Writes G S t → 0 < f
            some_vote (writes c hc l w) = let h = z.held c l in let hn : h.0 < 8 = omega (arith, z.nodes_high, h.1) in
                let y = all_yes h.0 hn (b.sent h.0 c hn hc e h.2 (omega arith)) in
                omega (arith, largest_of h.0 hn y, a.inv.counting.pending t h.0 ht hn (omega arith) (omega arith))

        chosen : Reached s.group.nodes vote_at f → Inv G C (record { stg = (slots_of s').stg; fin = (slots_of s').fin; snap = S.snap; tag = S.tag; num = S.num; wr = S.wr; rd = S.rd }) (links_of s) (asks_of s') (notes_of s') H
        chosen (empty y) = absurd (omega (arith, positive))
        chosen (reached p hp y) = by_test (eqb (S.tag t p) voted_yes)
            (λ d. decided G C S (slots_of s').stg (slots_of s').fin (links_of s) (asks_of s) (asks_of s') (notes_of s) (notes_of s') H t f p
            (λ u i. ap (λ (j : Slot). ask_of j.stage) (away_slot u i)) (λ u i. ap (λ (j : Slot). note_of j.stage) (away_slot u i))
            (record {
              slot_low = ht;
              voting = e;
              positive = positive;
              stg_here = stage_here first s H a x ht st;
              fin_here = final_here first s H a x ht st;
              stg_away = λ u i. ap (λ (j : Slot). stage_number j.stage) (away_slot u i);
              fin_away = λ u i. ap (λ (j : Slot). final_of j.stage) (away_slot u i);
              all_yes = all_yes;
              largest = largest_of;
              node_low = omega (arith, z.nodes_high);
              its_tag = eqb-true _ _ d;
              its_num = rw d at y;
            }) a.inv)
            (λ d. absurd (omega (arith, rw d at y, positive)))

  pub decide_keeps : Passed (needs (desk_of s x) x decide) → All first (put_back s x (does (desk_of s x) x decide).desk) H
  unfolding needs does desk_of decide_tests decide_turn
  decide_keeps o = by_test (refused_by s.group.nodes s.flight t)
      (λ b. subst (λ (z : Turn). All first (put_back s x (turned (desk_of s x) z).desk) H) (sym (turns_no b)) (turned_slot first s H a x ht (turn Answer.Aborted (at_stage (slot_at s t) Aborted) k) refl
      (aborts first s H a x ht (omega (arith, e)) (none_final e) (λ n hn. (a.inv.deciding t ht).voting n hn e))))
      (λ b. subst (λ (z : Turn). All first (put_back s x (turned (desk_of s x) z).desk) H) (sym (turns_yes b)) (turned_slot first s H a x ht (turn (Answer.Committed f) (at_stage (slot_at s t) (Committed f)) k) refl
      (decides e b (not-true _ (rw b at o.1.0)))))
    where
      e : S.stg t ≡ 4
      e = eqb-true _ _ o.0

      k : Counters
      k = counters_at s (place_of s x)

      f : ℕ
      f = final s.group.nodes s.flight t

      turns_no : refused_by s.group.nodes s.flight t ≡ true → decide_turn (slot_at s t) k s.group.nodes s.flight t ≡ turn Answer.Aborted (at_stage (slot_at s t) Aborted) k
      turns_no b = rw (b, decide_turn)

      turns_yes : refused_by s.group.nodes s.flight t ≡ false → decide_turn (slot_at s t) k s.group.nodes s.flight t ≡ turn (Answer.Committed f) (at_stage (slot_at s t) (Committed f)) k
      turns_yes b = rw (b, decide_turn)
