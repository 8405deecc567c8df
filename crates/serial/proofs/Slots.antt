-- The kinds of step that only move a transaction on: begin, write, ask, give up, abandon.
-- Assumes nothing.
use mathlib.Core.Path.{◌≡◌, refl, sym, ap, subst, ◌∙◌}
use mathlib.Core.Logic.{◌≢◌}
use mathlib.Core.Bool.{true, false}
use mathlib.Core.List.{List}
use Prim.Native.Nat.{ℕ, suc, ◌+◌, ◌-◌, ◌≤◌, ◌<◌}
use native.Mathlib.Omega.{arith}
use native.Mathlib.Decide.{ℕ_discrete}
use borrow.Author.Tests.{leb-true, eqb-true}
use Rattle.std.specs.Prelude.{None, Option, Some}
use Rattle.tables.specs.Table.{at, put}
use Rattle.tables.specs.Pair.{pair, word}
use Rattle.tables.proofs.Choice.{by_test, and_true}
use Rattle.tables.proofs.Table.{put_same, put_other}
use Rattle.tables.proofs.Pair.{pair_inj}
use Rattle.tables.proofs.Tests.{Passed}
use Rattle.kinds.specs.declared.Step.{Step}
use Rattle.kinds.specs.declared.Kind.TheVariants.{Begin as begin, Write as write, Ask as ask, GiveUp as give_up, Abandon as abandon}
use Rattle.group.specs.declared.Slot.{Slot}
use Rattle.group.specs.declared.Stage.{Stage}
use Rattle.group.specs.declared.Stage.TheVariants.{Asking, Aborted}
use Rattle.group.specs.State.{State, holds, noted, has, stage_number, final_of, at_stage, slot_at, counters_at}
use Rattle.counters.specs.declared.Counters.{Counters}
use Rattle.group.specs.declared.Turn.{Turn}
use Rattle.group.specs.declared.Answer.TheVariants.{Done, Value}
use Rattle.group.specs.Answer.{turn}
use Rattle.ask.specs.Ask.{ask_tests, ask_for, ask_turn}
use Rattle.desk.specs.Desk.{turned}
use Rattle.score.specs.Place.{place_of, desk_of, put_back}
use Rattle.life.specs.Life.{begin_tests, opens, cleared, write_tests, give_up_tests, abandon_tests}
use Rattle.desk.specs.Acts.{needs, does}
use Rattle.serial.specs.Serial.{Handed}
use Rattle.serial.proofs.Inv.{Ground, Nodes, Slots}
use Rattle.serial.proofs.Views.{All, fixed_at, ground_of, nodes_of, same_slot, set_slot, slots_of}
use Rattle.serial.proofs.Rows.{Rows, cleared_here, cleared_rows, written_rows}
use Rattle.serial.proofs.Change.{early_one, moved, no_read, nothing_new, quietly, slot_here}
use Rattle.serial.proofs.Stages.{aborts, final_here, free, restaged, snap_here, stage_here, turned_slot, undecided, unmoved}

module _ (first : ℕ → ℕ) (s : State) (H : List Handed) (a : All first s H) (x : Step) (ht : x.slot < 32) where
  abbrev t : ℕ
  t = x.slot

  abbrev S : Slots
  S = slots_of s

  pub begin_keeps : Passed (needs (desk_of s x) x begin) → All first (put_back s x (does (desk_of s x) x begin).desk) H
  unfolding needs does desk_of put_back begin_tests
  begin_keeps o = unmoved first s H a x ht (opens x) s.flight w r (quietly s t (opens x) s.flight w r first H H ht rows
      (free S S' t (undecided first s H a x ht 0 e (λ z. omega arith)) (ap (λ (y : Slot). final_of y.stage) here) (λ n hn. omega (arith, none n hn)) (λ l. absurd (omega (arith, unfixed))) (λ c hc l. absurd (omega (arith, unfixed))))
      (early_one G C S' t (ap (λ (y : Slot). final_of y.stage) here) (λ c hc l b. absurd (omega (arith, cleared_here s.writes t c a.sizes.writes1024 ht hc))) (λ c hc. omega (arith, cleared_here s.writes t c a.sizes.writes1024 ht hc))
      (omega (arith, opened)) none)
      (no_read G C S' t _ _ (λ z. omega (arith, opened)) (λ z. omega (arith, opened)) (λ z. absurd (omega (arith, opened))) (omega (arith, ap (λ (y : Slot). fixed_at y.snapshot) here))) (nothing_new G C S' H) a)
    where
      G : Ground
      G = ground_of s first

      C : Nodes
      C = nodes_of s

      w : List ℕ
      w = cleared s.writes t

      r : List ℕ
      r = cleared s.reads t

      S' : Slots
      S' = slots_of (moved s t (opens x) s.flight w r)

      e : S.stg t ≡ 0
      e = eqb-true _ _ o.0

      unfixed : S.snap t ≡ 0
      unfixed = (a.inv.reading t ht).unused e

      none : (n : ℕ) → n < 8 → S.tag t n ≡ 0
      none n hn = (a.inv.deciding t ht).early n hn (omega (arith, e))

      here : slot_at (moved s t (opens x) s.flight w r) t ≡ opens x
      here = slot_here s t (opens x) s.flight w r a.sizes ht

      opened : S'.stg t ≡ 1
      opened = ap (λ (y : Slot). stage_number y.stage) here

      rows : Rows s t s.flight w r
      rows = cleared_rows s t a.sizes

  pub write_keeps : x.cell < s.group.cells → x.value < word → Passed (needs (desk_of s x) x write) → All first (put_back s x (does (desk_of s x) x write).desk) H
  unfolding needs does desk_of put_back write_tests
  write_keeps hc hv o = unmoved first s H a x ht y s.flight w s.reads (quietly s t y s.flight w s.reads first H H ht rows
      (free S S' t (undecided first s H a x ht 1 e (λ z. omega arith)) (ap (λ (z : Slot). final_of z.stage) here ∙ undecided first s H a x ht 1 e (λ z. omega arith)) (λ n hn. omega (arith, none n hn)) (λ l. ap (λ (z : Slot). fixed_at z.snapshot) here) (λ c h l b. b))
      (early_one G C S' t (ap (λ (z : Slot). final_of z.stage) here ∙ undecided first s H a x ht 1 e (λ z. omega arith)) in_run values (omega (arith, still, e)) none)
      (no_read G C S' t _ _ (λ z. omega (arith, still, e)) (λ z. omega (arith, still, e)) (λ z. absurd (omega (arith, still, e))) (omega (arith, ap (λ (z : Slot). fixed_at z.snapshot) here, (a.inv.reading t ht).bounded))) (nothing_new G C S' H) a)
    where
      G : Ground
      G = ground_of s first

      C : Nodes
      C = nodes_of s

      y : Slot
      y = slot_at s t

      w : List ℕ
      w = put s.writes (pair 32 t x.cell) (x.value + 1)

      S' : Slots
      S' = slots_of (moved s t y s.flight w s.reads)

      e : S.stg t ≡ 1
      e = eqb-true _ _ o.0

      none : (n : ℕ) → n < 8 → S.tag t n ≡ 0
      none n hn = (a.inv.deciding t ht).early n hn (omega (arith, e))

      here : slot_at (moved s t y s.flight w s.reads) t ≡ y
      here = slot_here s t y s.flight w s.reads a.sizes ht

      still : S'.stg t ≡ S.stg t
      still = ap (λ (z : Slot). stage_number z.stage) here

      rows : Rows s t s.flight w s.reads
      rows = written_rows s t x.cell (x.value + 1) a.sizes (omega (arith, a.sizes.cells_high))

      -- the cell that was written, or another
      wrote : (c : ℕ) → c < 32 → c ≡ x.cell → S'.wr t c ≡ x.value + 1
      wrote c h z = ap (λ (k : ℕ). at w (pair 32 t k) 0) z ∙ put_same s.writes (pair 32 t x.cell) _ 0 (omega (arith, a.sizes.writes1024, a.sizes.cells_high))

      other : (c : ℕ) → c < 32 → c ≢ x.cell → S'.wr t c ≡ S.wr t c
      other c h d = put_other s.writes _ _ (pair 32 t c) 0 (λ z. d (pair_inj 32 t c t x.cell h (omega (arith, a.sizes.cells_high)) z).1)

      in_run : (c : ℕ) → c < 32 → 0 < S'.stg t → 0 < S'.wr t c → c < s.group.cells
      in_run c h l b = elim (ℕ_discrete c x.cell) [ yes z ↦ rw z hc | no z ↦ (a.inv.deciding t ht).in_run c h (omega (arith, e)) (rw (other c h z) at b) ]

      values : (c : ℕ) → c < 32 → S'.wr t c ≤ word
      values c h = elim (ℕ_discrete c x.cell) [ yes z ↦ rw (wrote c h z) (omega arith) | no z ↦ rw (other c h z) ((a.inv.deciding t ht).values c h) ]

  pub give_up_keeps : Passed (needs (desk_of s x) x give_up) → All first (put_back s x (does (desk_of s x) x give_up).desk) H
  unfolding needs does desk_of put_back give_up_tests
  give_up_keeps o = let e : S.stg t ≡ 4 = eqb-true _ _ o.0 in
      unmoved first s H a x ht (at_stage (slot_at s t) Aborted) s.flight s.writes s.reads (aborts first s H a x ht (omega (arith, e)) (undecided first s H a x ht 4 e (λ z. omega arith)) (λ n hn. (a.inv.deciding t ht).voting n hn e))

  pub abandon_keeps : Passed (needs (desk_of s x) x abandon) → All first (put_back s x (does (desk_of s x) x abandon).desk) H
  unfolding needs does desk_of put_back abandon_tests
  abandon_keeps o = let r = and_true _ _ o.0 in let l : 1 ≤ S.stg t = leb-true _ _ r.0 in let h : S.stg t ≤ 3 = leb-true _ _ r.1 in
      unmoved first s H a x ht (at_stage (slot_at s t) Aborted) s.flight s.writes s.reads
      (aborts first s H a x ht l (undecided first s H a x ht (S.stg t) refl (λ z. omega arith)) (λ n hn. omega (arith, (a.inv.deciding t ht).early n hn (omega arith))))

  pub ask_keeps : (counters_at s (place_of s x)).commit < word → x.node < s.group.nodes → x.cell < s.group.cells → Passed (needs (desk_of s x) x ask) → All first (put_back s x (does (desk_of s x) x ask).desk) H
  unfolding needs does desk_of ask_tests ask_turn
  ask_keeps low hn hc o = by_test (has s.writes t x.cell)
      (λ e. subst (λ (z : Turn). All first (put_back s x (turned (desk_of s x) z).desk) H) (sym (own e)) (turned_slot first s H a x ht (turn (Value 0 (noted s.writes t x.cell - 1)) (slot_at s t) k) refl (subst (λ (z : State). All first z H) (sym (same_slot s t)) a)))
      (λ e. subst (λ (z : Turn). All first (put_back s x (turned (desk_of s x) z).desk) H) (sym (other e))
      (turned_slot first s H a x ht (turn (Done 0) (at_stage (slot_at s t) st) k) refl (restaged first s H a x ht st (undecided first s H a x ht 1 opened (λ z. omega arith)) refl
      (early_one G C S' t (final_here first s H a x ht st) (λ c h l b. (a.inv.deciding t ht).in_run c h (omega (arith, opened)) b) (a.inv.deciding t ht).values (omega (arith, stage_here first s H a x ht st)) none)
      (record {
        asked = λ z. asked (slot_at s t).snapshot (a.inv.reading t ht).bounded low e;
        exact = λ z f. exact (slot_at s t).snapshot (snap_here first s H a x ht st) f;
        served = λ z. absurd (omega (arith, stage_here first s H a x ht st));
        same = λ z. absurd (omega (arith, stage_here first s H a x ht st));
        unused = λ z. absurd (omega (arith, stage_here first s H a x ht st));
        bounded = omega (arith, snap_here first s H a x ht st, (a.inv.reading t ht).bounded);
      }))))
    where
      G : Ground
      G = ground_of s first

      C : Nodes
      C = nodes_of s

      k : Counters
      k = counters_at s (place_of s x)

      st : Stage
      st = Asking (ask_for (slot_at s t).snapshot k.commit x.node x.cell)

      S' : Slots
      S' = slots_of (set_slot s t (at_stage (slot_at s t) st))

      opened : S.stg t ≡ 1
      opened = eqb-true _ _ o.0

      none : (n : ℕ) → n < 8 → S.tag t n ≡ 0
      none n h = (a.inv.deciding t ht).early n h (omega (arith, opened))

      own : has s.writes t x.cell ≡ true → ask_turn (slot_at s t) k s.writes t x.node x.cell ≡ turn (Value 0 (noted s.writes t x.cell - 1)) (slot_at s t) k
      own e = rw (e, ask_turn)

      other : has s.writes t x.cell ≡ false → ask_turn (slot_at s t) k s.writes t x.node x.cell ≡ turn (Done 0) (at_stage (slot_at s t) st) k
      other e = rw (e, ask_turn)

      held : has s.writes t x.cell ≡ false → holds s.group.masks x.node x.cell ≡ true
      held e = (and_true _ _ (rw e at o.1.0)).0

      asked : (p : Option ℕ) → fixed_at p ≤ word → k.commit < word → has s.writes t x.cell ≡ false
          → ((ask_for p k.commit x.node x.cell).node < 8) × ((ask_for p k.commit x.node x.cell).cell < 32) × (holds s.group.masks (ask_for p k.commit x.node x.cell).node (ask_for p k.commit x.node x.cell).cell ≡ true) × ((ask_for p k.commit x.node x.cell).carried < word)
      asked None b l e = (omega (arith, a.sizes.nodes_high), omega (arith, a.sizes.cells_high), held e, l)
      asked (Some z) b l e = (omega (arith, a.sizes.nodes_high), omega (arith, a.sizes.cells_high), held e, omega arith)

      exact : (p : Option ℕ) → S'.snap t ≡ fixed_at p → 0 < S'.snap t → ((ask_for p k.commit x.node x.cell).exact ≡ true) × (S'.snap t ≡ suc (ask_for p k.commit x.node x.cell).carried)
      exact None e l = absurd (omega arith)
      exact (Some z) e l = (refl, e)
