-- Begin, write, ask, and rules A and B keep the shape of a state.
-- Assumes nothing.
use mathlib.Core.Path.{◌≡◌, refl, sym, ap, subst, subst₂, ◌∙◌}
use mathlib.Core.Logic.{◌≢◌}
use mathlib.Core.Bool.{Bool, true, false, ◌||◌}
use mathlib.Core.List.{List}
use Prim.Native.Nat.{ℕ, ◌+◌, ◌-◌, ◌≤◌, ◌<◌}
use native.Mathlib.Nat.{mod-lt}
use native.Mathlib.Omega.{arith}
use native.Mathlib.Decide.{ℕ_discrete}
use borrow.Author.Tests.{ltb-true, eqb-true}
use Rattle.std.specs.Prelude.{Option, None, Some}
use Rattle.tables.specs.Table.{put}
use Rattle.tables.specs.Pair.{pair, word}
use Rattle.tables.proofs.Choice.{by_test, and_true}
use Rattle.tables.proofs.Table.{put_same, put_other}
use Rattle.tables.proofs.Pair.{pair_inj}
use Rattle.tables.proofs.Loop.{any_where, Where, found}
use Rattle.tables.proofs.Tests.{Passed}
use Rattle.counters.specs.Counters.{risen_to}
use Rattle.counters.specs.declared.Counters.{Counters}
use Rattle.kinds.specs.declared.Step.{Step}
use Rattle.kinds.specs.declared.Kind.TheVariants.{Begin as begin, Write as write, Ask as ask, Serve as serve, Return as return}
use Rattle.chain.specs.Chain.{newest, version_at}
use Rattle.chain.specs.declared.Version.{Version}
use Rattle.chain.proofs.Laws.{Newest, no_version, version, newest_is}
use Rattle.group.specs.declared.Slot.{Slot}
use Rattle.group.specs.declared.Note.{Note}
use Rattle.group.specs.declared.Stage.{Stage}
use Rattle.group.specs.declared.Stage.TheVariants.{Open, Asking, Served, Aborted}
use Rattle.group.specs.declared.Turn.{Turn}
use Rattle.group.specs.declared.Answer.TheVariants.{Done, Value, Wait}
use Rattle.group.specs.declared.Answer.TheVariants as Answer
use Rattle.group.specs.Answer.{turn}
use Rattle.group.specs.State.{State, noted, has, involved, touched, stage_number, ask_of, note_of, final_of, at_stage, slot_at, counters_at}
use Rattle.ask.specs.Ask.{ask_for, ask_tests, ask_turn}
use Rattle.read.specs.Read.{read_at, blocked, value_of, note_for, wait_for, serve_turn, spoilt, return_turn, return_reads}
use Rattle.desk.specs.Desk.{turned, with_reads}
use Rattle.score.specs.Place.{place_of, desk_of, put_back}
use Rattle.life.specs.Life.{begin_tests, opens, cleared, write_tests}
use Rattle.desk.specs.Acts.{needs, does}
use Rattle.serial.specs.Serial.{Handed}
use Rattle.serial.proofs.Inv.{Given, Slots}
use Rattle.serial.proofs.Views.{All, Sizes, fixed_at, ground_of, nodes_of, same_slot, set_slot, slots_of}
use Rattle.serial.proofs.Rows.{cleared_here, cleared_rows, read_rows, written_rows}
use Rattle.serial.proofs.Change.{moved, slot_here}
use Rattle.serial.proofs.Stages.{no_final}
use Rattle.serial.proofs.Shape.{Shape, Touches, everywhere, moved_shape, nowhere, stage_shape, touches, uncounted}

-- a looked-up value has 32 bits
looked_low : (lens versions : List ℕ) (c n s : ℕ) → value_of (newest lens versions c n s) < word
unfolding version_at
looked_low lens versions c n s = go _ (newest_is lens versions c n s)
  where
    go : (r : Option Version) → Newest lens versions c n s r → value_of r < word
    go None (no_version f) = omega arith
    go (Some v) (version i h l f) = mod-lt _ (omega arith)

-- an involved node holds a cell that was read or written
pub involved_touches : (s : State) (t n : ℕ) → s.group.cells ≤ 32 → involved s.group.cells s.group.masks s.writes s.reads t n ≡ true → Touches (ground_of s (λ c. 0)) (slots_of s) t n
unfolding involved
involved_touches s t n h e = go (any_where s.group.cells (touched s.group.masks s.writes s.reads t n) e)
  where
    go : Where s.group.cells (touched s.group.masks s.writes s.reads t n) true → Touches (ground_of s (λ c. 0)) (slots_of s) t n
    go (found c hc z) = let r = and_true _ _ z in touches c (omega arith) r.0 (either (has s.reads t c) refl r.1)
      where
        either : (b : Bool) → has s.reads t c ≡ b → (has s.reads t c || has s.writes t c) ≡ true → 0 < noted s.reads t c + noted s.writes t c
        either true d y = let l = ltb-true 0 (noted s.reads t c) d in omega arith
        either false d y = let w : has s.writes t c ≡ true = rw d at y in let l = ltb-true 0 (noted s.writes t c) w in omega arith

module _ (first : ℕ → ℕ) (s : State) (H : List Handed) (a : All first s H) (b : Shape s) (x : Step) where
  abbrev t : ℕ
  t = x.slot

  abbrev S : Slots
  S = slots_of s

  abbrev m : ℕ
  m = place_of s x

  abbrev z : Sizes s
  z = a.sizes

  -- a turn that moves the slot and the counters alone
  pub turned_shape : (y : Turn) → Shape (set_slot s t y.slot) → Shape (put_back s x (turned (desk_of s x) y).desk)
  unfolding desk_of put_back
  turned_shape y c = uncounted s m y.counters t y.slot s.flight s.chains s.writes s.reads c

  pub by_turn : (u v : Turn) → u ≡ v → Shape (put_back s x (turned (desk_of s x) v).desk) → Shape (put_back s x (turned (desk_of s x) u).desk)
  by_turn u v e c = subst (λ (y : Turn). Shape (put_back s x (turned (desk_of s x) y).desk)) (sym e) c

  pub same_shape : Shape (set_slot s t (slot_at s t))
  same_shape = subst Shape (sym (same_slot s t)) b

  module _ (ht : x.slot < 32) where
    pub begin_shape : x.node < s.group.nodes → Passed (needs (desk_of s x) x begin) → Shape (put_back s x (does (desk_of s x) x begin).desk)
    unfolding needs does desk_of put_back begin_tests
    begin_shape hn o = uncounted s m (counters_at s m) t (opens x) s.flight s.chains (cleared s.writes t) (cleared s.reads t)
        (moved_shape s t (opens x) s.flight (cleared s.writes t) (cleared s.reads t) z ht (cleared_rows s t z) (record {
          early = λ n h l. (b.slots t ht).early n h l;
          late = λ n h d. absurd (omega (arith, idle n h));
          reads = λ c h. omega (arith, cleared_here s.reads t c z.reads1024 ht h);
          origin = λ l. hn;
          updates = λ c h l w. absurd (omega (arith, cleared_here s.writes t c z.writes1024 ht h));
          fixed = λ c h l w. absurd (omega (arith, cleared_here s.reads t c z.reads1024 ht h));
          spread = λ n h l. absurd (omega (arith, idle n h));
          aborted = λ d. absurd (omega (arith, ap (λ (y : Slot). stage_number y.stage) (slot_here s t (opens x) s.flight (cleared s.writes t) (cleared s.reads t) z ht)));
          author = λ l. absurd (omega (arith, ap (λ (y : Slot). final_of y.stage) (slot_here s t (opens x) s.flight (cleared s.writes t) (cleared s.reads t) z ht)));
          small = omega arith;
        }) b)
      where
        e : S.stg t ≡ 0
        e = eqb-true _ _ o.0

        idle : (n : ℕ) → n < 8 → S.tag t n ≡ 0
        idle n h = (a.inv.deciding t ht).early n h (omega (arith, e))

    pub write_shape : x.cell < s.group.cells → Passed (needs (desk_of s x) x write) → Shape (put_back s x (does (desk_of s x) x write).desk)
    unfolding needs does desk_of put_back write_tests
    write_shape hc o = uncounted s m (counters_at s m) t (slot_at s t) s.flight s.chains w s.reads
        (moved_shape s t (slot_at s t) s.flight w s.reads z ht (written_rows s t x.cell (x.value + 1) z (omega (arith, z.cells_high))) (record {
          early = λ n h l. (b.slots t ht).early n h l;
          late = λ n h d. absurd (omega (arith, idle n h));
          reads = (b.slots t ht).reads;
          origin = λ l. (b.slots t ht).origin (omega (arith, e));
          updates = λ c h l v. o.1.0;
          fixed = λ c h l v. rw (ap (λ (y : Slot). fixed_at y.snapshot) now) ((b.slots t ht).fixed c h (omega (arith, e)) v);
          spread = λ n h l. absurd (omega (arith, idle n h));
          aborted = λ d. absurd (omega (arith, e, ap (λ (y : Slot). stage_number y.stage) now));
          author = λ l. absurd (omega (arith, ap (λ (y : Slot). final_of y.stage) now, no_final (slot_at s t).stage (λ d. omega (arith, e))));
          small = (b.slots t ht).small;
        }) b)
      where
        w : List ℕ
        w = put s.writes (pair 32 t x.cell) (x.value + 1)

        now : slot_at (moved s t (slot_at s t) s.flight w s.reads) t ≡ slot_at s t
        now = slot_here s t (slot_at s t) s.flight w s.reads z ht

        e : S.stg t ≡ 1
        e = eqb-true _ _ o.0

        idle : (n : ℕ) → n < 8 → S.tag t n ≡ 0
        idle n h = (a.inv.deciding t ht).early n h (omega (arith, e))

    -- a stage other than aborted
    pub stages : (st : Stage) → 0 < S.stg t → stage_number st ≢ 6 → final_of st ≡ 0 → (note_of st).value < word → Shape (set_slot s t (at_stage (slot_at s t) st))
    stages st l d f v = stage_shape s t st z ht l (λ e. absurd (d e)) (λ k. absurd (omega arith)) v b

    -- aborted from a stage with no entries, and from voting
    pub aborts_early : 0 < S.stg t → S.stg t < 4 → Shape (set_slot s t (at_stage (slot_at s t) Aborted))
    aborts_early l h = stage_shape s t Aborted z ht l (λ e. nowhere (λ n hn. (a.inv.deciding t ht).early n hn h)) (λ k. absurd (omega arith)) (omega arith) b

    pub aborts_voting : S.stg t ≡ 4 → Shape (set_slot s t (at_stage (slot_at s t) Aborted))
    aborts_voting e = stage_shape s t Aborted z ht (omega (arith, e)) (λ d. everywhere (λ n c hn hc o l. (a.inv.deciding t ht).sent n c hn hc e o l)) (λ k. absurd (omega arith)) (omega arith) b

    pub ask_shape : Passed (needs (desk_of s x) x ask) → Shape (put_back s x (does (desk_of s x) x ask).desk)
    unfolding needs does desk_of ask_tests ask_turn
    ask_shape o = by_test (has s.writes t x.cell)
        (λ d. by_turn (ask_turn (slot_at s t) (counters_at s m) s.writes t x.node x.cell) (turn (Value 0 (noted s.writes t x.cell - 1)) (slot_at s t) k) (rw (d, ask_turn)) (turned_shape (turn (Value 0 (noted s.writes t x.cell - 1)) (slot_at s t) k) same_shape))
        (λ d. by_turn (ask_turn (slot_at s t) (counters_at s m) s.writes t x.node x.cell) (turn (Done 0) (at_stage (slot_at s t) st) k) (rw (d, ask_turn)) (turned_shape (turn (Done 0) (at_stage (slot_at s t) st) k) (stages st (omega (arith, eqb-true (S.stg t) 1 o.0)) (λ y. omega arith) refl (omega arith))))
      where
        k : Counters
        k = counters_at s m

        st : Stage
        st = Asking (ask_for (slot_at s t).snapshot k.commit x.node x.cell)

    pub serve_shape : Passed (needs (desk_of s x) x serve) → Shape (put_back s x (does (desk_of s x) x serve).desk)
    unfolding needs does desk_of serve_turn note_for
    serve_shape o = by_test (blocked s.flight s.writes (ask_of (slot_at s t).stage).node (ask_of (slot_at s t).stage).cell k)
        (λ d. by_turn (serve_turn (slot_at s t) c s.flight s.writes s.chains) waiting (rw (d, serve_turn)) (turned_shape waiting (stages (Asking (wait_for (ask_of (slot_at s t).stage) k)) l (λ y. omega arith) refl (omega arith))))
        (λ d. by_turn (serve_turn (slot_at s t) c s.flight s.writes s.chains) noting (rw (d, serve_turn)) (turned_shape noting (stages (Served (note_for s.chains (ask_of (slot_at s t).stage) k)) l (λ y. omega arith) refl (looked_low s.chains.lens s.chains.versions _ _ k))))
      where
        c : Counters
        c = counters_at s m

        k : ℕ
        k = read_at (ask_of (slot_at s t).stage) c

        l : 0 < S.stg t
        l = omega (arith, eqb-true (S.stg t) 2 o.0)

        waiting : Turn
        waiting = turn (Wait k) (at_stage (slot_at s t) (Asking (wait_for (ask_of (slot_at s t).stage) k))) (risen_to c k)

        noting : Turn
        noting = turn (Done k) (at_stage (slot_at s t) (Served (note_for s.chains (ask_of (slot_at s t).stage) k))) (risen_to c k)

    -- ---- rule B

    returned_shape : (y : Turn) (r : List ℕ) → return_turn (slot_at s t) (counters_at s m) ≡ y → return_reads (slot_at s t) s.reads t ≡ r → Shape (put_back s x (turned (with_reads (desk_of s x) r) y).desk) → Shape (put_back s x (does (desk_of s x) x return).desk)
    unfolding does desk_of
    returned_shape y r e d c = subst₂ (λ (i : Turn) (w : List ℕ). Shape (put_back s x (turned (with_reads (desk_of s x) w) i).desk)) (sym e) (sym d) c

    pub return_shape : Passed (needs (desk_of s x) x return) → Shape (put_back s x (does (desk_of s x) x return).desk)
    unfolding needs desk_of put_back return_turn return_reads
    return_shape o = by_test (spoilt (slot_at s t))
        (λ d. returned_shape (turn Answer.Aborted (at_stage (slot_at s t) Aborted) k) s.reads (rw (d, return_turn)) (rw (d, return_reads))
        (uncounted s m k t (at_stage (slot_at s t) Aborted) s.flight s.chains s.writes s.reads (aborts_early (omega (arith, e)) (omega (arith, e)))))
        (λ d. returned_shape (turn (Value v.s v.value) y k) r (rw (d, return_turn)) (rw (d, return_reads)) (uncounted s m k t y s.flight s.chains s.writes r hands))
      where
        v : Note
        v = note_of (slot_at s t).stage

        k : Counters
        k = risen_to (counters_at s m) v.s

        e : S.stg t ≡ 3
        e = eqb-true _ _ o.0

        given : Given (ground_of s first) (nodes_of s) S v.node v.cell v.s v.value
        given = (a.inv.reading t ht).served e

        y : Slot
        y = record { stage = Open; origin = (slot_at s t).origin; update = (slot_at s t).update; snapshot = Some v.s }

        r : List ℕ
        r = put s.reads (pair 32 t v.cell) (v.value + 1)

        s' : State
        s' = moved s t y s.flight s.writes r

        now : slot_at s' t ≡ y
        now = slot_here s t y s.flight s.writes r z ht

        idle : (n : ℕ) → n < 8 → S.tag t n ≡ 0
        idle n h = (a.inv.deciding t ht).early n h (omega (arith, e))

        fixed₁ : 0 < (slots_of s').snap t
        fixed₁ = omega (arith, ap (λ (i : Slot). fixed_at i.snapshot) now)

        -- the cell that joins, or another
        joins : (c : ℕ) → c < 32 → ((slots_of s').rd t c ≤ word) × (0 < (slots_of s').rd t c → c < s.group.cells)
        joins c hc = elim (ℕ_discrete c v.cell) [
          | yes d ↦ let i : (slots_of s').rd t c ≡ v.value + 1 = ap (λ (j : ℕ). (slots_of s').rd t j) d ∙ put_same s.reads (pair 32 t v.cell) (v.value + 1) 0 (omega (arith, z.reads1024, given.cell_low)) in
              (omega (arith, (b.slots t ht).small), λ w. rw d (z.in_run_lem v.node v.cell given.node_low given.cell_low given.holder).1)
          | no d ↦ let i : (slots_of s').rd t c ≡ S.rd t c = put_other s.reads _ _ (pair 32 t c) 0 (λ j. d (pair_inj 32 t c t v.cell hc given.cell_low j).1) in
              (omega (arith, (b.slots t ht).reads c hc), λ w. ((b.slots t ht).fixed c hc (omega (arith, e)) (omega arith)).1)
        ]

        hands : Shape s'
        hands = moved_shape s t y s.flight s.writes r z ht (read_rows s t v.cell (v.value + 1) z given.cell_low) (record {
          early = λ n h l. (b.slots t ht).early n h l;
          late = λ n h d. absurd (omega (arith, idle n h));
          reads = λ c h. (joins c h).0;
          origin = λ l. (b.slots t ht).origin (omega (arith, e));
          updates = λ c h l w. (b.slots t ht).updates c h (omega (arith, e)) w;
          fixed = λ c h l w. (fixed₁, (joins c h).1 w);
          spread = λ n h l. absurd (omega (arith, idle n h));
          aborted = λ d. absurd (omega (arith, ap (λ (i : Slot). stage_number i.stage) now));
          author = λ l. absurd (omega (arith, ap (λ (y : Slot). final_of y.stage) now));
          small = omega arith;
        }) b
