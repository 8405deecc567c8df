-- Rules A and B keep what holds: what is noted is what the copy holds at its s, and so is what is handed.
-- Assumes nothing.
use mathlib.Core.Path.{◌≡◌, refl, sym, ap, subst, subst₂, ◌∙◌}
use mathlib.Core.Logic.{◌≢◌, inl, inr, ⊎_elim}
use mathlib.Core.Bool.{true, false}
use mathlib.Core.List.Memᴰ
use mathlib.Core.List.{List, ◌∷◌}
use Prim.Native.Nat.{ℕ, suc, ◌+◌, ◌≤◌, ◌<◌}
use native.Mathlib.Omega.{arith}
use native.Mathlib.Decide.{ℕ_discrete}
use borrow.Author.Tests.{eqb-true, lt-ltb}
use Rattle.std.specs.Prelude.{Some}
use Rattle.tables.specs.Table.{put}
use Rattle.tables.specs.Pair.{pair, word}
use Rattle.tables.proofs.Choice.{by_test}
use Rattle.tables.proofs.Table.{put_same, put_other}
use Rattle.tables.proofs.Pair.{pair_inj}
use Rattle.tables.proofs.Tests.{Passed}
use Rattle.counters.specs.Counters.{risen_to}
use Rattle.counters.specs.declared.Counters.{Counters}
use Rattle.kinds.specs.declared.Step.{Step}
use Rattle.kinds.specs.declared.Kind.TheVariants.{Serve as serve, Return as return}
use Rattle.group.specs.declared.Slot.{Slot}
use Rattle.group.specs.declared.Ask.{Ask}
use Rattle.group.specs.declared.Note.{Note}
use Rattle.group.specs.declared.Stage.{Stage}
use Rattle.group.specs.declared.Stage.TheVariants.{Open, Asking, Served, Aborted}
use Rattle.group.specs.declared.Turn.{Turn}
use Rattle.group.specs.declared.Answer.TheVariants.{Done, Value, Wait}
use Rattle.group.specs.declared.Answer.TheVariants as Answer
use Rattle.group.specs.Answer.{turn}
use Rattle.group.specs.State.{State, holds, stage_number, ask_of, note_of, final_of, at_stage, slot_at, counters_at}
use Rattle.read.specs.Read.{read_at, blocked, note_for, wait_for, spoilt, return_turn, return_reads}
use Rattle.desk.specs.Desk.{turned, with_reads}
use Rattle.score.specs.Place.{place_of, desk_of, put_back}
use Rattle.desk.specs.Acts.{needs, does}
use Rattle.serial.specs.Serial.{Handed}
use Rattle.read.proofs.Reasons.{nothing_to_come}
use Rattle.read.proofs.Laws.{serve_waits, serve_notes}
use Rattle.serial.proofs.Inv.{Given, Ground, Nodes, Reading, Slots, Took}
use Rattle.serial.proofs.Quiet.{QuietAt, still, still_given}
use Rattle.serial.proofs.Views.{All, fixed_at, ground_of, nodes_of, pends, set_counters, set_slot, set_tables, slots_of}
use Rattle.serial.proofs.Rows.{Rows, no_rows, read_rows}
use Rattle.serial.proofs.Change.{alike, any_counters, counters_here, early_one, moved, no_read, quietly, risen_to_lem, slot_here}
use Rattle.serial.proofs.Stages.{aborts, final_here, free, restaged, snap_here, stage_here, stage_only, undecided}
use Rattle.serial.proofs.Looking.{looked_up}

-- ---- rule A

module _ (first : ℕ → ℕ) (s : State) (H : List Handed) (a : All first s H) (x : Step) (ht : x.slot < 32) where
  abbrev t : ℕ
  t = x.slot

  -- the state with the counters of the step's node risen to k
  abbrev risen : ℕ → State
  risen k = set_counters s (place_of s x) (risen_to (counters_at s (place_of s x)) k)

  -- a turn that raises the counters to k and moves the slot
  turned_risen : (z : Turn) (k : ℕ) → z.counters ≡ risen_to (counters_at s (place_of s x)) k → All first (set_slot (risen k) t z.slot) H → All first (put_back s x (turned (desk_of s x) z).desk) H
  unfolding desk_of put_back
  turned_risen z k e b = subst (λ (c : Counters). All first (set_tables (set_slot (set_counters s (place_of s x) c) t z.slot) s.flight s.chains s.writes s.reads) H) (sym e) b

  module _ (e : (slots_of s).stg t ≡ 2) (here : place_of s x ≡ (ask_of (slot_at s t).stage).node) where
    abbrev ask : Ask
    ask = ask_of (slot_at s t).stage

    abbrev k : ℕ
    k = read_at ask (counters_at s (place_of s x))

    asked : (ask.node < 8) × (ask.cell < 32) × (holds s.group.masks ask.node ask.cell ≡ true) × (ask.carried < word)
    asked = (a.inv.reading t ht).asked e

    pub read_low : k < word
    unfolding read_at
    read_low = by_test ask.exact (λ z. rw z asked.3) (λ z. rw z (omega (arith, asked.3, any_counters first s H a (place_of s x))))

    -- a read whose snapshot is fixed is at that
    fixed : 0 < (slots_of s).snap t → (slots_of s).snap t ≡ suc k
    unfolding read_at
    fixed l = let r = (a.inv.reading t ht).exact e l in r.1 ∙ ap suc (rw (r.0, read_at))

    abbrev s₁ : State
    s₁ = risen k

    a₁ : All first s₁ H
    a₁ = risen_to_lem first s H (place_of s x) k read_low a

    -- the transaction in the stage st: asking or served
    moves : (st : Stage) → stage_number st < 4 → 1 < stage_number st → final_of st ≡ 0
        → Reading (ground_of s first) (nodes_of s₁) (slots_of (set_slot s₁ t (at_stage (slot_at s t) st))) t (ask_of st) (note_of st) → All first (set_slot s₁ t (at_stage (slot_at s t) st)) H
    moves st l m f its =
        restaged first s₁ H a₁ x ht st (undecided first s₁ H a₁ x ht 2 e (λ z. omega arith)) f
        (early_one (ground_of s first) (nodes_of s₁) (slots_of (set_slot s₁ t (at_stage (slot_at s t) st))) t (final_here first s₁ H a₁ x ht st ∙ f)
        (λ c hc i b. (a.inv.deciding t ht).in_run c hc (omega (arith, e)) b) (a.inv.deciding t ht).values (omega (arith, stage_here first s₁ H a₁ x ht st))
        (λ n hn. (a.inv.deciding t ht).early n hn (omega (arith, e)))) its

    wait : All first (set_slot s₁ t (at_stage (slot_at s t) (Asking (wait_for ask k)))) H
    wait = moves st (omega arith) (omega arith) refl (record {
      asked = λ z. (asked.0, asked.1, asked.2, read_low);
      exact = λ z l. (refl, snap_here first s₁ H a₁ x ht st ∙ fixed (omega (arith, snap_here first s₁ H a₁ x ht st)));
      served = λ z. absurd (omega (arith, stage_here first s₁ H a₁ x ht st));
      same = λ z. absurd (omega (arith, stage_here first s₁ H a₁ x ht st));
      unused = λ z. absurd (omega (arith, stage_here first s₁ H a₁ x ht st));
      bounded = omega (arith, snap_here first s₁ H a₁ x ht st, (a.inv.reading t ht).bounded);
    })
      where
        st : Stage
        st = Asking (wait_for ask k)

    -- what is noted is what the copy holds at k
    noted : blocked s.flight s.writes ask.node ask.cell k ≡ false → Given (ground_of s first) (nodes_of s₁) (slots_of s₁) ask.node ask.cell k (note_for s.chains ask k).value
    unfolding note_for
    noted b = record {
      node_low = asked.0;
      cell_low = asked.1;
      holder = asked.2;
      counted = rw (counters_here first s H (place_of s x) (risen_to (counters_at s (place_of s x)) k) ask.node a.sizes.counters8 asked.0 (sym here)) (omega arith);
      later = later;
      latest = looked_up first s₁ H a₁ ask.node ask.cell k asked.0 asked.1 asked.2 later;
    }
      where
        later : (u : ℕ) → u < 32 → 3 ≤ (slots_of s₁).tag u ask.node → (slots_of s₁).tag u ask.node ≤ 4 → 0 < (slots_of s₁).wr u ask.cell → k < (slots_of s₁).num u ask.node
        later u hu l h w = nothing_to_come (slot_at s t) (counters_at s (place_of s x)) s.flight s.writes s.chains k (ap (λ (z : Turn). z.answer) (serve_notes (slot_at s t) (counters_at s (place_of s x)) s.flight s.writes s.chains b)) u hu (pends s.flight u ask.node l h) (lt-ltb _ _ w)

    done : blocked s.flight s.writes ask.node ask.cell k ≡ false → All first (set_slot s₁ t (at_stage (slot_at s t) (Served (note_for s.chains ask k)))) H
    unfolding note_for
    done b = moves st (omega arith) (omega arith) refl (record {
      asked = λ z. absurd (omega (arith, stage_here first s₁ H a₁ x ht st));
      exact = λ z. absurd (omega (arith, stage_here first s₁ H a₁ x ht st));
      served = λ z. still_given (slots_of s₁) (slots_of (set_slot s₁ t y)) (still (slots_of s₁) (slots_of (set_slot s₁ t y)) t (alike s₁ t y s.flight s.writes s.reads (no_rows s₁ t a₁.sizes)) quiet₁) (ground_of s first) (nodes_of s₁) _ _ _ _ (noted b);
      same = λ z l. snap_here first s₁ H a₁ x ht st ∙ fixed (omega (arith, snap_here first s₁ H a₁ x ht st));
      unused = λ z. absurd (omega (arith, stage_here first s₁ H a₁ x ht st));
      bounded = omega (arith, snap_here first s₁ H a₁ x ht st, (a.inv.reading t ht).bounded);
    })
      where
        st : Stage
        st = Served (note_for s.chains ask k)

        y : Slot
        y = at_stage (slot_at s t) st

        none : (slots_of s₁).fin t ≡ 0
        none = undecided first s₁ H a₁ x ht 2 e (λ z. omega arith)

        quiet₁ : QuietAt (slots_of s₁) (slots_of (set_slot s₁ t y)) t
        quiet₁ = stage_only (slots_of s₁) (slots_of (set_slot s₁ t y)) t none (final_here first s₁ H a₁ x ht st) (λ n hn. refl) (λ n hn. refl) (λ c hc. refl) (λ c hc. refl) (snap_here first s₁ H a₁ x ht st)

  pub serve_keeps : place_of s x ≡ (ask_of (slot_at s t).stage).node → Passed (needs (desk_of s x) x serve) → All first (put_back s x (does (desk_of s x) x serve).desk) H
  unfolding needs does desk_of
  serve_keeps p o = by_test (blocked s.flight s.writes (ask e p).node (ask e p).cell (k e p))
      (λ b. subst (λ (z : Turn). All first (put_back s x (turned (desk_of s x) z).desk) H) (sym (serve_waits (slot_at s t) c s.flight s.writes s.chains b)) (turned_risen waiting (k e p) refl (wait e p)))
      (λ b. subst (λ (z : Turn). All first (put_back s x (turned (desk_of s x) z).desk) H) (sym (serve_notes (slot_at s t) c s.flight s.writes s.chains b)) (turned_risen noting (k e p) refl (done e p b)))
    where
      e : (slots_of s).stg t ≡ 2
      e = eqb-true _ _ o.0

      c : Counters
      c = counters_at s (place_of s x)

      waiting : Turn
      waiting = turn (Wait (k e p)) (at_stage (slot_at s t) (Asking (wait_for (ask e p) (k e p)))) (risen_to c (k e p))

      noting : Turn
      noting = turn (Done (k e p)) (at_stage (slot_at s t) (Served (note_for s.chains (ask e p) (k e p)))) (risen_to c (k e p))

  -- ---- rule B

  -- the value that is handed
  abbrev pub handing : Handed
  handing = let v = note_of (slot_at s t).stage in record { slot = t; node = v.node; cell = v.cell; s = v.s; value = v.value }

  module _ (e : (slots_of s).stg t ≡ 3) where
    abbrev note : Note
    note = note_of (slot_at s t).stage

    given : Given (ground_of s first) (nodes_of s) (slots_of s) note.node note.cell note.s note.value
    given = (a.inv.reading t ht).served e

    pub note_low : note.s < word
    note_low = omega (arith, given.counted, a.inv.counting.fits note.node given.node_low)

    abbrev s₂ : State
    s₂ = risen note.s

    a₂ : All first s₂ H
    a₂ = risen_to_lem first s H (place_of s x) note.s note_low a

    idle : (n : ℕ) → n < 8 → (slots_of s).tag t n ≡ 0
    idle n hn = (a.inv.deciding t ht).early n hn (omega (arith, e))

    abbrev opened : Slot
    opened = record { stage = Open; origin = (slot_at s t).origin; update = (slot_at s t).update; snapshot = Some note.s }

    abbrev joined_to : List ℕ
    joined_to = put s.reads (pair 32 t note.cell) (note.value + 1)

    abbrev s₃ : State
    s₃ = moved s₂ t opened s.flight s.writes joined_to

    here : slot_at s₃ t ≡ opened
    here = slot_here s₂ t opened s.flight s.writes joined_to a₂.sizes ht

    -- the cell that joins the read set, or another
    joins_here : (slots_of s₃).rd t note.cell ≡ note.value + 1
    joins_here = put_same s.reads (pair 32 t note.cell) (note.value + 1) 0 (omega (arith, a.sizes.reads1024, given.cell_low))

    joins_other : (c : ℕ) → c < 32 → c ≢ note.cell → (slots_of s₃).rd t c ≡ (slots_of s).rd t c
    joins_other c hc d = put_other s.reads _ _ (pair 32 t c) 0 (λ z. d (pair_inj 32 t c t note.cell hc given.cell_low z).1)

    rows : Rows s₂ t s.flight s.writes joined_to
    rows = read_rows s₂ t note.cell (note.value + 1) a₂.sizes given.cell_low

    quiet₂ : QuietAt (slots_of s₂) (slots_of s₃) t
    quiet₂ = free (slots_of s₂) (slots_of s₃) t (undecided first s₂ H a₂ x ht 3 e (λ z. omega arith)) (ap (λ (y : Slot). final_of y.stage) here) (λ n hn. omega (arith, idle n hn))
        (λ l. ap (λ (y : Slot). fixed_at y.snapshot) here ∙ sym ((a.inv.reading t ht).same e l))
        (λ c hc l b. elim (ℕ_discrete c note.cell) [ yes z ↦ rw z (omega (arith, joins_here)) | no z ↦ rw (joins_other c hc z) b ])

    hands : All first s₃ (handing ∷ H)
    hands = quietly s₂ t opened s.flight s.writes joined_to first H (handing ∷ H) ht rows quiet₂
        (early_one G₂ C₂ S₃ t (ap (λ (y : Slot). final_of y.stage) here) (λ c hc l b. (a.inv.deciding t ht).in_run c hc (omega (arith, e)) b) (a.inv.deciding t ht).values (omega (arith, stage)) idle)
        (no_read G₂ C₂ S₃ t _ _ (λ z. omega (arith, stage)) (λ z. omega (arith, stage)) (λ z. absurd (omega (arith, stage))) (omega (arith, snap, note_low)))
        (λ h m. ⊎_elim (λ z. inr (subst (λ (y : Handed). Given G₂ C₂ S₃ y.node y.cell y.s y.value × Took S₃ y) (sym z) (now, took))) (λ z. inl z) (Memᴰ.cases_cons m)) a₂
      where
        G₂ : Ground
        G₂ = ground_of s first

        C₂ : Nodes
        C₂ = nodes_of s₂

        S₃ : Slots
        S₃ = slots_of s₃

        stage : S₃.stg t ≡ 1
        stage = ap (λ (y : Slot). stage_number y.stage) here

        snap : S₃.snap t ≡ suc note.s
        snap = ap (λ (y : Slot). fixed_at y.snapshot) here

        now : Given G₂ C₂ S₃ note.node note.cell note.s note.value
        now = still_given (slots_of s₂) S₃ (still (slots_of s₂) S₃ t (alike s₂ t opened s.flight s.writes joined_to rows) quiet₂) G₂ C₂ _ _ _ _ ((a₂.inv.reading t ht).served e)

        took : Took S₃ handing
        took = record {
          slot_low = ht;
          fixed = snap;
          joined = omega (arith, joins_here);
          ahead = λ l. absurd (omega (arith, idle note.node given.node_low));
          after = λ l. absurd (omega (arith, ap (λ (y : Slot). final_of y.stage) here));
        }

    spoils : All first (set_slot s₂ t (at_stage (slot_at s t) Aborted)) H
    spoils = aborts first s₂ H a₂ x ht (omega (arith, e)) (undecided first s₂ H a₂ x ht 3 e (λ z. omega arith)) (λ n hn. omega (arith, idle n hn))

  -- a turn that moves the slot, the counters and the reads
  returned : (z : Turn) (r : List ℕ) (J : List Handed) → return_turn (slot_at s t) (counters_at s (place_of s x)) ≡ z → return_reads (slot_at s t) s.reads t ≡ r
      → All first (put_back s x (turned (with_reads (desk_of s x) r) z).desk) J → All first (put_back s x (does (desk_of s x) x return).desk) J
  unfolding does desk_of
  returned z r J e d b = subst₂ (λ (y : Turn) (w : List ℕ). All first (put_back s x (turned (with_reads (desk_of s x) w) y).desk) J) (sym e) (sym d) b

  pub return_hands : (slots_of s).stg t ≡ 3 → spoilt (slot_at s t) ≡ false → All first (put_back s x (does (desk_of s x) x return).desk) (handing ∷ H)
  unfolding desk_of put_back return_turn return_reads
  return_hands e b = returned (turn (Value (note e).s (note e).value) (opened e) (risen_to (counters_at s (place_of s x)) (note e).s)) (joined_to e) (handing ∷ H) (rw (b, return_turn)) (rw (b, return_reads)) (hands e)

  pub return_spoils : (slots_of s).stg t ≡ 3 → spoilt (slot_at s t) ≡ true → All first (put_back s x (does (desk_of s x) x return).desk) H
  unfolding desk_of put_back return_turn return_reads
  return_spoils e b = returned (turn Answer.Aborted (at_stage (slot_at s t) Aborted) (risen_to (counters_at s (place_of s x)) (note e).s)) s.reads H (rw (b, return_turn)) (rw (b, return_reads)) (spoils e)
