-- The changes of a state, each by what it does to the views.
-- Assumes nothing.
use mathlib.Core.Path.{◌≡◌, ap, ◌∙◌}
use mathlib.Core.Logic.{◌≢◌, ◌⊎◌, inl}
use mathlib.Core.Bool.{true}
use mathlib.Core.List.{List, Memᴰ}
use Prim.Native.Nat.{ℕ, ◌+◌, ◌/◌, ◌%◌, ◌≤◌, ◌<◌}
use native.Mathlib.Omega.{arith}
use native.Mathlib.Decide.{ℕ_discrete}
use lib.Dec.{ltb}
use lib.ListN.{length}
use borrow.Author.Tests.{ltb-true, ltb-false}
use Rattle.tables.specs.Pair.{word}
use Rattle.tables.proofs.Choice.{by_test}
use Rattle.tables.proofs.Table.{put_size, put_same, put_other, at_past}
use Rattle.counters.specs.Counters.{zeroed, risen_to, counted_to}
use Rattle.counters.specs.declared.Counters.{Counters}
use Rattle.group.specs.declared.Slot.{Slot}
use Rattle.group.specs.declared.Ask.{Ask}
use Rattle.group.specs.declared.Note.{Note}
use Rattle.group.specs.State.{State, stage_number, ask_of, note_of, final_of, no_slot, slot_at, counters_at}
use Rattle.serial.specs.Serial.{Handed}
use Rattle.serial.proofs.Inv.{Given, Ground, Nodes, Reading, Slots, Took, Transaction, Writes}
use Rattle.serial.proofs.Quiet.{Alike, QuietAt, quiet}
use Rattle.serial.proofs.Counts.{Rises, rises}
use Rattle.serial.proofs.Views.{All, Sizes, asks_of, fixed_at, ground_of, links_of, nodes_of, notes_of, set_counters, set_slot, set_tables, slots_of}
use Rattle.serial.proofs.Rows.{Rows}

-- ---- counters of one node

module _ (first : ℕ → ℕ) (s : State) (H : List Handed) (n : ℕ) (c : Counters) where
  -- the counters of node m after those of n became c
  pub counters_here : (m : ℕ) → length s.group.counters ≡ 8 → m < 8 → m ≡ n → counters_at (set_counters s n c) m ≡ c
  counters_here m l h e = ap (λ (k : ℕ). counters_at (set_counters s n c) k) e ∙ put_same s.group.counters n c (zeroed 0) (omega arith)

  pub counters_away : (m : ℕ) → m ≢ n → counters_at (set_counters s n c) m ≡ counters_at s m
  counters_away m e = put_other s.group.counters n c m (zeroed 0) e

  pub sized : Sizes s → Sizes (set_counters s n c)
  sized z = record {
    counters8 = put_size _ _ _ ∙ z.counters8;
    slots32 = z.slots32;
    flight256 = z.flight256;
    lens256 = z.lens256;
    versions2048 = z.versions2048;
    writes1024 = z.writes1024;
    reads1024 = z.reads1024;
    nodes_high = z.nodes_high;
    cells_high = z.cells_high;
    in_run_lem = z.in_run_lem;
    held = z.held;
  }

  -- c is no lower than what stood there, and its commit number below what is pending
  pub record RaisedTo : Type 0 where
    pub cnt : (counters_at s n).counter ≤ c.counter
    pub cmt : (counters_at s n).commit ≤ c.commit
    pub fits : c.counter < word
    pub commit : c.commit ≤ c.counter
    pub seen : c.seen ≤ c.counter
    pub pending : (t : ℕ) → t < 32 → n < 8 → 3 ≤ (slots_of s).tag t n → (slots_of s).tag t n ≤ 4 → c.commit < (slots_of s).num t n

  pub rising : All first s H → RaisedTo → Rises (nodes_of s) (nodes_of (set_counters s n c)) (slots_of s)
  rising a q = let k = a.inv.counting in let l = a.sizes.counters8 in record {
    cnt = λ m hm. elim (ℕ_discrete m n) [ yes e ↦ rw (counters_here m l hm e, e) q.cnt | no e ↦ rw (counters_away m e) (omega arith) ];
    cmt = λ m hm. elim (ℕ_discrete m n) [ yes e ↦ rw (counters_here m l hm e, e) q.cmt | no e ↦ rw (counters_away m e) (omega arith) ];
    fits = λ m hm. elim (ℕ_discrete m n) [ yes e ↦ rw (counters_here m l hm e) q.fits | no e ↦ rw (counters_away m e) (k.fits m hm) ];
    commit = λ m hm. elim (ℕ_discrete m n) [ yes e ↦ rw (counters_here m l hm e) q.commit | no e ↦ rw (counters_away m e) (k.commit m hm) ];
    seen = λ m hm. elim (ℕ_discrete m n) [ yes e ↦ rw (counters_here m l hm e) q.seen | no e ↦ rw (counters_away m e) (k.seen m hm) ];
    pending = λ t m ht hm x y. elim (ℕ_discrete m n) [
      | yes e ↦ rw (counters_here m l hm e, e) (q.pending t ht (rw e at hm) (rw e at x) (rw e at y))
      | no e ↦ rw (counters_away m e) (k.pending t m ht hm x y).0
    ];
  }

  pub raised : All first s H → RaisedTo → All first (set_counters s n c) H
  raised a q = record { sizes = sized a.sizes; inv = rises _ _ _ (rising a q) _ _ _ _ _ a.inv }

-- ---- one transaction: its slot, and its rows of the tables

module _ (s : State) (t : ℕ) (x : Slot) (f w r : List ℕ) where
  abbrev pub moved : State
  moved = set_tables (set_slot s t x) f s.chains w r

  pub slot_here : Sizes s → t < 32 → slot_at moved t ≡ x
  slot_here z ht = put_same s.group.slots t x no_slot (omega (arith, z.slots32))

  slot_away : (u : ℕ) → u ≢ t → slot_at moved u ≡ slot_at s u
  slot_away u d = put_other s.group.slots t x u no_slot d

  moved_sizes : Sizes s → Rows s t f w r → Sizes moved
  moved_sizes z q = record {
    counters8 = z.counters8;
    slots32 = put_size _ _ _ ∙ z.slots32;
    flight256 = q.flight256;
    lens256 = z.lens256;
    versions2048 = z.versions2048;
    writes1024 = q.writes1024;
    reads1024 = q.reads1024;
    nodes_high = z.nodes_high;
    cells_high = z.cells_high;
    in_run_lem = z.in_run_lem;
    held = z.held;
  }

  pub alike : Rows s t f w r → (u : ℕ) → u < 32 → u ≢ t → Alike (slots_of s) (slots_of moved) u
  alike q u hu d = record {
    stg = ap (λ (y : Slot). stage_number y.stage) (slot_away u d);
    fin = ap (λ (y : Slot). final_of y.stage) (slot_away u d);
    snap = ap (λ (y : Slot). fixed_at y.snapshot) (slot_away u d);
    tag = λ n hn. ap (◌/ word) (q.flight u n hu hn d);
    num = λ n hn. ap (◌% word) (q.flight u n hu hn d);
    wr = λ c hc. q.writes u c hu hc d;
    rd = λ c hc. q.reads u c hu hc d;
  }

  -- a quiet change of the transaction's slot and rows
  pub quietly :
      (first : ℕ → ℕ) (H H' : List Handed) → t < 32 → Rows s t f w r → QuietAt (slots_of s) (slots_of moved) t
      → Transaction (ground_of s first) (nodes_of s) (slots_of moved) t → Reading (ground_of s first) (nodes_of s) (slots_of moved) t (ask_of x.stage) (note_of x.stage)
      → ((h : Handed) → Memᴰ h H' → Memᴰ h H ⊎ (Given (ground_of s first) (nodes_of s) (slots_of moved) h.node h.cell h.s h.value × Took (slots_of moved) h))
      → All first s H → All first moved H'
  quietly first H H' ht q k own its new a = record {
    sizes = moved_sizes a.sizes q;
    inv = quiet (slots_of s) (slots_of moved) t (alike q) k (ground_of s first) (nodes_of s) (links_of s) (asks_of s) (asks_of moved) (notes_of s) (notes_of moved) H H'
        (λ u d. ap (λ (y : Slot). ask_of y.stage) (slot_away u d)) (λ u d. ap (λ (y : Slot). note_of y.stage) (slot_away u d)) own
        (rw (slot_here a.sizes ht) its) new a.inv;
  }

-- nothing is handed
pub nothing_new :
    (G : Ground) (C : Nodes) (S : Slots) (H : List Handed) (h : Handed)
    → Memᴰ h H → Memᴰ h H ⊎ (Given G C S h.node h.cell h.s h.value × Took S h)
nothing_new G C S H h m = inl m

-- ---- transactions that are no writers

module _ (G : Ground) (C : Nodes) (S : Slots) (t : ℕ) (none : S.fin t ≡ 0) (in_run : (c : ℕ) → c < 32 → 0 < S.stg t → 0 < S.wr t c → c < G.cells)
    (values : (c : ℕ) → c < 32 → S.wr t c ≤ word) where
  -- of any stage: its entries, and what a voting or committed one has
  pub no_writer :
      ((n : ℕ) → n < 8 → S.tag t n ≤ 5) → ((n : ℕ) → n < 8 → G.nodes ≤ n → S.tag t n ≡ 0) → ((n : ℕ) → n < 8 → S.tag t n ≢ 4) → ((n : ℕ) → n < 8 → S.stg t < 4 → S.tag t n ≡ 0)
      → ((n : ℕ) → n < 8 → S.stg t ≡ 5 → S.tag t n ≡ 0) → ((n : ℕ) → n < 8 → S.stg t ≡ 4 → S.tag t n ≤ 3)
      → ((c : ℕ) → c < 32 → S.stg t ≡ 5 → S.wr t c ≡ 0) → (S.stg t ≡ 4 → Writes G S t)
      → ((n c : ℕ) → n < 8 → c < 32 → S.stg t ≡ 4 → G.hold n c ≡ true → 0 < S.rd t c + S.wr t c → 1 ≤ S.tag t n) → Transaction G C S t
  no_writer low outside four early plain voting wrote votes sent = record {
    low = low;
    outside = outside;
    early = early;
    plain = λ n hn e _. plain n hn e;
    voting = voting;
    voted = λ n hn e. absurd (omega arith);
    below = λ n hn e. absurd (omega arith);
    learned = λ n hn e. absurd (four n hn e);
    past = λ n hn e. absurd (omega arith);
    stage = λ e. absurd (omega arith);
    wrote = λ c hc e l. absurd (omega (arith, wrote c hc e));
    votes = votes;
    in_run = in_run;
    values = values;
    sent = sent;
    entered = λ n c hn hc e. absurd (omega arith);
  }

  -- open, asking, served: no entries
  pub early_one : S.stg t < 4 → ((n : ℕ) → n < 8 → S.tag t n ≡ 0) → Transaction G C S t
  early_one l z =
      no_writer (λ n hn. omega (arith, z n hn)) (λ n hn e. z n hn) (λ n hn e. omega (arith, z n hn)) (λ n hn e. z n hn) (λ n hn e. z n hn) (λ n hn e. omega (arith, z n hn))
      (λ c hc e. absurd (omega arith)) (λ e. absurd (omega arith)) (λ n c hn hc e. absurd (omega arith))

  -- aborted: whatever entries it had, none to apply
  pub aborted_one : S.stg t ≡ 6 → ((n : ℕ) → n < 8 → S.tag t n ≤ 5) → ((n : ℕ) → n < 8 → G.nodes ≤ n → S.tag t n ≡ 0) → ((n : ℕ) → n < 8 → S.tag t n ≢ 4) → Transaction G C S t
  aborted_one e low outside four =
      no_writer low outside four (λ n hn z. absurd (omega arith)) (λ n hn z. absurd (omega arith)) (λ n hn z. absurd (omega arith))
      (λ c hc z. absurd (omega arith)) (λ z. absurd (omega arith)) (λ n c hn hc z. absurd (omega arith))

-- a stage with no read
pub no_read : (G : Ground) (C : Nodes) (S : Slots) (t : ℕ) (a : Ask) (v : Note) → S.stg t ≢ 2 → S.stg t ≢ 3 → (S.stg t ≡ 0 → S.snap t ≡ 0) → S.snap t ≤ word → Reading G C S t a v
no_read G C S t a v two three zero small = record { asked = λ e. absurd (two e); exact = λ e. absurd (two e); served = λ e. absurd (three e); same = λ e. absurd (three e); unused = zero; bounded = small }

-- ---- the counters at any place

pub any_counters : (first : ℕ → ℕ) (s : State) (H : List Handed) → All first s H → (n : ℕ)
    → ((counters_at s n).counter < word) × ((counters_at s n).commit ≤ (counters_at s n).counter) × ((counters_at s n).seen ≤ (counters_at s n).counter)
any_counters first s H a n = by_test (ltb n 8)
    (λ e. let h = ltb-true n 8 e in (a.inv.counting.fits n h, a.inv.counting.commit n h, a.inv.counting.seen n h))
    (λ e. rw (at_past s.group.counters n (zeroed 0) (omega (arith, ltb-false, a.sizes.counters8))) (omega arith))

-- rules A and B: counter and seen number rise to k
pub risen_to_lem : (first : ℕ → ℕ) (s : State) (H : List Handed) (n k : ℕ) → k < word → All first s H → All first (set_counters s n (risen_to (counters_at s n) k)) H
risen_to_lem first s H n k l a = let b = any_counters first s H a n in
    raised first s H n (risen_to (counters_at s n) k) a
    (record { cnt = omega arith; cmt = omega arith; fits = omega (arith, b); commit = omega (arith, b); seen = omega (arith, b); pending = λ t ht hn x y. (a.inv.counting.pending t n ht hn x y).0 })

-- rules C and D and cut steps: the counter alone rises to k
pub counted_to_lem : (first : ℕ → ℕ) (s : State) (H : List Handed) (n k : ℕ) → k < word → All first s H → All first (set_counters s n (counted_to (counters_at s n) k)) H
counted_to_lem first s H n k l a = let b = any_counters first s H a n in
    raised first s H n (counted_to (counters_at s n) k) a
    (record { cnt = omega arith; cmt = omega arith; fits = omega (arith, b); commit = omega (arith, b); seen = omega (arith, b); pending = λ t ht hn x y. (a.inv.counting.pending t n ht hn x y).0 })
