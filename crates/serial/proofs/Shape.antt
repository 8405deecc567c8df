-- What a whole state has besides what the serial statement needs: where entries stand, and what slots hold.
-- Assumes nothing.
use mathlib.Core.Path.{◌≡◌, sym, ap, ◌∙◌}
use mathlib.Core.Bool.{Bool, true}
use mathlib.Core.List.{List}
use Prim.Native.Nat.{ℕ, ◌+◌, ◌^◌, ◌≤◌, ◌<◌}
use native.Mathlib.Omega.{arith}
use native.Mathlib.Decide.{ℕ_discrete}
use Rattle.tables.specs.Table.{at}
use Rattle.tables.specs.Pair.{word}
use Rattle.counters.specs.declared.Counters.{Counters}
use Rattle.chain.specs.declared.Chains.{Chains}
use Rattle.group.specs.declared.Slot.{Slot}
use Rattle.group.specs.declared.Stage.{Stage}
use Rattle.group.specs.State.{State, entered, stage_number, at_stage, slot_at, note_of, final_of, no_slot}
use Rattle.tables.proofs.Table.{put_other}
use Rattle.serial.proofs.Inv.{Slots, Ground, Writes, writes}
use Rattle.serial.proofs.Quiet.{Alike}
use Rattle.serial.proofs.Joins.{Entry, here, away}
use Rattle.serial.proofs.Views.{fixed_at, ground_of, slots_of, Sizes, set_counters, set_slot, set_tables, entry}
use Rattle.serial.proofs.Change.{moved, alike, slot_here}
use Rattle.serial.proofs.Rows.{Rows, no_rows}

-- node n holds a cell that t read or wrote
pub data Touches (G : Ground) (S : Slots) (t n : ℕ) : Type 0 where
  touches : (c : ℕ) → c < 32 → G.hold n c ≡ true → 0 < S.rd t c + S.wr t c → Touches G S t n

-- an aborted transaction has entries at all such nodes, or none
pub data Spread (G : Ground) (S : Slots) (t : ℕ) : Type 0 where
  nowhere : ((n : ℕ) → n < 8 → S.tag t n ≡ 0) → Spread G S t
  everywhere : ((n c : ℕ) → n < 8 → c < 32 → G.hold n c ≡ true → 0 < S.rd t c + S.wr t c → 1 ≤ S.tag t n) → Spread G S t

-- one transaction, with its origin, whether it may write, and the value noted for it
pub record Shaped (G : Ground) (S : Slots) (t o : ℕ) (u : Bool) (v : ℕ) : Type 0 where
  pub early : (n : ℕ) → n < 8 → S.tag t n < 3 → S.num t n ≡ 0
  pub late : (n : ℕ) → n < 8 → S.tag t n ≡ 5 → S.num t n ≡ 0
  pub reads : (c : ℕ) → c < 32 → S.rd t c ≤ word
  pub origin : 0 < S.stg t → o < G.nodes
  pub updates : (c : ℕ) → c < 32 → 0 < S.stg t → 0 < S.wr t c → u ≡ true
  pub fixed : (c : ℕ) → c < 32 → 0 < S.stg t → 0 < S.rd t c → (0 < S.snap t) × (c < G.cells)
  pub spread : (n : ℕ) → n < 8 → 1 ≤ S.tag t n → Touches G S t n
  pub aborted : S.stg t ≡ 6 → Spread G S t
  pub author : 0 < S.fin t → Writes G S t
  pub small : v < word

abbrev pub ShapedAt : State → ℕ → Type 0
ShapedAt s t = let x = slot_at s t in Shaped (ground_of s (λ c. 0)) (slots_of s) t x.origin x.update (note_of x.stage).value

pub record Shape (s : State) : Type 0 where
  pub nodes_low : 1 ≤ s.group.nodes
  pub cells_low : 1 ≤ s.group.cells
  pub masks : (c : ℕ) → c < s.group.cells → (0 < at s.group.masks c 0) × (at s.group.masks c 0 < 2 ^ s.group.nodes)
  pub slots : (t : ℕ) → t < 32 → ShapedAt s t

-- a transaction that looks the same is shaped as it was
pub alike_shaped : (G : Ground) (S S' : Slots) (t o : ℕ) (u : Bool) (v : ℕ) → Alike S S' t → Shaped G S t o u v → Shaped G S' t o u v
alike_shaped G S S' t o u v k a = record {
  early = λ n hn l. k.num n hn ∙ a.early n hn (rw (k.tag n hn) at l);
  late = λ n hn e. k.num n hn ∙ a.late n hn (sym (k.tag n hn) ∙ e);
  reads = λ c hc. rw (k.rd c hc) (a.reads c hc);
  origin = λ l. a.origin (rw k.stg at l);
  updates = λ c hc l w. a.updates c hc (rw k.stg at l) (rw (k.wr c hc) at w);
  fixed = λ c hc l w. rw k.snap (a.fixed c hc (rw k.stg at l) (rw (k.rd c hc) at w));
  spread = λ n hn l. touched (a.spread n hn (rw (k.tag n hn) at l));
  aborted = λ e. spreads (a.aborted (sym k.stg ∙ e));
  author = λ l. wrote (a.author (rw k.fin at l));
  small = a.small;
}
  where
    wrote : Writes G S t → Writes G S' t
    wrote (writes c hc i w) = writes c hc i (rw (k.wr c hc) w)

    touched : {n : ℕ} → Touches G S t n → Touches G S' t n
    touched (touches c hc h l) = touches c hc h (rw (k.rd c hc, k.wr c hc) l)

    spreads : Spread G S t → Spread G S' t
    spreads (nowhere f) = nowhere (λ n hn. k.tag n hn ∙ f n hn)
    spreads (everywhere f) = everywhere (λ n c hn hc h l. rw (k.tag n hn) (f n c hn hc h (rw (k.rd c hc, k.wr c hc) at l)))

-- ---- changes

-- one transaction's slot and rows
pub moved_shape : (s : State) (t : ℕ) (x : Slot) (f w r : List ℕ) → Sizes s → t < 32 → Rows s t f w r
    → Shaped (ground_of s (λ c. 0)) (slots_of (moved s t x f w r)) t x.origin x.update (note_of x.stage).value → Shape s → Shape (moved s t x f w r)
moved_shape s t x f w r z ht q own a = record {
  nodes_low = a.nodes_low;
  cells_low = a.cells_low;
  masks = a.masks;
  slots = λ u hu. elim (ℕ_discrete u t) [
    | yes e ↦ rw e (rw (slot_here s t x f w r z ht) own)
    | no e ↦ let d = put_other s.group.slots t x u no_slot e in rw d (alike_shaped _ (slots_of s) (slots_of (moved s t x f w r)) u _ _ _ (alike s t x f w r q u hu e) (a.slots u hu))
  ];
}

-- the counters don't matter, whatever else is changed
pub uncounted : (s : State) (n : ℕ) (c : Counters) (t : ℕ) (y : Slot) (f : List ℕ) (h : Chains) (w r : List ℕ) → Shape (set_tables (set_slot s t y) f h w r)
    → Shape (set_tables (set_slot (set_counters s n c) t y) f h w r)
uncounted s n c t y f h w r a = record { nodes_low = a.nodes_low; cells_low = a.cells_low; masks = a.masks; slots = a.slots }

-- one entry of a transaction that has one there
pub entry_shape : (s : State) (t n g k : ℕ) (h : Chains) → Sizes s → t < 32 → n < 8 → k < word → 1 ≤ (slots_of s).tag t n → 1 ≤ g → (g < 3 → k ≡ 0) → (g ≡ 5 → k ≡ 0)
    → Shape s → Shape (set_tables s (entered s.flight t n g k) h s.writes s.reads)
entry_shape s t n g k h z ht hn hk was now low high a = record { nodes_low = a.nodes_low; cells_low = a.cells_low; masks = a.masks; slots = one }
  where
    s' : State
    s' = set_tables s (entered s.flight t n g k) h s.writes s.reads

    look : (u m : ℕ) → u < 32 → m < 8 → Entry (slots_of s) (slots_of s').tag (slots_of s').num t n g k u m
    look = entry s t n g k z.flight256 ht hn hk

    G : Ground
    G = ground_of s (λ c. 0)

    touched : {u m : ℕ} → Touches G (slots_of s) u m → Touches G (slots_of s') u m
    touched (touches c hc o l) = touches c hc o l

    one : (u : ℕ) → u < 32 → ShapedAt s' u
    one u hu = let b = a.slots u hu in record {
      early = λ m hm l. elim (look u m hu hm) [ here i j x y ↦ y ∙ low (omega arith) | away i x y ↦ y ∙ b.early m hm (rw x at l) ];
      late = λ m hm e. elim (look u m hu hm) [ here i j x y ↦ y ∙ high (sym x ∙ e) | away i x y ↦ y ∙ b.late m hm (sym x ∙ e) ];
      reads = b.reads;
      origin = b.origin;
      updates = b.updates;
      fixed = b.fixed;
      spread = λ m hm l. elim (look u m hu hm) [ here i j x y ↦ touched (b.spread m hm (rw (i, j) was)) | away i x y ↦ touched (b.spread m hm (rw x at l)) ];
      aborted = λ e. spreads (b.aborted e);
      author = λ l. wrote (b.author l);
      small = b.small;
    }
      where
        wrote : Writes G (slots_of s) u → Writes G (slots_of s') u
        wrote (writes c hc i w) = writes c hc i w

        spreads : Spread G (slots_of s) u → Spread G (slots_of s') u
        spreads (nowhere f) = nowhere (λ m hm. elim (look u m hu hm) [ here i j x y ↦ absurd (lost i) | away i x y ↦ x ∙ f m hm ])
          where
            lost : u ≡ t → ⊥
            lost i = let e : (slots_of s).tag t n ≡ 0 = ap (λ (j : ℕ). (slots_of s).tag j n) (sym i) ∙ f n hn in omega arith
        spreads (everywhere f) = everywhere (λ m c hm hc o l. elim (look u m hu hm) [ here i j x y ↦ omega arith | away i x y ↦ rw x (f m c hm hc o l) ])

-- a slot at another stage, with nothing else changed
pub stage_shape : (s : State) (t : ℕ) (st : Stage) → Sizes s → t < 32 → 0 < (slots_of s).stg t → (stage_number st ≡ 6 → Spread (ground_of s (λ c. 0)) (slots_of s) t)
    → (0 < final_of st → Writes (ground_of s (λ c. 0)) (slots_of s) t) → (note_of st).value < word
    → Shape s → Shape (set_slot s t (at_stage (slot_at s t) st))
stage_shape s t st z ht l sp wr v a = moved_shape s t y s.flight s.writes s.reads z ht (no_rows s t z) (record {
  early = b.early;
  late = b.late;
  reads = b.reads;
  origin = λ k. b.origin l;
  updates = λ c hc k w. b.updates c hc l w;
  fixed = λ c hc k w. rw snap (b.fixed c hc l w);
  spread = λ n hn k. touched (b.spread n hn k);
  aborted = λ e. spreads (sp (sym (ap (λ (i : Slot). stage_number i.stage) now) ∙ e));
  author = λ k. wrote (wr (rw (ap (λ (i : Slot). final_of i.stage) now) at k));
  small = v;
}) a
  where
    y : Slot
    y = at_stage (slot_at s t) st

    b : ShapedAt s t
    b = a.slots t ht

    S' : Slots
    S' = slots_of (moved s t y s.flight s.writes s.reads)

    now : slot_at (moved s t y s.flight s.writes s.reads) t ≡ y
    now = slot_here s t y s.flight s.writes s.reads z ht

    snap : S'.snap t ≡ (slots_of s).snap t
    snap = ap (λ (i : Slot). fixed_at i.snapshot) now

    wrote : Writes (ground_of s (λ c. 0)) (slots_of s) t → Writes (ground_of s (λ c. 0)) S' t
    wrote (writes c hc i w) = writes c hc i w

    touched : {m : ℕ} → Touches (ground_of s (λ c. 0)) (slots_of s) t m → Touches (ground_of s (λ c. 0)) S' t m
    touched (touches c hc o k) = touches c hc o k

    spreads : Spread (ground_of s (λ c. 0)) (slots_of s) t → Spread (ground_of s (λ c. 0)) S' t
    spreads (nowhere f) = nowhere f
    spreads (everywhere f) = everywhere f
