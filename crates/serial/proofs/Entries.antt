-- One entry of the flight table changes: so that nothing is pending there, or to one that is pending, with a number that is counted.
-- Assumes nothing.
use mathlib.Core.Path.{◌≡◌, refl, sym, ap, subst, ◌∙◌}
use mathlib.Core.List.{List}
use Prim.Native.Nat.{ℕ, ◌≤◌, ◌<◌}
use native.Mathlib.Omega.{arith}
use native.Mathlib.Decide.{ℕ_discrete}
use Rattle.tables.specs.Pair.{word}
use Rattle.tables.proofs.Table.{put_size}
use Rattle.counters.specs.Counters.{counted_to}
use Rattle.counters.specs.declared.Counters.{Counters}
use Rattle.chain.specs.declared.Chains.{Chains}
use Rattle.group.specs.State.{State, tag_at, number_at, entered, slot_at, counters_at}
use Rattle.serial.specs.Serial.{Handed}
use Rattle.serial.proofs.Inv.{Ground, Nodes, Reading, Slots, Transaction}
use Rattle.serial.proofs.Quiet.{QuietAt}
use Rattle.serial.proofs.Joins.{Entry, JoinsAt, away, here, joins, with_entries}
use Rattle.serial.proofs.Views.{All, Sizes, asks_of, entry, ground_of, links_of, nodes_of, notes_of, same_slot, set_counters, set_slot, set_tables, slots_of}
use Rattle.serial.proofs.Rows.{entered_rows}
use Rattle.serial.proofs.Change.{RaisedTo, any_counters, counters_away, counters_here, moved, no_read, nothing_new, quietly, rising, sized}

module _ (first : ℕ → ℕ) (s : State) (H : List Handed) (a : All first s H) (t n g k : ℕ) (ht : t < 32) (hn : n < 8) (hk : k < word) where
  abbrev G : Ground
  G = ground_of s first

  abbrev C : Nodes
  C = nodes_of s

  abbrev S : Slots
  S = slots_of s

  abbrev f : List ℕ
  f = entered s.flight t n g k

  -- the views with that entry
  abbrev S' : Slots
  S' = with_entries S (tag_at f) (number_at f)

  -- the entry of t at n, or another
  pub looks : (u m : ℕ) → u < 32 → m < 8 → Entry S (tag_at f) (number_at f) t n g k u m
  looks = entry s t n g k a.sizes.flight256 ht hn hk

  -- ---- nothing is pending there: a no vote, and an entry that is dropped

  pub unpends : (3 ≤ g → g ≤ 4 → ⊥) → 4 ≤ S.stg t → S.fin t ≡ 0 → Transaction G C S' t → All first (set_tables s f s.chains s.writes s.reads) H
  unpends idle st void own = subst (λ (z : State). All first (set_tables z f s.chains s.writes s.reads) H) (same_slot s t)
      (quietly s t (slot_at s t) f s.writes s.reads first H H ht (entered_rows s t n g k a.sizes hn) (back (λ z. QuietAt S z t) quiet₁) (back (λ z. Transaction G C z t) own)
      (back (λ z. Reading G C z t (asks_of s t) (notes_of s t)) its) (nothing_new G C (slots_of (moved s t (slot_at s t) f s.writes s.reads)) H) a)
    where
      -- the slot that is put there is the one that stood there
      back : (P : Slots → Type 0) → P S' → P (slots_of (moved s t (slot_at s t) f s.writes s.reads))
      back P p = subst (λ (z : State). P (slots_of (set_tables z f s.chains s.writes s.reads))) (sym (same_slot s t)) p

      its : Reading G C S' t (asks_of s t) (notes_of s t)
      its = no_read G C S' t _ _ (λ z. omega arith) (λ z. omega arith) (λ z. absurd (omega arith)) (a.inv.reading t ht).bounded

      quiet₁ : QuietAt S S' t
      quiet₁ = record {
        none = void;
        none' = void;
        tag = λ m hm l h. elim (looks t m ht hm) [ here i j z y ↦ absurd (idle (omega arith) (omega arith)) | away i z y ↦ z ];
        num = λ m hm l h. elim (looks t m ht hm) [ here i j z y ↦ absurd (idle (omega arith) (omega arith)) | away i z y ↦ y ];
        wr = λ m c hm hc l h. refl;
        rd = λ m c hm hc l h. refl;
        snap = λ m hm l h. refl;
        fixed = λ l. refl;
        joined = λ c hc l b. b;
      }

  -- ---- pending there, with a number that is counted: a yes vote, and the learning of a commit

  abbrev c : Counters
  c = counted_to (counters_at s n) k

  abbrev C' : Nodes
  C' = nodes_of (set_counters s n c)

  pub is_counted : k ≤ C'.cnt n
  is_counted = rw (counters_here first s H n c n a.sizes.counters8 hn refl) (omega arith)

  pub commits_stay : (m : ℕ) → m < 8 → C'.cmt m ≡ C.cmt m
  commits_stay m hm = elim (ℕ_discrete m n) [ yes y ↦ rw (counters_here first s H n c m a.sizes.counters8 hm y, y) | no y ↦ ap (λ (i : Counters). i.commit) (counters_away first s H n c m y) ]

  pub pends_now : JoinsAt G C C' S (links_of s) t n g k → Transaction G C' S' t → All first (set_tables (set_counters s n c) f s.chains s.writes s.reads) H
  pends_now q own = record {
    sizes = record { counters8 = z.counters8; slots32 = z.slots32; flight256 = put_size _ _ _ ∙ z.flight256; lens256 = z.lens256; versions2048 = z.versions2048; writes1024 = z.writes1024; reads1024 = z.reads1024; nodes_high = z.nodes_high; cells_high = z.cells_high; in_run_lem = z.in_run_lem; held = z.held };
    inv = joins G C C' S (tag_at f) (number_at f) (links_of s) t n g k looks (rising first s H n c a up) q (asks_of s) (notes_of s) H own a.inv;
  }
    where
      z : Sizes (set_counters s n c)
      z = sized first s H n c a.sizes

      up : RaisedTo first s H n c
      up = let b = any_counters first s H a n in
          record { cnt = omega arith; cmt = omega arith; fits = omega (arith, b); commit = omega (arith, b); seen = omega (arith, b); pending = λ u hu hm l h. (a.inv.counting.pending u n hu hm l h).0 }

-- what is put back after such a change: the slot is as it was
pub slot_kept : (first : ℕ → ℕ) (s : State) (H : List Handed) (t m : ℕ) (c : Counters) (f : List ℕ) (h : Chains) → All first (set_tables (set_counters s m c) f h s.writes s.reads) H
    → All first (set_tables (set_slot (set_counters s m c) t (slot_at s t)) f h s.writes s.reads) H
slot_kept first s H t m c f h b = subst (λ (z : State). All first (set_tables z f h s.writes s.reads) H) (sym (same_slot (set_counters s m c) t)) b
