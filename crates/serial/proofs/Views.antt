-- The views of a state, the changes that steps are made of, and what a view shows after each.
-- Assumes nothing.
use mathlib.Core.Path.{◌≡◌, ap, ◌∙◌}
use mathlib.Core.Bool.{true}
use mathlib.Core.List.{List}
use Prim.Native.Nat.{ℕ, suc, ◌/◌, ◌%◌, ◌≤◌, ◌<◌}
use native.Mathlib.Omega.{arith}
use native.Mathlib.Decide.{ℕ_discrete}
use lib.ListN.{length}
use borrow.Author.Tests.{le-leb}
use Rattle.std.specs.Prelude.{None, Option, Some}
use Rattle.tables.specs.Table.{at, put}
use Rattle.tables.specs.Pair.{pair, word}
use Rattle.tables.proofs.Table.{put_same, put_other, put_at}
use Rattle.tables.proofs.Pair.{pair_high, pair_low, pair_inj}
use Rattle.counters.specs.Counters.{zeroed}
use Rattle.counters.specs.declared.Counters.{Counters}
use Rattle.chain.specs.declared.Chains.{Chains}
use Rattle.chain.specs.Chain.{len_at, version_at}
use Rattle.group.specs.declared.Slot.{Slot}
use Rattle.group.specs.declared.Ask.{Ask}
use Rattle.group.specs.declared.Note.{Note}
use Rattle.group.specs.State.{State, holds, tag_at, number_at, entered, noted, stage_number, ask_of, note_of, final_of, no_slot, slot_at, counters_at, unfinished}
use Rattle.serial.specs.Serial.{Handed}
use Rattle.serial.proofs.Inv.{Ground, Inv, Links, Nodes, Slots}
use Rattle.serial.proofs.Joins.{Entry, away, here}

-- a snapshot as a number: 0 for none, else one more
abbrev pub fixed_at : Option ℕ → ℕ
fixed_at None = 0
fixed_at (Some s) = suc s

abbrev pub ground_of : State → (ℕ → ℕ) → Ground
ground_of s first = record { hold = holds s.group.masks; nodes = s.group.nodes; cells = s.group.cells; first = first }

abbrev pub nodes_of : State → Nodes
nodes_of s = record { cnt = λ n. (counters_at s n).counter; cmt = λ n. (counters_at s n).commit; see = λ n. (counters_at s n).seen }

abbrev pub slots_of : State → Slots
slots_of s =
    record {
      stg = λ t. stage_number (slot_at s t).stage;
      fin = λ t. final_of (slot_at s t).stage;
      snap = λ t. fixed_at (slot_at s t).snapshot;
      tag = tag_at s.flight;
      num = number_at s.flight;
      wr = noted s.writes;
      rd = noted s.reads;
    }

abbrev pub links_of : State → Links
links_of s =
    record {
      len = len_at s.chains.lens;
      vnum = λ c n i. (version_at s.chains.versions c n i).number;
      vval = λ c n i. (version_at s.chains.versions c n i).value;
    }

abbrev pub asks_of : State → ℕ → Ask
asks_of s t = ask_of (slot_at s t).stage

abbrev pub notes_of : State → ℕ → Note
notes_of s t = note_of (slot_at s t).stage

-- how long the tables are, and what the group is
pub record Sizes (s : State) : Type 0 where
  pub counters8 : length s.group.counters ≡ 8
  pub slots32 : length s.group.slots ≡ 32
  pub flight256 : length s.flight ≡ 256
  pub lens256 : length s.chains.lens ≡ 256
  pub versions2048 : length s.chains.versions ≡ 2048
  pub writes1024 : length s.writes ≡ 1024
  pub reads1024 : length s.reads ≡ 1024
  pub nodes_high : s.group.nodes ≤ 8
  pub cells_high : s.group.cells ≤ 32
  pub in_run_lem : (n c : ℕ) → n < 8 → c < 32 → holds s.group.masks n c ≡ true → (n < s.group.nodes) × (c < s.group.cells)
  pub held : (c : ℕ) → c < s.group.cells → (n : ℕ) × (n < s.group.nodes) × (holds s.group.masks n c ≡ true)

pub record All (first : ℕ → ℕ) (s : State) (H : List Handed) : Type 0 where
  pub sizes : Sizes s
  pub inv : Inv (ground_of s first) (nodes_of s) (slots_of s) (links_of s) (asks_of s) (notes_of s) H

-- ---- changes

abbrev pub set_counters : State → ℕ → Counters → State
set_counters s n c =
    record {
      group = record { nodes = s.group.nodes; cells = s.group.cells; counters = put s.group.counters n c; masks = s.group.masks; slots = s.group.slots };
      flight = s.flight;
      chains = s.chains;
      writes = s.writes;
      reads = s.reads;
    }

abbrev pub set_slot : State → ℕ → Slot → State
set_slot s t x =
    record {
      group = record { nodes = s.group.nodes; cells = s.group.cells; counters = s.group.counters; masks = s.group.masks; slots = put s.group.slots t x };
      flight = s.flight;
      chains = s.chains;
      writes = s.writes;
      reads = s.reads;
    }

abbrev pub set_tables : State → List ℕ → Chains → List ℕ → List ℕ → State
set_tables s f h w r = record { group = s.group; flight = f; chains = h; writes = w; reads = r }

-- what stands there already
pub same_counters : (s : State) (n : ℕ) → set_counters s n (counters_at s n) ≡ s
same_counters s n = λ i.
    record {
      group = record { nodes = s.group.nodes; cells = s.group.cells; counters = put_at s.group.counters n (zeroed 0) i; masks = s.group.masks; slots = s.group.slots };
      flight = s.flight;
      chains = s.chains;
      writes = s.writes;
      reads = s.reads;
    }

pub same_slot : (s : State) (t : ℕ) → set_slot s t (slot_at s t) ≡ s
same_slot s t = λ i.
    record {
      group = record { nodes = s.group.nodes; cells = s.group.cells; counters = s.group.counters; masks = s.group.masks; slots = put_at s.group.slots t no_slot i };
      flight = s.flight;
      chains = s.chains;
      writes = s.writes;
      reads = s.reads;
    }

-- ---- an entry of the flight table

pub entry : (s : State) (t n g k : ℕ) → length s.flight ≡ 256 → t < 32 → n < 8 → k < word → (u m : ℕ) → u < 32 → m < 8
    → Entry (slots_of s) (tag_at (entered s.flight t n g k)) (number_at (entered s.flight t n g k)) t n g k u m
entry s t n g k l ht hn hk u m hu hm = elim (ℕ_discrete (pair 8 u m) (pair 8 t n)) [
  | yes e ↦ let r = pair_inj 8 u m t n hm hn e in
      let x = ap (λ (i : ℕ). at (entered s.flight t n g k) i 0) e ∙ put_same s.flight (pair 8 t n) (pair word g k) 0 (omega arith) in
      here r.0 r.1 (ap (◌/ word) x ∙ pair_high word g k hk) (ap (◌% word) x ∙ pair_low word g k hk)
  | no e ↦ let x = put_other s.flight (pair 8 t n) (pair word g k) (pair 8 u m) 0 e in
      away (λ p d. e (ap (λ (i : ℕ). pair 8 i m) p ∙ ap (pair 8 t) d)) (ap (◌/ word) x) (ap (◌% word) x)
]

-- an unfinished entry, by its tag
pub pends : (f : List ℕ) (u n : ℕ) → 3 ≤ at f (pair 8 u n) 0 / word → at f (pair 8 u n) 0 / word ≤ 4 → unfinished f u n ≡ true
unfolding unfinished
pends f u n l h = rw (le-leb _ _ l, le-leb _ _ h)
