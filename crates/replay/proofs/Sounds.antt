-- A sound file's head is a sound group in the words of the serial statement.
-- Assumes nothing.
use mathlib.Core.Path.{◌≡◌, refl, sym, ap, ◌∙◌}
use mathlib.Core.List.{List, map}
use Prim.Native.Nat.{ℕ, ◌+◌, ◌-◌, ◌≤◌, ◌<◌}
use native.Mathlib.Omega.{arith}
use lib.Dec.{ltb}
use lib.ListN.{length, replicate, length-append, length-replicate, length-map, get_or-append, get_or-map}
use lib.Seq.{get_or-append-add}
use borrow.Author.Tests.{ltb-true, ltb-false}
use Rattle.tables.specs.Table.{at}
use Rattle.tables.specs.Pair.{word}
use Rattle.tables.proofs.Choice.{by_test, and_true}
use Rattle.tables.proofs.Table.{at_all, at_past}
use Rattle.runfile.specs.File.{Cell, File}
use Rattle.runfile.specs.Head.{padded, head_of}
use Rattle.runfile.proofs.Items.{all_at}
use Rattle.runfile.proofs.BothWays.{Sound, Passes, passes_when}
use Rattle.serial.specs.Serial.{Sound as SoundGroup}

-- ---- a list with zeros after it

padded_size : (k : ℕ) (xs : List ℕ) → length xs ≤ k → length (padded k xs) ≡ k
unfolding padded
padded_size k xs h =
    length-append xs (replicate (k - length xs) 0) ∙ omega (arith, length-replicate {A = ℕ} (k - length xs) 0)

at_zeros : (k i : ℕ) → at {A = ℕ} (replicate k 0) i 0 ≡ 0
at_zeros k i =
    by_test (ltb i k) (λ e. at_all k i 0 0 (ltb-true i k e)) (λ e. at_past (replicate k 0) i 0 (rw (length-replicate {A = ℕ} k 0) (ltb-false i k e)))

at_beyond : (k : ℕ) (xs : List ℕ) (i : ℕ) → length xs ≤ i → at (padded k xs) i 0 ≡ 0
unfolding padded at
at_beyond k xs i h =
    let e : length xs + (i - length xs) ≡ i = omega arith in
    rw e at (get_or-append-add xs (replicate (k - length xs) 0) (i - length xs) 0) ∙ at_zeros (k - length xs) (i - length xs)

at_within : (k : ℕ) (xs : List ℕ) (i : ℕ) → i < length xs → at (padded k xs) i 0 ≡ at xs i 0
unfolding padded at
at_within k xs i h = get_or-append xs (replicate (k - length xs) 0) 0 i h

-- what holds of 0 and of each item holds at every place
at_any : (P : ℕ → Type 0) (k : ℕ) (xs : List ℕ) → P 0 → ((i : ℕ) → i < length xs → P (at xs i 0)) → (i : ℕ) → P (at (padded k xs) i 0)
at_any P k xs z p i =
    by_test (ltb i (length xs)) (λ e. rw (at_within k xs i (ltb-true i (length xs) e)) (p i (ltb-true i (length xs) e)))
    (λ e. rw (at_beyond k xs i (ltb-false i (length xs) e)) z)

no_cell : Cell
no_cell = record { mask = 0; value = 0 }

at_map : (f : Cell → ℕ) (cs : List Cell) (i : ℕ) → f no_cell ≡ 0 → at (map f cs) i 0 ≡ f (at cs i no_cell)
unfolding at
at_map f cs i z = ap (λ (d : ℕ). at (map f cs) i d) (sym z) ∙ get_or-map f cs i no_cell

-- ---- a sound file

module _ (f : File) (s : Sound f) where
  p : Passes f
  p = passes_when f s.no_fault

  mask : Cell → ℕ
  mask c = c.mask

  few_cells : (g : Cell → ℕ) → length (map g f.cells) ≤ 32
  few_cells g = rw (length-map f.cells g) p.cells_high

  pub group_sound : let h = head_of f in SoundGroup h.nodes h.cells h.counters h.masks h.values
  unfolding head_of no_cell
  group_sound = record {
    nodes_in = (p.nodes_low, p.nodes_high);
    cells_in = (p.cells_low, p.cells_high);
    lengths = (
      padded_size 8 f.counters p.nodes_high,
      padded_size 32 (map (λ (c : Cell). c.mask) f.cells) (few_cells _),
      padded_size 32 (map (λ (c : Cell). c.value) f.cells) (few_cells _),
    );
    counters_fit = at_any (λ x. x < word) 8 f.counters (omega arith) (λ i h. all_at _ f.counters i 0 s.counters_fit h);
    values_fit = at_any (λ x. x < word) 32 (map (λ (c : Cell). c.value) f.cells) (omega arith) (λ i h.
        let l = rw (length-map f.cells (λ (c : Cell). c.value)) at h in
        rw (at_map (λ (c : Cell). c.value) f.cells i refl) (all_at _ f.cells i no_cell s.values_fit l));
    masks_in = λ c h.
        let l : c < length (map (λ (c : Cell). c.mask) f.cells) = rw (length-map f.cells (λ (c : Cell). c.mask)) h in
        let e = and_true _ _ (all_at _ f.cells c no_cell p.masks h) in
        rw (at_within 32 (map (λ (c : Cell). c.mask) f.cells) c l, at_map (λ (c : Cell). c.mask) f.cells c refl) (ltb-true _ _ e.0, ltb-true _ _ e.1);
    masks_out = λ c h. at_beyond 32 (map (λ (c : Cell). c.mask) f.cells) c (rw (length-map f.cells (λ (c : Cell). c.mask)) h);
  }
