-- There and back between a run, its head and steps, and its file: what is opened can be written again, and what is written is opened.
-- Assumes nothing.
use mathlib.Core.Path.{◌≡◌, refl, sym, ap, ◌∙◌}
use mathlib.Core.List.{List, [], ◌∷◌, ◌++◌, map}
use Rattle.std.specs.Prelude.{None}
use Prim.Native.Nat.{ℕ, zero, suc, ◌-◌, ◌^◌, ◌<◌}
use lib.ListN.{length, replicate, length-map, get_or-append, get_or-map}
use Rattle.tables.specs.Table.{at}
use Rattle.tables.proofs.Table.{same_table}
use Rattle.kinds.specs.declared.Step.{Step}
use Rattle.runfile.specs.declared.Head.{Head}
use Rattle.runfile.specs.File.{Cell, File, got, fault_of, bytes_of, read_file}
use Rattle.runfile.specs.Head.{padded, firsts, cell_in, head_of}
use Rattle.runwrite.specs.Writing.{file_of}
use Rattle.runfile.proofs.Items.{All}
use Rattle.runfile.proofs.BothWays.{Sound, read_written}
use Rattle.runfile.proofs.FileItems.{StepFits}
use Rattle.runfile.proofs.Rows.{firsts_size, at_firsts}

-- ---- from a run to its head and back

at_padded : (k : ℕ) (xs : List ℕ) (i : ℕ) → i < length xs → at (padded k xs) i 0 ≡ at xs i 0
unfolding padded at
at_padded k xs i h = get_or-append xs (replicate (k - length xs) 0) 0 i h

counters_back : (k : ℕ) (xs : List ℕ) → firsts (length xs) (λ i. at (padded k xs) i 0) ≡ xs
counters_back k xs =
    let g : ℕ → ℕ = λ i. at (padded k xs) i 0 in
    same_table 0 (firsts (length xs) g) xs (firsts_size (length xs) g) (λ i h.
    let l : i < length xs = rw (firsts_size (length xs) g) at h in
    at_firsts (length xs) g i 0 l ∙ at_padded k xs i l)

no_cell : Cell
no_cell = record { mask = 0; value = 0 }

at_mapped : (k : ℕ) (f : Cell → ℕ) (cs : List Cell) (i : ℕ) → f no_cell ≡ 0 → i < length cs → at (padded k (map f cs)) i 0 ≡ f (at cs i no_cell)
unfolding at
at_mapped k f cs i z h =
    at_padded k (map f cs) i (rw (length-map cs f) h) ∙ ap (λ (d : ℕ). at (map f cs) i d) (sym z) ∙ get_or-map f cs i no_cell

cells_back :
    (k : ℕ) (cs : List Cell)
    → firsts (length cs) (cell_in (padded k (map (λ (c : Cell). c.mask) cs)) (padded k (map (λ (c : Cell). c.value) cs))) ≡ cs
unfolding no_cell
cells_back k cs =
    let g : ℕ → Cell = cell_in (padded k (map (λ (c : Cell). c.mask) cs)) (padded k (map (λ (c : Cell). c.value) cs)) in
    same_table no_cell (firsts (length cs) g) cs (firsts_size (length cs) g) (λ i h.
    let l : i < length cs = rw (firsts_size (length cs) g) at h in
    at_firsts (length cs) g i no_cell l
    ∙ rw (at_mapped k (λ (c : Cell). c.mask) cs i refl l, at_mapped k (λ (c : Cell). c.value) cs i refl l))

-- every run is written from its head and its steps
pub file_back : (f : File) → file_of (head_of f) f.steps ≡ f
unfolding file_of head_of
file_back f = rw (counters_back 8 f.counters, cells_back 32 f.cells)

-- ---- what is written is sound, where the head's numbers and the steps' are those of their types

all_append : {A : Type 0} (P : A → Type 0) (xs ys : List A) → All P xs → All P ys → All P (xs ++ ys)
all_append P [] ys p q = q
all_append P (x ∷ xs) ys p q = (p.0, all_append P xs ys p.1 q)

all_firsts : {A : Type 0} (P : A → Type 0) (k : ℕ) (g : ℕ → A) → ((i : ℕ) → P (g i)) → All P (firsts k g)
unfolding firsts
all_firsts P zero g h = tt
all_firsts P (suc k) g h = all_append P (firsts k g) (g k ∷ []) (all_firsts P k g h) (h k, tt)

module _
    (h : Head) (steps : List Step) (low_counters : (i : ℕ) → at h.counters i 0 < 2 ^ 32) (low_values : (i : ℕ) → at h.values i 0 < 2 ^ 32)
    (low_steps : All StepFits steps) (e : fault_of (file_of h steps) ≡ None) where
  pub file_sound : Sound (file_of h steps)
  unfolding file_of
  file_sound = record {
    no_fault = e;
    counters_fit = all_firsts (λ (x : ℕ). x < 256 ^ 4) h.nodes (λ i. at h.counters i 0) low_counters;
    values_fit = all_firsts (λ (c : Cell). c.value < 256 ^ 4) h.cells (cell_in h.masks h.values) low_values;
    steps_fit = low_steps;
  }

  pub file_read_back : read_file (bytes_of (file_of h steps)) ≡ got (file_of h steps) []
  file_read_back = read_written (file_of h steps) file_sound
