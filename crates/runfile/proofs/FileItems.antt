-- The items of the file: counts, counters, cells and steps, each with its bytes.
-- Assumes nothing.
use mathlib.Core.Path.{◌≡◌, refl, ap}
use mathlib.Core.Bool.{Bool, true, ◌&&◌}
use mathlib.Core.List.{List, [], ◌∷◌}
use Prim.Native.Nat.{ℕ, suc, ◌^◌, ◌<◌}
use native.Mathlib.Omega.{arith}
use lib.Dec.{leb}
use lib.ListN.{length}
use Rattle.tables.specs.Table.{at}
use Rattle.kinds.specs.declared.Step.{Step}
use Rattle.runfile.specs.declared.Fault.TheVariants.{Count, Mask, Field}
use Rattle.little.specs.Little.{little, digits}
use Rattle.little.proofs.Laws.{Bytes, digits_size, little_digits, digits_little, little_low}
use Rattle.runfile.specs.File.{Cell, read_count, read_counter, read_cell, read_step, cell_bytes, cell_from, step_bytes, step_from, mask_sound, fields_sound}
use Rattle.runfile.proofs.Items.{Item, read_item}

-- ---- the items of the file

bytes_first : (b : ℕ) (bs : List ℕ) → Bytes (b ∷ bs) → b < 256
unfolding at
bytes_first b bs h = h 0 (omega arith)

bytes_next : (b : ℕ) (bs : List ℕ) → Bytes (b ∷ bs) → Bytes bs
unfolding at
bytes_next b bs h i l = h (suc i) (omega arith)

-- a number of k bytes that passes a test
abbrev pub number_item : ℕ → (ℕ → Bool) → Item ℕ
number_item k ok = record {
  width = k;
  from = little;
  bytes = digits k;
  ok = ok;
  code = Count;
  Fit = λ x. x < 256 ^ k;
  size = digits_size k;
  from_bytes = little_digits k;
  bytes_from = λ i l h. rw l at (digits_little i h);
  fit_from = λ i l h. rw l at (little_low i h);
  coded = (omega arith, omega arith);
}

abbrev pub counter_item : Item ℕ
counter_item = number_item 4 (λ x. true)

abbrev pub count_item : ℕ → ℕ → ℕ → Item ℕ
count_item k low high = number_item k (λ x. leb low x && leb x high)

-- the numbers of a cell and of a step fit
abbrev pub CellFits : Cell → Type 0
CellFits c = (c.mask < 256) × (c.value < 256 ^ 4)

abbrev pub StepFits : Step → Type 0
StepFits x = (x.kind < 256) × (x.slot < 256) × (x.node < 256) × (x.cell < 256) × (x.value < 256 ^ 4)

pub cell_size : (c : Cell) → length (cell_bytes c) ≡ 5
cell_size c = ap suc (digits_size 4 c.value)

pub cell_from_bytes : (c : Cell) → CellFits c → cell_from (cell_bytes c) ≡ c
unfolding at
cell_from_bytes c h = rw (little_digits 4 c.value h.1)

pub cell_bytes_from : (i : List ℕ) → length i ≡ 5 → Bytes i → cell_bytes (cell_from i) ≡ i
unfolding at
cell_bytes_from [] l h = absurd (omega arith)
cell_bytes_from (b ∷ bs) l h = let m : length bs ≡ 4 = omega arith in ap (◌∷◌ b) (rw m at (digits_little bs (bytes_next b bs h)))

pub cell_fit_from : (i : List ℕ) → length i ≡ 5 → Bytes i → CellFits (cell_from i)
unfolding at
cell_fit_from [] l h = absurd (omega arith)
cell_fit_from (b ∷ bs) l h = let m : length bs ≡ 4 = omega arith in (bytes_first b bs h, rw m at (little_low bs (bytes_next b bs h)))

abbrev pub cell_item : ℕ → Item Cell
cell_item nodes = record {
  width = 5;
  from = cell_from;
  bytes = cell_bytes;
  ok = λ c. mask_sound nodes c.mask;
  code = Mask;
  Fit = CellFits;
  size = cell_size;
  from_bytes = cell_from_bytes;
  bytes_from = cell_bytes_from;
  fit_from = cell_fit_from;
  coded = (omega arith, omega arith);
}

pub step_size : (x : Step) → length (step_bytes x) ≡ 8
step_size x = ap (λ (n : ℕ). suc (suc (suc (suc n)))) (digits_size 4 x.value)

pub step_from_bytes : (x : Step) → StepFits x → step_from (step_bytes x) ≡ x
unfolding at
step_from_bytes x h = rw (little_digits 4 x.value h.4)

pub step_bytes_from : (i : List ℕ) → length i ≡ 8 → Bytes i → step_bytes (step_from i) ≡ i
unfolding at
step_bytes_from [] l h = absurd (omega arith)
step_bytes_from (a ∷ []) l h = absurd (omega arith)
step_bytes_from (a ∷ b ∷ []) l h = absurd (omega arith)
step_bytes_from (a ∷ b ∷ c ∷ []) l h = absurd (omega arith)
step_bytes_from (a ∷ b ∷ c ∷ d ∷ bs) l h =
    let m : length bs ≡ 4 = omega arith in
    let q : Bytes bs = λ i p. h (suc (suc (suc (suc i)))) (omega arith) in
    ap (λ (t : List ℕ). a ∷ b ∷ c ∷ d ∷ t) (rw m at (digits_little bs q))

pub step_fit_from : (i : List ℕ) → length i ≡ 8 → Bytes i → StepFits (step_from i)
unfolding at
step_fit_from [] l h = absurd (omega arith)
step_fit_from (a ∷ []) l h = absurd (omega arith)
step_fit_from (a ∷ b ∷ []) l h = absurd (omega arith)
step_fit_from (a ∷ b ∷ c ∷ []) l h = absurd (omega arith)
step_fit_from (a ∷ b ∷ c ∷ d ∷ bs) l h =
    let m : length bs ≡ 4 = omega arith in
    let q : Bytes bs = λ i p. h (suc (suc (suc (suc i)))) (omega arith) in
    (h 0 (omega arith), h 1 (omega arith), h 2 (omega arith), h 3 (omega arith), rw m at (little_low bs q))

abbrev pub step_item : Item Step
step_item = record {
  width = 8;
  from = step_from;
  bytes = step_bytes;
  ok = fields_sound;
  code = Field;
  Fit = StepFits;
  size = step_size;
  from_bytes = step_from_bytes;
  bytes_from = step_bytes_from;
  fit_from = step_fit_from;
  coded = (omega arith, omega arith);
}

-- their readers are the file's
pub count_reader : (k low high : ℕ) → read_count k low high ≡ read_item (count_item k low high)
unfolding read_count read_item
count_reader k low high = refl

pub counter_reader : read_counter ≡ read_item counter_item
unfolding read_counter read_item
counter_reader = refl

pub cell_reader : (nodes : ℕ) → read_cell nodes ≡ read_item (cell_item nodes)
unfolding read_cell read_item
cell_reader nodes = refl

pub step_reader : read_step ≡ read_item step_item
unfolding read_step read_item
step_reader = refl
