-- The sections of a file, read turn by turn.
-- Assumes nothing.
use mathlib.Core.Path.{◌≡◌, refl, ◌∙◌}
use mathlib.Core.Bool.{true, false}
use mathlib.Core.List.{List}
use Rattle.std.specs.Prelude.{None, Some}
use Prim.Native.Nat.{ℕ, ◌+◌, ◌*◌, ◌≤◌, ◌<◌}
use native.Mathlib.Omega.{arith}
use lib.ListN.{length, drop, get_or, replicate}
use lib.Seq.{drop-drop}
use Rattle.tables.specs.Table.{at, put}
use Rattle.tables.proofs.Table.{put_size, put_same, put_other}
use Rattle.runfile.specs.declared.Fault.{Fault}
use Rattle.runfile.specs.declared.Fault.TheVariants.{Short, Mask, Field}
use Rattle.little.specs.Little.{number_at}
use Rattle.kinds.specs.declared.Step.{Step}
use Rattle.runfile.specs.File.{got, fault, read_counter, read_cell, read_step, read_items, mask_sound, fields_sound}
use Rattle.runfile.specs.Parts.{step_in, step_at}
use Rattle.runfile.specs.Head.{firsts, padded, cell_in}
use Rattle.runfile.proofs.Reading.{counter_there, counter_cut, cell_there, cell_bad, cell_cut, step_good, step_bad, step_cut, Left, left_none, left_next, left_fault, left_all}
use Rattle.runfile.proofs.Rows.{firsts_next, firsts_changed, Blank, blank_all, blank_put, blank_more, padded_blank}

-- ---- the sections, turn by turn

-- after i of n counters: they stand in the table l, and zeros past them
pub record CountersSo (file : List ℕ) (n i : ℕ) (l : List ℕ) : Type 0 where
  pub size : length l ≡ 8
  pub blank : Blank i l
  pub left : Left read_counter 4 (drop 1 file) n i (firsts i (λ j. at l j 0))

module _ (file : List ℕ) (n : ℕ) where
  pub counters_start : CountersSo file n 0 (replicate 8 0)
  unfolding firsts
  counters_start = record { size = refl; blank = blank_all 8; left = left_none read_counter 4 (drop 1 file) n }

  module _ (i : ℕ) (l : List ℕ) (so : CountersSo file n i l) where
    pub counters_turn : (x : ℕ) → i < n → n ≤ 8 → number_at file (1 + 4 * i) 4 ≡ Some x → CountersSo file n (i + 1) (put l i x)
    counters_turn x h few e =
        let k : i < length l = omega (arith, so.size) in
        let r : read_counter (drop (4 * i) (drop 1 file)) ≡ got x (drop 4 (drop (4 * i) (drop 1 file))) = rw (drop-drop (4 * i) 1 file) (counter_there file (1 + 4 * i) x e) in
        let f = firsts_changed i (λ j. at l j 0) (λ j. at (put l i x) j 0) x (λ j m. put_other l i x j 0 (λ q. omega arith)) (put_same l i x 0 k) in
        record { size = put_size l i x ∙ so.size; blank = blank_put i l x so.blank; left = rw f (left_next read_counter 4 (drop 1 file) n i _ x h r so.left) }

    pub counters_cut : i < n → number_at file (1 + 4 * i) 4 ≡ None → read_items read_counter n (drop 1 file) ≡ fault Short
    counters_cut h e =
        let r : read_counter (drop (4 * i) (drop 1 file)) ≡ fault Short = rw (drop-drop (4 * i) 1 file) (counter_cut file (1 + 4 * i) e) in
        left_fault read_counter 4 (drop 1 file) n i _ Short h r so.left

    pub counters_padded : n ≤ 8 → i ≤ n → padded 8 (firsts n (λ j. at l j 0)) ≡ l
    counters_padded few k = padded_blank n 8 l so.size few (blank_more i n l k so.blank)

    pub counters_end : i ≤ n → n ≤ i → read_items read_counter n (drop 1 file) ≡ got (firsts n (λ j. at l j 0)) (drop (4 * n) (drop 1 file))
    counters_end k h = let q : i ≡ n = omega arith in rw q at (left_all read_counter 4 (drop 1 file) n i _ k h so.left)

-- after i of n cells
pub record CellsSo (file : List ℕ) (start nodes n i : ℕ) (masks values : List ℕ) : Type 0 where
  pub masks_size : length masks ≡ 32
  pub values_size : length values ≡ 32
  pub masks_blank : Blank i masks
  pub values_blank : Blank i values
  pub left : Left (read_cell nodes) 5 (drop start file) n i (firsts i (cell_in masks values))

module _ (file : List ℕ) (start nodes n : ℕ) where
  pub cells_start : CellsSo file start nodes n 0 (replicate 32 0) (replicate 32 0)
  unfolding firsts
  cells_start = record { masks_size = refl; values_size = refl; masks_blank = blank_all 32; values_blank = blank_all 32; left = left_none (read_cell nodes) 5 (drop start file) n }

  module _ (i : ℕ) (masks values : List ℕ) (so : CellsSo file start nodes n i masks values) where
    pub cells_turn :
        (m v : ℕ) → i < n → n ≤ 32 → number_at file (start + 5 * i + 1) 4 ≡ Some v
        → m ≡ get_or file (start + 5 * i) 0 → mask_sound nodes m ≡ true → CellsSo file start nodes n (i + 1) (put masks i m) (put values i v)
    cells_turn m v h few e q t =
        let km : i < length masks = omega (arith, so.masks_size) in
        let kv : i < length values = omega (arith, so.values_size) in
        let r : read_cell nodes (drop (5 * i) (drop start file)) ≡ got (record { mask = m; value = v }) (drop 5 (drop (5 * i) (drop start file))) =
        rw (drop-drop (5 * i) start file, q) (cell_there file (start + 5 * i) nodes v e (rw q at t)) in
        let f = firsts_changed i (cell_in masks values) (cell_in (put masks i m) (put values i v)) (record { mask = m; value = v })
        (λ j l. rw (put_other masks i m j 0 (λ z. omega arith), put_other values i v j 0 (λ z. omega arith)))
        (rw (put_same masks i m 0 km, put_same values i v 0 kv)) in
        record {
          masks_size = put_size masks i m ∙ so.masks_size;
          values_size = put_size values i v ∙ so.values_size;
          masks_blank = blank_put i masks m so.masks_blank;
          values_blank = blank_put i values v so.values_blank;
          left = rw f (left_next (read_cell nodes) 5 (drop start file) n i _ _ h r so.left);
        }

    cells_fault : (c : Fault) → i < n → read_cell nodes (drop (start + 5 * i) file) ≡ fault c → read_items (read_cell nodes) n (drop start file) ≡ fault c
    cells_fault c h e =
        let r : read_cell nodes (drop (5 * i) (drop start file)) ≡ fault c = rw (drop-drop (5 * i) start file) e in
        left_fault (read_cell nodes) 5 (drop start file) n i _ c h r so.left

    pub cells_cut : i < n → number_at file (start + 5 * i + 1) 4 ≡ None → read_items (read_cell nodes) n (drop start file) ≡ fault Short
    cells_cut h e = cells_fault Short h (cell_cut file (start + 5 * i) nodes e)

    pub cells_bad :
        (m v : ℕ) → i < n → number_at file (start + 5 * i + 1) 4 ≡ Some v → m ≡ get_or file (start + 5 * i) 0 → mask_sound nodes m ≡ false
        → read_items (read_cell nodes) n (drop start file) ≡ fault Mask
    cells_bad m v h e q t = cells_fault Mask h (cell_bad file (start + 5 * i) nodes v e (rw q at t))

    pub masks_padded : n ≤ 32 → i ≤ n → padded 32 (firsts n (λ j. at masks j 0)) ≡ masks
    masks_padded few k = padded_blank n 32 masks so.masks_size few (blank_more i n masks k so.masks_blank)

    pub values_padded : n ≤ 32 → i ≤ n → padded 32 (firsts n (λ j. at values j 0)) ≡ values
    values_padded few k = padded_blank n 32 values so.values_size few (blank_more i n values k so.values_blank)

    pub cells_end : i ≤ n → n ≤ i → read_items (read_cell nodes) n (drop start file) ≡ got (firsts n (cell_in masks values)) (drop (5 * n) (drop start file))
    cells_end k h = let q : i ≡ n = omega arith in rw q at (left_all (read_cell nodes) 5 (drop start file) n i _ k h so.left)

-- after i of n steps
abbrev pub StepsSo : List ℕ → ℕ → ℕ → Type 0
StepsSo part n i = Left read_step 8 part n i (firsts i (step_in part))

module _ (part : List ℕ) (n : ℕ) where
  pub steps_start_lem : StepsSo part n 0
  unfolding firsts
  steps_start_lem = left_none read_step 8 part n

  module _ (i : ℕ) (so : StepsSo part n i) where
    pub steps_turn : (x : Step) → i < n → step_at part i ≡ Some x → fields_sound x ≡ true → StepsSo part n (i + 1)
    steps_turn x h e t = rw (firsts_next i (step_in part)) (left_next read_step 8 part n i _ _ h (step_good part i x e t) so)

    pub steps_cut : i < n → step_at part i ≡ None → read_items read_step n part ≡ fault Short
    steps_cut h e = left_fault read_step 8 part n i _ Short h (step_cut part i e) so

    pub steps_bad : (x : Step) → i < n → step_at part i ≡ Some x → fields_sound x ≡ false → read_items read_step n part ≡ fault Field
    steps_bad x h e t = left_fault read_step 8 part n i _ Field h (step_bad part i x e t) so

    pub steps_end : i ≤ n → n ≤ i → read_items read_step n part ≡ got (firsts n (step_in part)) (drop (8 * n) part)
    steps_end h k = let q : i ≡ n = omega arith in rw q at (left_all read_step 8 part n i _ h k so)
