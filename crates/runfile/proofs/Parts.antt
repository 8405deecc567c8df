-- Laws of parts of a file: what a number read at a place tells, the steps section, and a step of it.
-- Assumes nothing.
use mathlib.Core.Path.{◌≡◌, sym, ap, ◌∙◌}
use mathlib.Core.Bool.{cond}
use mathlib.Core.List.{List, [], ◌++◌, append_assoc, append-nil}
use Rattle.std.specs.Prelude.{None, Some}
use Rattle.std.proofs.lemmas.Option.{none-some}
use Prim.Native.Nat.{ℕ, ◌+◌, ◌*◌, ◌/◌, ◌≤◌, ◌<◌}
use native.Mathlib.Nat.{add-zero, le_of_eq}
use native.Mathlib.Omega.{arith}
use lib.Dec.{leb, lit<}
use lib.ListN.{length, take, drop, get_or, length-drop, length-append}
use lib.Seq.{take_all, take-add, drop_at, length-take-le, drop-drop, get_or-take, get_or-drop}
use borrow.Author.Tests.{le-leb, lt-leb, leb-true, leb-false}
use Rattle.kinds.specs.declared.Step.{Step}
use Rattle.tables.specs.Table.{at}
use Rattle.tables.proofs.Choice.{by_test}
use Rattle.little.specs.Little.{little, digits, fits, number_at}
use Rattle.little.proofs.Laws.{Bytes, digits_size, fits_in, fits_true, number_in, number_out}
use Rattle.runfile.specs.File.{File, got, step_bytes, step_from, cell_bytes, joined, bytes_of, read_file}
use Rattle.runfile.specs.Parts.{steps_start, step_in, step_at}
use Rattle.runfile.proofs.Items.{All, all_at, joined_size, joined_at}
use Rattle.runfile.proofs.BothWays.{Passes, passes_when, bytes_shape, written_read}
use Rattle.runfile.proofs.FileItems.{counter_item, cell_item, step_item, StepFits, step_from_bytes}

-- ---- a number at a place

pub number_there : (s : List ℕ) (i k x : ℕ) → number_at s i k ≡ Some x → (x ≡ little (take k (drop i s))) × (i + k ≤ length s)
number_there s i k x e =
    by_test (fits (length s) i k) (λ t. (cc (number_in s i k t), (fits_true (length s) i k t).1))
    (λ t. absurd (none-some x (sym (number_out s i k t) ∙ e)))

pub number_not : (s : List ℕ) (i k : ℕ) → k ≤ 4 → number_at s i k ≡ None → length s < i + k
number_not s i k h e =
    by_test (leb (i + k) (length s))
    (λ t. absurd (none-some _ (sym e ∙ number_in s i k (fits_in (length s) i k h (leb-true _ _ t)))))
    (λ t. leb-false _ _ t)

-- ---- parts of parts

pub drop_take : {A : Type 0} (m n : ℕ) (l : List A) → m ≤ length l → drop m (take (m + n) l) ≡ take n (drop m l)
drop_take m n l h = rw (take-add m n l) (drop_at (take m l) (take n (drop m l)) m (length-take-le m l h))

-- ---- a step of it

module _ (part : List ℕ) (i : ℕ) where
  pub step_not : length part / 8 ≤ i → None ≡ step_at part i
  unfolding step_at
  step_not h = rw (lt-leb (8 * (i + 1)) (length part) (omega arith))

  pub step_there : 8 * i + 8 ≤ length part → step_at part i ≡ Some (step_in part i)
  unfolding step_at
  step_there h = rw (le-leb (8 * (i + 1)) (length part) (omega arith))

  byte_in : (j : ℕ) → j < 8 → at (take 8 (drop (8 * i) part)) j 0 ≡ get_or part (8 * i + j) 0
  unfolding at
  byte_in j h = get_or-take 8 (drop (8 * i) part) j 0 h ∙ get_or-drop (8 * i) part j 0

  value_in : 8 * i + 8 ≤ length part → little (drop 4 (take 8 (drop (8 * i) part))) ≡ little (take 4 (drop (8 * i + 4) part))
  value_in h = ap little (drop_take 4 4 (drop (8 * i) part) (omega (arith, length-drop (8 * i) part)) ∙ ap (take 4) (drop-drop 4 (8 * i) part))

  pub step_in_lem :
      (x : ℕ) → 8 * i + 8 ≤ length part → x ≡ little (take 4 (drop (8 * i + 4) part))
      → Some (record {
        kind = get_or part (8 * i) 0;
        slot = get_or part (8 * i + 1) 0;
        node = get_or part (8 * i + 2) 0;
        cell = get_or part (8 * i + 3) 0;
        value = x;
      }) ≡ step_at part i
  step_in_lem x h e =
      rw (step_there h, byte_in 0 (lit< tt), byte_in 1 (lit< tt), byte_in 2 (lit< tt), byte_in 3 (lit< tt), value_in h, add-zero (8 * i), e)

  -- of the bytes of steps it is the one at that place
  pub joined_step :
      (xs : List Step) (d : Step) → part ≡ joined step_bytes xs → All StepFits xs → i < length xs → step_at part i ≡ Some (at xs i d)
  joined_step xs d e fit h =
      let l : 8 * i + 8 ≤ length part = omega (arith, ap length e, joined_size step_item xs) in
      step_there l ∙ ap Some (ap (λ (p : List ℕ). step_in p i) e ∙ ap step_from (joined_at step_item i xs d h) ∙ step_from_bytes _ (all_at StepFits xs i d fit h))

  pub joined_no_step : (xs : List Step) → part ≡ joined step_bytes xs → length xs ≤ i → step_at part i ≡ None
  joined_no_step xs e h = sym (step_not (omega (arith, ap length e, joined_size step_item xs)))

-- ---- the steps section of a file

-- the bytes before the steps
unfoldable pub front : File → List ℕ
front f =
    digits 1 (length f.counters)
    ++ (joined (digits 4) f.counters ++ (digits 1 (length f.cells) ++ (joined cell_bytes f.cells ++ digits 2 (length f.steps))))

pub front_size : (f : File) → length (front f) ≡ steps_start (length f.counters) (length f.cells)
unfolding front
front_size f =
    simp (length-append, digits_size, joined_size counter_item f.counters, joined_size (cell_item 0) f.cells) (omega arith)

pub bytes_front : (f : File) → Passes f → bytes_of f ≡ front f ++ joined step_bytes f.steps
unfolding front
bytes_front f p = bytes_shape f p ∙ simp (append-nil, append_assoc)

pub file_size : (f : File) → Passes f → length (bytes_of f) ≡ steps_start (length f.counters) (length f.cells) + 8 * length f.steps
file_size f p = rw (bytes_front f p, length-append, front_size f, joined_size step_item f.steps)

-- the longest file
pub longest : (f : File) → Passes f → length (bytes_of f) ≤ 32964
longest f p = omega (arith, file_size f p, p.nodes_high, p.cells_high, p.steps_high)

-- the part for the file's own counts is the bytes of its steps
pub steps_section :
    (b : List ℕ) (f : File) → Bytes b → read_file b ≡ got f []
    → let start = steps_start (length f.counters) (length f.cells) in
    let n = 8 * length f.steps in
    cond (leb (start + n) (length b)) (take n (drop start b)) [] ≡ joined step_bytes f.steps
steps_section b f h e =
    let w = written_read b f [] h e in
    let p = passes_when f w.1.no_fault in
    let l = le-leb _ _ (le_of_eq (sym (ap length w.0 ∙ file_size f p))) in
    rw (l, w.0, bytes_front f p, drop_at (front f) (joined step_bytes f.steps) _ (front_size f)) (take_all _ _ (le_of_eq (joined_size step_item f.steps)))
