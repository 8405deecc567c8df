-- The small part of a run as the code holds it, and what opening a file comes to.
-- Assumes nothing.
use Rattle.std.specs.Prelude.{◌≡◌, List, [], ◌∷◌, ◌++◌, map, ℕ, zero, suc, ◌-◌, ◌≤◌, Result, Ok, Err, length, drop, replicate}
use Rattle.tables.specs.Table.{at}
use Rattle.kinds.specs.declared.Step.{Step}
use Rattle.runfile.specs.declared.Head.{Head}
use Rattle.runfile.specs.declared.Fault.{Fault}
use Rattle.runfile.specs.File.{Cell, File, Read, got, fault, and_then, at_end, read_items, read_step}
use Rattle.runfile.specs.Parts.{steps_start}

-- the list with zeros after it, up to k
unfoldable pub padded : ℕ → List ℕ → List ℕ
padded k xs = xs ++ replicate (k - length xs) 0

-- a run without its steps: entries past the counts are 0
unfoldable pub head_of : File → Head
head_of f = record {
  nodes = length f.counters;
  cells = length f.cells;
  steps = length f.steps;
  counters = padded 8 f.counters;
  masks = padded 32 (map (λ (c : Cell). c.mask) f.cells);
  values = padded 32 (map (λ (c : Cell). c.value) f.cells);
}

-- what opening a file comes to: the run's head, or the file's fault
unfoldable pub opened_of : Read File → Result Head Fault
opened_of (got f r) = Ok (head_of f)
opened_of (fault c) = Err c

-- the first k items of a row, by place
unfoldable pub firsts : {A : Type 0} → ℕ → (ℕ → A) → List A
firsts zero g = []
firsts (suc k) g = firsts k g ++ (g k ∷ [])

-- the cell at a place of two tables
abbrev pub cell_in : List ℕ → List ℕ → ℕ → Cell
cell_in masks values i = record { mask = at masks i 0; value = at values i 0 }

-- how a reading went: what its value stands for, and the bytes after it; or the fault
abbrev pub read_as : {T A : Type 0} → Result T Fault → (T → A) → List ℕ → Read A
read_as (Ok t) f rest = got (f t) rest
read_as (Err c) f rest = fault c

-- the run that a head and steps make
abbrev pub file_with : Head → List Step → File
file_with h steps = record {
  counters = firsts h.nodes (λ i. at h.counters i 0);
  cells = firsts h.cells (cell_in h.masks h.values);
  steps = steps;
}

-- what a file comes to by all that stands before its steps: the fault found there, or that head was read and the steps decide
abbrev pub by_front : List ℕ → Result Head Fault → Read File
by_front b (Ok h) = and_then (read_items read_step h.steps (drop (steps_start h.nodes h.cells) b)) (λ steps rest. at_end (file_with h steps) rest)
by_front b (Err c) = fault c

-- the entries of a head past its counts are 0, and its steps not too many
pub record Padded (h : Head) : Type 0 where
  pub counters_padded : padded 8 (firsts h.nodes (λ i. at h.counters i 0)) ≡ h.counters
  pub masks_padded : padded 32 (firsts h.cells (λ i. at h.masks i 0)) ≡ h.masks
  pub values_padded : padded 32 (firsts h.cells (λ i. at h.values i 0)) ≡ h.values
  pub few_steps : h.steps ≤ 4096
