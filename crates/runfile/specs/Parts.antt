-- The steps section as a part of the file's bytes, and a step of such a part.
-- Assumes nothing.
use Rattle.std.specs.Prelude.{◌≡◌, cond, List, [], ℕ, ◌+◌, ◌*◌, Option, None, Some, leb, length, take, drop}
use Rattle.std.specs.Borrow.{Bor}
use Rattle.kinds.specs.declared.Step.{Step}
use Rattle.runfile.specs.File.{step_from}

-- where the steps start: past two counts of one byte, the counters, the cells and the count of steps
abbrev pub steps_start : ℕ → ℕ → ℕ
steps_start nodes cells = 4 + 4 * nodes + 5 * cells

-- r is that very part of the file, or the empty part at its end where the file has no such part
pub record StepsPart (file : Bor (List ℕ)) (nodes cells count : ℕ) (r : Bor (List ℕ)) : Type 0 where
  pub bytes :
      r.now
      ≡ cond (leb (steps_start nodes cells + 8 * count) (length file.now)) (take (8 * count) (drop (steps_start nodes cells) file.now)) []
  pub block : r.ref_ptr.0 ≡ file.ref_ptr.0
  pub offset :
      r.ref_ptr.1
      ≡ file.ref_ptr.1 + cond (leb (steps_start nodes cells + 8 * count) (length file.now)) (steps_start nodes cells) (length file.now)

-- the eight bytes of step i of a part
abbrev pub step_in : List ℕ → ℕ → Step
step_in part i = step_from (take 8 (drop (8 * i) part))

-- step i of a part; none where it is not wholly there
unfoldable pub step_at : List ℕ → ℕ → Option Step
step_at part i = cond (leb (8 * (i + 1)) (length part)) (Some (step_in part i)) None
