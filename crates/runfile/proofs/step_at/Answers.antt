-- `runfile::step_at` meets its contract: not wholly there, or its eight bytes, of which the last four are one number.
-- Assumes nothing.
use mathlib.Core.Path.{sym}
use native.Mathlib.Omega.{arith}
use Rattle.runfile.proofs.Parts.{number_there, number_not, step_not, step_in_lem}
use Rattle.runfile.proofs.step_at.Goals as goal

pub returns-then-part-i : goal.returns-then-part-i
returns-then-part-i c = step_not _ _ c.if-part-i.true

pub returns-in_err-value : goal.returns-in_err-value
returns-in_err-value c = let l = number_not _ _ 4 (omega arith) (sym c.in_err-value.ensures) in absurd (omega arith)

pub returns : goal.returns
returns c = step_in_lem _ _ _ (omega arith) (number_there _ _ _ _ (sym c.in_ok-value.ensures)).0
