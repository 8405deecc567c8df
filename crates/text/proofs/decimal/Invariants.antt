-- `text::decimal` meets its contract. The loop's invariant: to store the digits that are left comes to the same as to store all of them.
-- Assumes nothing.
use mathlib.Core.Path.{◌≡◌}
use Rattle.text.specs.Text.{decimal, placed}
use Rattle.text.proofs.Coding.{with_first}
use Rattle.text.proofs.decimal.Given as goal

abbrev pub invariant-loop-i : goal.invariant-loop-i
invariant-loop-i l = placed l.initial.out l.at (decimal l.x) ≡ with_first l.out l.at l.i l.high
