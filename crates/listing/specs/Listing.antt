-- The lines of a run: what is printed for each step.
-- Assumes nothing.
use Rattle.std.specs.Prelude.{List, [], ◌∷◌, ◌++◌, ℕ, suc}
use Rattle.text.specs.Text.{line_of}
use Rattle.kinds.specs.declared.Step.{Step}
use Rattle.group.specs.declared.Answer.{Answer}
use Rattle.group.specs.State.{State}
use Rattle.group.specs.Answer.{said}
use Rattle.fresh.specs.Fresh.{fresh}
use Rattle.score.specs.Steps.{step_of}
use Rattle.runfile.specs.declared.Head.{Head}

-- the line of step i: its index, then code, number and value of its answer
unfoldable pub line_for : ℕ → Answer → List ℕ
line_for i a = let w = said a in line_of (i ∷ w.code ∷ w.number ∷ w.value ∷ [])

-- the lines of a run from a state, counted from i on
unfoldable pub lines_from : ℕ → State → List Step → List ℕ
lines_from i s [] = []
lines_from i s (x ∷ xs) = let o = step_of s x in line_for i o.answer ++ lines_from (suc i) o.state xs

unfoldable pub fresh_of : Head → State
fresh_of h = fresh h.nodes h.cells h.counters h.masks h.values
