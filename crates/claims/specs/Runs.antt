-- Runs from a state by steps, and what each step answers.
-- Assumes nothing.
use Rattle.std.specs.Prelude.{List, [], ◌∷◌, ℕ}
use Rattle.kinds.specs.declared.Step.{Step}
use Rattle.group.specs.State.{State}
use Rattle.group.specs.Answer.{Said, said}
use Rattle.score.specs.Steps.{step_whole, step_of}

-- kind, slot, node, cell, value
abbrev pub st : ℕ → ℕ → ℕ → ℕ → ℕ → Step
st k t n c v = record { kind = k; slot = t; node = n; cell = c; value = v }

unfoldable pub answers : State → List Step → List Said
answers s [] = []
answers s (x ∷ xs) = let o = step_of s x in said o.answer ∷ answers o.state xs

-- the same by the step that doesn't test for a whole state: in a run from fresh it is the step (the claim `inner_step`)
unfoldable pub replies : State → List Step → List Said
replies s [] = []
replies s (x ∷ xs) = let o = step_whole s x in said o.answer ∷ replies o.state xs
