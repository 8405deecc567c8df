-- Examples: what each says of the definitions.
-- Assumes nothing.
use Rattle.std.specs.Prelude.{◌≡◌, List, [], ◌∷◌, ℕ, Option, Some}
use Rattle.number.specs.Proposal.{proposal}
use Rattle.counters.specs.declared.Counters.{Counters}
use Rattle.kinds.specs.declared.Step.{Step}
use Rattle.group.specs.State.{State, counters_at}
use Rattle.group.specs.Answer.{Said, said}
use Rattle.score.specs.Steps.{step_of}
use Rattle.runfile.specs.File.{read_file}
use Rattle.claims.specs.Runs.{answers, replies}
use Rattle.claims.specs.Tables.{faulted}

pub data Example : Type 0 where
  faults : (bytes : List ℕ) → (code : ℕ) → Example
  proposes : (node counter : ℕ) → (result : Option ℕ) → Example
  runs : State → (steps : List Step) → (listing : List Said) → Example
  inner : State → (steps : List Step) → (listing : List Said) → Example
  leaves : State → Step → Said → (node : ℕ) → Counters → Example

abbrev pub Holds : Example → Type 0
Holds (faults b c) = faulted (read_file b) ≡ Some c
Holds (proposes n c r) = proposal n c ≡ r
Holds (runs s xs r) = answers s xs ≡ r
Holds (inner s xs r) = replies s xs ≡ r
Holds (leaves s x a n c) = (said (step_of s x).answer ≡ a) × (counters_at (step_of s x).state n ≡ c)

abbrev pub AllHold : List Example → Type 0
AllHold [] = Unit {0}
AllHold (e ∷ es) = Holds e × AllHold es
