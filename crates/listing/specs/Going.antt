-- What the contracts of the listing's parts cite.
-- Assumes nothing.
use Rattle.std.specs.Prelude.{◌≡◌, Bool, true, cond, List, [], ◌∷◌, ℕ, ◌*◌, ◌≤◌, ◌<◌, length}
use Rattle.text.specs.Text.{placed}
use Rattle.kinds.specs.declared.Step.{Step}
use Rattle.group.specs.Answer.{Said}
use Rattle.group.specs.State.{State}
use Rattle.whole.specs.Whole.{whole}
use Rattle.score.specs.Steps.{step_of}
use Rattle.runfile.specs.File.{fields_sound}
use Rattle.runfile.specs.Head.{firsts}
use Rattle.runfile.specs.Parts.{step_in}
use Rattle.listing.specs.declared.Reply.{Reply}
use Rattle.listing.specs.Listing.{lines_from}

-- the state after the steps
unfoldable pub state_after : State → List Step → State
state_after s [] = s
state_after s (x ∷ xs) = state_after (step_of s x).state xs

-- the first i steps of a steps section, and their lines
abbrev pub steps_to : List ℕ → ℕ → List Step
steps_to part i = firsts i (step_in part)

abbrev pub lines_to : State → List ℕ → ℕ → List ℕ
lines_to s part i = lines_from 0 s (steps_to part i)

-- a run that can be gone through with no test of its state: every state on the way is whole, every step is there and has a zero in each
-- field that its kind doesn't use
pub record Goes (s : State) (part : List ℕ) (count : ℕ) : Type 0 where
  pub few : count ≤ 4096
  pub there : 8 * count ≤ length part
  pub fields : (i : ℕ) → i < count → fields_sound (step_in part i) ≡ true
  pub wholes : (i : ℕ) → i < count → whole (state_after s (steps_to part i)) ≡ true

-- the output with the bytes placed, or untouched where they are only counted
abbrev pub shown : Bool → List ℕ → ℕ → List ℕ → List ℕ
shown write out at bytes = cond write (placed out at bytes) out

abbrev pub said_by : Reply → Said
said_by r = record { code = r.code; number = r.number; value = r.value }
