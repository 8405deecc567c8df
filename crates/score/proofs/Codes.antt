-- The codes that a step answers are at most 24.
-- Assumes nothing.
use mathlib.Core.Bool.{Bool, true, false, cond}
use Prim.Native.Nat.{◌≤◌}
use native.Mathlib.Omega.{arith}
use Rattle.kinds.specs.declared.Step.{Step}
use Rattle.group.specs.declared.Refusal.TheVariants.{NotWhole}
use Rattle.group.specs.declared.Answer.{Answer}
use Rattle.group.specs.declared.Answer.TheVariants.{Done, Value, Wait, Yes, No, Committed, Aborted, Cut, Refused}
use Rattle.group.specs.State.{State}
use Rattle.group.specs.Answer.{code, said}
use Rattle.whole.specs.Whole.{whole}
use Rattle.score.specs.Place.{desk_of}
use Rattle.desk.specs.Acts.{act}
use Rattle.score.specs.Steps.{step_whole, step_of}
use Rattle.desk.proofs.Codes.{Answered, answered}

low : (a : Answer) → Answered a → (said a).code ≤ 24
low (Done k) h = omega arith
low (Value s v) h = omega arith
low (Wait s) h = omega arith
low (Yes k) h = omega arith
low (No r) h = omega arith
low (Committed k) h = omega arith
low Aborted h = omega arith
low Cut h = omega arith
low (Refused c) h = h.1

pub code_low : (s : State) (x : Step) → (said (step_of s x).answer).code ≤ 24
unfolding step_of step_whole
code_low s x = go (whole s)
  where
    go : (w : Bool) → (said (cond w (step_whole s x) (record { answer = Refused (code NotWhole); state = s })).answer).code ≤ 24
    go true = low (act (desk_of s x) x).answer (answered (desk_of s x) x)
    go false = omega arith
