-- The step.
-- Assumes nothing.
use Rattle.std.specs.Prelude.{cond}
use Rattle.kinds.specs.declared.Step.{Step}
use Rattle.group.specs.declared.Refusal.TheVariants.{NotWhole}
use Rattle.group.specs.declared.Answer.{Answer}
use Rattle.group.specs.declared.Answer.TheVariants.{Refused}
use Rattle.group.specs.State.{State}
use Rattle.group.specs.Answer.{code}
use Rattle.whole.specs.Whole.{whole}
use Rattle.desk.specs.Acts.{act}
use Rattle.score.specs.Place.{desk_of, put_back}

pub record Stepped : Type 0 where
  pub answer : Answer
  pub state : State

-- the step of a state that is known to be whole
unfoldable pub step_whole : State → Step → Stepped
step_whole s x = let o = act (desk_of s x) x in record { answer = o.answer; state = put_back s x o.desk }

-- the step of any state
unfoldable pub step_of : State → Step → Stepped
step_of s x = cond (whole s) (step_whole s x) (record { answer = Refused (code NotWhole); state = s })
