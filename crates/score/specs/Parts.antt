-- What the contracts of the step cite.
-- Assumes nothing.
use Rattle.group.specs.State.{state_of}
use Rattle.group.specs.declared.Answer.{Answer}
use Rattle.group.specs.declared.Group.{Group}
use Rattle.group.specs.declared.Tables.{Tables}
use Rattle.score.specs.Steps.{Stepped}

-- what an answer, and the group and the tables after it, come to
abbrev pub reached : Answer → Group → Tables → Stepped
reached a g t = record { answer = a; state = state_of g t }
