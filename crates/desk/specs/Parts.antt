-- What the contracts of the step's parts cite.
-- Assumes nothing.
use Rattle.std.specs.Prelude.{[], ℕ, Option, None, Some, Result, Ok, Err}
use Rattle.tables.specs.Tests.{refusal}
use Rattle.kinds.specs.declared.Step.{Step}
use Rattle.kinds.specs.declared.Kind.{Kind}
use Rattle.group.specs.declared.Refusal.{Refusal}
use Rattle.group.specs.declared.Group.{Group}
use Rattle.group.specs.declared.Tables.{Tables}
use Rattle.group.specs.declared.Turn.{Turn}
use Rattle.desk.specs.Desk.{Outcome, desk_on}
use Rattle.desk.specs.Acts.{field_tests}

-- the first of refusals 16 to 18 that is due
unfoldable pub field_refusal : ℕ → ℕ → Step → Option Refusal
field_refusal nodes cells x = refusal (field_tests nodes cells x [])

-- the kind of a step, where nothing is due
abbrev pub unless : Option Refusal → Kind → Result Kind Refusal
unless None k = Ok k
unless (Some why) k = Err why

-- what a turn and the tables after it come to
abbrev pub outcome : Turn → Group → Tables → Outcome
outcome r g t = record { answer = r.answer; desk = desk_on g t r.slot r.counters }
