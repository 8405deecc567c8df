-- A law of write: which of its two refusals comes first.
-- Assumes nothing.
use mathlib.Core.Path.{◌≡◌, refl}
use mathlib.Core.Bool.{Bool, false}
use Rattle.std.specs.Prelude.{Err}
use Rattle.tables.specs.Tests.{refusal}
use Rattle.counters.specs.declared.Counters.{Counters}
use Rattle.group.specs.declared.Refusal.TheVariants.{WrongStage}
use Rattle.group.specs.declared.Slot.{Slot}
use Rattle.group.specs.declared.Tables.{Tables}
use Rattle.group.specs.State.{opened, in_stage}
use Rattle.group.specs.Answer.{stepped, changed}
use Rattle.life.specs.Life.{write_tests, write_turn}

-- A transaction that is not open is refused a write for its stage, whether it may write or not, and no table changes.
pub write_not_open :
    (cut : Bool) (slot : Slot) (c : Counters) (tables after : Tables) → in_stage slot opened ≡ false
    → (stepped (refusal (write_tests slot)) cut slot c 0 (write_turn slot c) ≡ Err WrongStage)
    × (changed (refusal (write_tests slot)) cut tables after ≡ tables)
unfolding write_tests refusal
write_not_open cut slot c tables after e = rw e (refl, refl)
