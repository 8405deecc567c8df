-- What a transaction does by itself, and by no rule: step 1, begin; step 2, write; step 9, give up; step 13, abandon. None of them moves a
-- counter.
-- Assumes nothing.
use Rattle.std.specs.Prelude.{Bool, ◌&&◌, List, [], ◌∷◌, ℕ, ◌+◌, leb, eqb, None}
use Rattle.tables.specs.Table.{put}
use Rattle.tables.specs.Pair.{pair}
use Rattle.tables.specs.Loop.{each}
use Rattle.counters.specs.declared.Counters.{Counters}
use Rattle.kinds.specs.declared.Step.{Step}
use Rattle.group.specs.declared.Slot.{Slot}
use Rattle.group.specs.declared.Tables.{Tables}
use Rattle.group.specs.declared.Turn.{Turn}
use Rattle.group.specs.declared.Refusal.{Refusal}
use Rattle.group.specs.declared.Refusal.TheVariants.{WrongStage, WrongValue, ReadOnly}
use Rattle.group.specs.declared.Stage.TheVariants.{Open, Aborted}
use Rattle.group.specs.declared.Answer.TheVariants.{Done}
use Rattle.group.specs.declared.Answer.TheVariants as Answer
use Rattle.group.specs.State.{unused, opened, served, voting, stage_number, in_stage, at_stage, with_writes, with_reads}
use Rattle.group.specs.Answer.{turn}

-- ---- step 1, begin

-- the value says whether it may write
unfoldable pub begin_tests : Slot → Step → List (Bool × Refusal)
begin_tests slot x = (in_stage slot unused, WrongStage) ∷ (leb x.value 1, WrongValue) ∷ []

abbrev pub opens : Step → Slot
opens x = record { stage = Open; origin = x.node; update = eqb x.value 1; snapshot = None }

abbrev pub begin_turn : Counters → Step → Turn
begin_turn c x = turn (Done 0) (opens x) c

-- a slot that opens has neither written nor read
unfoldable pub cleared : List ℕ → ℕ → List ℕ
cleared table t = each 0 32 (pair 32 t) (λ c e. 0) table

abbrev pub begun : Tables → ℕ → Tables
begun tables t = with_reads (with_writes tables (cleared tables.writes t)) (cleared tables.reads t)

-- ---- step 2, write

unfoldable pub write_tests : Slot → List (Bool × Refusal)
write_tests slot = (in_stage slot opened, WrongStage) ∷ (slot.update, ReadOnly) ∷ []

abbrev pub write_turn : Slot → Counters → Turn
write_turn slot c = turn (Done 0) slot c

-- the last write of a cell counts
abbrev pub written : List ℕ → Step → List ℕ
written writes x = put writes (pair 32 x.slot x.cell) (x.value + 1)

-- ---- step 9, give up, and step 13, abandon

unfoldable pub give_up_tests : Slot → List (Bool × Refusal)
give_up_tests slot = (in_stage slot voting, WrongStage) ∷ []

-- open, asking or served
unfoldable pub abandon_tests : Slot → List (Bool × Refusal)
abandon_tests slot = (leb opened (stage_number slot.stage) && leb (stage_number slot.stage) served, WrongStage) ∷ []

abbrev pub end_turn : Slot → Counters → Turn
end_turn slot c = turn Answer.Aborted (at_stage slot Aborted) c
