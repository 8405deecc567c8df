-- Step 3, ask: transaction t asks node n for cell c.
-- Assumes nothing.
use Rattle.std.specs.Prelude.{Bool, true, false, cond, not, ◌&&◌, ◌||◌, List, [], ◌∷◌, ℕ, ◌-◌, eqb, Option, None, Some}
use Rattle.counters.specs.declared.Counters.{Counters}
use Rattle.group.specs.declared.Ask.{Ask}
use Rattle.group.specs.declared.Slot.{Slot}
use Rattle.group.specs.declared.Refusal.{Refusal}
use Rattle.group.specs.declared.Refusal.TheVariants.{WrongStage, NotAskable}
use Rattle.group.specs.declared.Stage.TheVariants.{Asking}
use Rattle.group.specs.State.{holds, noted, has, opened, in_stage, at_stage}
use Rattle.group.specs.declared.Turn.{Turn}
use Rattle.group.specs.declared.Answer.TheVariants.{Done, Value}
use Rattle.group.specs.Answer.{turn}

-- an own write is handed at once; else n holds the cell, and is the origin if that holds it
unfoldable pub ask_tests : Slot → List ℕ → List ℕ → ℕ → ℕ → ℕ → List (Bool × Refusal)
ask_tests slot masks writes t n c =
    (in_stage slot opened, WrongStage)
    ∷ (has writes t c || (holds masks n c && (not (holds masks slot.origin c) || eqb n slot.origin)), NotAskable)
    ∷ []

-- an ask carries the snapshot or, before the first one is fixed, the origin's commit number
abbrev pub ask_for : Option ℕ → ℕ → ℕ → ℕ → Ask
ask_for None commit n c = record { node = n; cell = c; carried = commit; exact = false }
ask_for (Some s) commit n c = record { node = n; cell = c; carried = s; exact = true }

-- the counters are the origin's
unfoldable pub ask_turn : Slot → Counters → List ℕ → ℕ → ℕ → ℕ → Turn
ask_turn slot origin writes t n c =
    cond (has writes t c) (turn (Value 0 (noted writes t c - 1)) slot origin)
    (turn (Done 0) (at_stage slot (Asking (ask_for slot.snapshot origin.commit n c))) origin)
