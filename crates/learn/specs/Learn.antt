-- Rule D: learn.
-- Assumes nothing.
use Rattle.std.specs.Prelude.{Bool, cond, ◌&&◌, ◌||◌, List, [], ◌∷◌, ℕ, leb}
use Rattle.counters.specs.Counters.{counted_to}
use Rattle.counters.specs.declared.Counters.{Counters}
use Rattle.group.specs.declared.Refusal.{Refusal}
use Rattle.group.specs.declared.Refusal.TheVariants.{WrongStage}
use Rattle.group.specs.declared.Slot.{Slot}
use Rattle.group.specs.State.{sent, voted_yes, to_apply, finished, tag_at, entered, committed, aborted, final_of, in_stage}
use Rattle.group.specs.declared.Turn.{Turn}
use Rattle.group.specs.declared.Answer.TheVariants.{Done}
use Rattle.group.specs.Answer.{turn}

-- ---- rule D, learn: transaction t at node n, whose counters these are

-- decided after voting, with n involved and not yet learned
unfoldable pub learn_tests : Slot → List ℕ → ℕ → ℕ → List (Bool × Refusal)
learn_tests slot flight t n =
    (in_stage slot committed || in_stage slot aborted, WrongStage) ∷ (leb sent (tag_at flight t n) && leb (tag_at flight t n) voted_yes, WrongStage) ∷ []

-- committed: the counter rises to the final number; aborted: nothing rises
unfoldable pub learn_turn : Slot → Counters → Turn
learn_turn slot c =
    cond (in_stage slot committed) (turn (Done (final_of slot.stage)) slot (counted_to c (final_of slot.stage))) (turn (Done 0) slot c)

-- committed: the entry takes the final number; aborted: it is dropped, and a prepare that never arrived is void
unfoldable pub learn_flight : Slot → List ℕ → ℕ → ℕ → List ℕ
learn_flight slot flight t n =
    cond (in_stage slot committed) (entered flight t n to_apply (final_of slot.stage)) (entered flight t n finished 0)
