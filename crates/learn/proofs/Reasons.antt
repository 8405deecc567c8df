-- Why rule D is as it is: what every learn leaves behind, said of its outcome and of the tables, and not of how the rule is written.
-- Assumes nothing.
use mathlib.Core.Path.{◌≡◌}
use mathlib.Core.Bool.{true, false}
use mathlib.Core.List.{List}
use Prim.Native.Nat.{ℕ, ◌≤◌, ◌<◌}
use native.Mathlib.Omega.{arith}
use lib.ListN.{length}
use Rattle.tables.specs.Pair.{pair}
use Rattle.tables.proofs.Choice.{by_test}
use Rattle.counters.specs.declared.Counters.{Counters}
use Rattle.group.specs.declared.Slot.{Slot}
use Rattle.group.specs.State.{unfinished, committed, final_of, in_stage}
use Rattle.group.specs.Answer.{said}
use Rattle.group.proofs.Entries.{dropped}
use Rattle.learn.specs.Learn.{learn_turn, learn_flight}

-- The counter is saved before a decision is entered: it is at least the final number that the learn answers.
pub learn_saves : (slot : Slot) (c : Counters) → (said (learn_turn slot c).answer).number ≤ (learn_turn slot c).counters.counter
unfolding learn_turn
learn_saves slot c = by_test (in_stage slot committed) (λ e. rw (e, learn_turn) (omega arith)) (λ e. rw (e, learn_turn) (omega arith))

-- and where the transaction is committed, that is its final number
pub learn_answers : (slot : Slot) (c : Counters) → in_stage slot committed ≡ true → (said (learn_turn slot c).answer).number ≡ final_of slot.stage
unfolding learn_turn
learn_answers slot c e = rw (e, learn_turn)

-- An abort's locks go: whatever the entry was, it is unfinished no more.
pub abort_unlocks : (slot : Slot) (flight : List ℕ) (t n : ℕ) → pair 8 t n < length flight → in_stage slot committed ≡ false → unfinished (learn_flight slot flight t n) t n ≡ false
unfolding learn_flight
abort_unlocks slot flight t n l e = rw (e, learn_flight) (dropped flight t n l)
