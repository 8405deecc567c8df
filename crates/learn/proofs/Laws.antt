-- Laws of learning: what a learn that is not refused comes to, for each end that a transaction has.
-- Assumes nothing.
use mathlib.Core.Path.{◌≡◌, refl}
use mathlib.Core.Bool.{true, false}
use mathlib.Core.List.{List}
use Prim.Native.Nat.{ℕ}
use Rattle.std.specs.Prelude.{Ok}
use Rattle.tables.specs.Tests.{refusal}
use Rattle.tables.proofs.Tests.{Passed, accepted}
use Rattle.counters.specs.Counters.{counted_to}
use Rattle.counters.specs.declared.Counters.{Counters}
use Rattle.group.specs.declared.Answer.TheVariants.{Done}
use Rattle.group.specs.declared.Slot.{Slot}
use Rattle.group.specs.State.{to_apply, finished, committed, entered, final_of, in_stage}
use Rattle.group.specs.Answer.{turn, stepped, changed}
use Rattle.learn.specs.Learn.{learn_tests, learn_turn, learn_flight}

module _ (slot : Slot) (c : Counters) (flight : List ℕ) (t n : ℕ) (p : Passed (learn_tests slot flight t n)) where
  -- Committed: the final number is answered and saved, and the entry takes it in the place of its own proposal.
  pub learn_committed :
      let k = final_of slot.stage in
      in_stage slot committed ≡ true
      → (stepped (refusal (learn_tests slot flight t n)) false slot c k (learn_turn slot c) ≡ Ok (turn (Done k) slot (counted_to c k)))
      × (changed (refusal (learn_tests slot flight t n)) false flight (learn_flight slot flight t n) ≡ entered flight t n to_apply k)
  unfolding learn_turn learn_flight
  learn_committed e = rw (accepted (learn_tests slot flight t n) p, e) (refl, refl)

  -- Aborted: nothing rises, and the entry is dropped.
  pub learn_aborted :
      in_stage slot committed ≡ false
      → (stepped (refusal (learn_tests slot flight t n)) false slot c (final_of slot.stage) (learn_turn slot c) ≡ Ok (turn (Done 0) slot c))
      × (changed (refusal (learn_tests slot flight t n)) false flight (learn_flight slot flight t n) ≡ entered flight t n finished 0)
  unfolding learn_turn learn_flight
  learn_aborted e = rw (accepted (learn_tests slot flight t n) p, e) (refl, refl)
