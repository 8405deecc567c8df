-- Laws of the vote: the first test that fails gives the reason of a no, and where none fails a proposal is looked for.
-- Assumes nothing.
use mathlib.Core.Path.{◌≡◌, refl}
use mathlib.Core.Bool.{true, false, cond}
use mathlib.Core.List.{List}
use Prim.Native.Nat.{ℕ}
use Rattle.std.specs.Prelude.{Option, None, Some, Err}
use Rattle.tables.specs.Tests.{refusal}
use Rattle.number.specs.Proposal.{proposal}
use Rattle.counters.specs.declared.Counters.{Counters}
use Rattle.chain.specs.declared.Chains.{Chains}
use Rattle.group.specs.State.{snapshot_of}
use Rattle.group.specs.declared.Slot.{Slot}
use Rattle.vote.specs.declared.Reason.TheVariants.{Conflict, Outdated, Full, NoNumber}
use Rattle.vote.specs.Vote.{conflict, outdated, full, exists, reason, vote_for, vote}

-- the last test, and the proposal that it looked for
last_test : (p : Option ℕ) → vote_for None p ≡ vote_for (cond (exists p) None (Some NoNumber)) p
last_test None = refl
last_test (Some k) = refl

module _ (slot : Slot) (c : Counters) (cells : ℕ) (masks flight : List ℕ) (chains : Chains) (writes reads : List ℕ) (t n : ℕ) where
  pub no_1 : conflict cells masks flight writes reads t n ≡ true → Err Conflict ≡ vote slot c cells masks flight chains writes reads t n
  unfolding vote reason refusal
  no_1 e = rw e

  pub no_2 :
      conflict cells masks flight writes reads t n ≡ false
      → outdated cells masks chains reads t n (snapshot_of slot.snapshot) ≡ true
      → Err Outdated ≡ vote slot c cells masks flight chains writes reads t n
  unfolding vote reason refusal
  no_2 e f = rw (e, f)

  pub no_3 :
      conflict cells masks flight writes reads t n ≡ false
      → outdated cells masks chains reads t n (snapshot_of slot.snapshot) ≡ false
      → full cells masks chains writes t n ≡ true
      → Err Full ≡ vote slot c cells masks flight chains writes reads t n
  unfolding vote reason refusal
  no_3 e f g = rw (e, f, g)

  pub by_proposal :
      conflict cells masks flight writes reads t n ≡ false
      → outdated cells masks chains reads t n (snapshot_of slot.snapshot) ≡ false
      → full cells masks chains writes t n ≡ false
      → vote_for None (proposal n c.counter) ≡ vote slot c cells masks flight chains writes reads t n
  unfolding vote reason refusal
  by_proposal e f g = rw (e, f, g) (last_test (proposal n c.counter))
