-- The proposal rule, once for every node number: what is proposed is what the paper says, and nothing else is.
-- Assumes nothing.
use mathlib.Core.Path.{◌≡◌, refl, ap}
use Prim.Native.Nat.{ℕ, ◌+◌, ◌*◌, ◌/◌, ◌%◌, ◌≤◌, ◌<◌}
use native.Mathlib.Omega.{arith}
use lib.Dec.{ltb, leb}
use borrow.Author.Tests.{ltb-true, ltb-false, leb-true, leb-false}
use Rattle.std.specs.Prelude.{Option, None, Some}
use Rattle.tables.proofs.Choice.{by_test}
use Rattle.number.specs.Proposal.{top, up_to_top, next, proposal, IsProposal, number, nothing}

-- the number that `next` gives, before the limit is looked at
record Next (n c k : ℕ) : Type 0 where
  above : c < k
  own : k % 8 ≡ n
  least : (j : ℕ) → c < j → j % 8 ≡ n → k ≤ j

next_is : (n c : ℕ) → n < 8 → Next n c (next n c)
unfolding next
next_is n c h = by_test (ltb c (c / 8 * 8 + n)) (λ e. rw (e, next) (omega (arith, ltb-true))) (λ e. rw (e, next) (omega (arith, ltb-false)))

-- at most the largest number
limited : (n c k : ℕ) → Next n c k → IsProposal n c (up_to_top k)
unfolding up_to_top
limited n c k x =
    by_test (leb k top) (λ e. rw e (number x.above x.own (leb-true _ _ e) x.least))
    (λ e. rw e (nothing (λ j a o l. omega (arith, leb-false, x.least j a o))))

pub proposal_is : (n c : ℕ) → IsProposal n c (proposal n c)
unfolding proposal
proposal_is n c =
    by_test (ltb n 8) (λ e. rw e (limited n c (next n c) (next_is n c (ltb-true _ _ e)))) (λ e. rw e (nothing (λ j a o l. omega (arith, ltb-false))))

-- whatever follows the paper's words is what `proposal` gives
pub proposal_only : (n c : ℕ) (r : Option ℕ) → IsProposal n c r → r ≡ proposal n c
proposal_only n c r p = go r (proposal n c) p (proposal_is n c)
  where
    go : (r s : Option ℕ) → IsProposal n c r → IsProposal n c s → r ≡ s
    go None None (nothing f) (nothing g) = refl
    go None (Some k) (nothing f) (number a o l m) = absurd (f k a o l)
    go (Some k) None (number a o l m) (nothing g) = absurd (g k a o l)
    go (Some k) (Some j) (number a o l m) (number a' o' l' m') = ap Some (omega (arith, m j a' o', m' k a o))
