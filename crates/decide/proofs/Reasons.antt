-- Why a decision is what it is.
-- Assumes nothing.
use mathlib.Core.Path.{◌≡◌}
use mathlib.Core.List.{List}
use Prim.Native.Nat.{ℕ, ◌≤◌, ◌<◌}
use borrow.Author.Tests.{eq-eqb}
use Rattle.tables.proofs.Loop.{largest_at}
use Rattle.group.specs.State.{voted_yes, tag_at, number_at}
use Rattle.decide.specs.Decide.{proposed, final}

-- The final number is no less than any proposal.
pub final_most : (nodes : ℕ) (flight : List ℕ) (t n : ℕ) → n < nodes → tag_at flight t n ≡ voted_yes → number_at flight t n ≤ final nodes flight t
unfolding final
final_most nodes flight t n hn e = let l = largest_at (proposed flight t) nodes n hn in rw (eq-eqb _ _ e) at l
