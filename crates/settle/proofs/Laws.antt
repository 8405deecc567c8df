-- Laws of settling: what the search of rule E finds, what each cell makes of the chains, and what an apply and an advance come to.
-- Assumes nothing.
use mathlib.Core.Path.{◌≡◌, refl, ap, ◌∙◌}
use mathlib.Core.Bool.{Bool, true, false, cond, ◌&&◌}
use mathlib.Core.List.{List}
use Rattle.std.specs.Prelude.{Option, Some, Ok, Err}
use Prim.Native.Nat.{ℕ, ◌+◌, ◌-◌, ◌≤◌, ◌<◌}
use lib.Dec.{eqb}
use borrow.Author.Tests.{lt-ltb, eq-eqb}
use Rattle.tables.specs.Loop.{any, least_at}
use Rattle.tables.specs.Tests.{refusal}
use Rattle.tables.proofs.Loop.{at_end, turns_next}
use Rattle.tables.proofs.Tests.{accepted}
use Rattle.counters.specs.Counters.{committed_at}
use Rattle.counters.specs.declared.Counters.{Counters}
use Rattle.chain.specs.Chain.{added}
use Rattle.chain.specs.declared.Chains.{Chains}
use Rattle.group.specs.declared.Answer.TheVariants.{Done}
use Rattle.group.specs.declared.Refusal.TheVariants.{Unsettled}
use Rattle.group.specs.declared.Slot.{Slot}
use Rattle.group.specs.State.{holds, to_apply, finished, tag_at, number_at, entered, unfinished, noted, has}
use Rattle.group.specs.Answer.{turn, stepped, changed}
use Rattle.settle.proofs.Lowest.{lowest_below}
use Rattle.settle.specs.Settle.{least, stored, applied, apply_tests, apply_turn, apply_flight, apply_chains, advance_tests, advance_turn}

-- ---- rule E: the search

module _ (flight : List ℕ) (n : ℕ) where
  -- the least of the first k entries
  abbrev pub least_to : ℕ → Option ℕ
  least_to k = least_at k (λ t. unfinished flight t n) (λ t. number_at flight t n)

  -- what was found among the entries up to the last is the entry meant, and its number the one applied
  pub least_end : (t : ℕ) (r : Option ℕ) → t ≤ 32 → 32 ≤ t → r ≡ least_to t → (r ≡ least flight n) × (applied flight n r ≡ applied flight n (least flight n))
  unfolding least
  least_end t r h l e = let q = at_end (λ j. least_to j) t 32 h l e in (q, ap (λ (o : Option ℕ). applied flight n o) q)

  -- the entry found has a place in the table
  pub least_below : (t : ℕ) → least flight n ≡ Some t → t < 32
  unfolding least
  least_below t e = lowest_below 32 _ _ t e

-- ---- rule E: the versions

-- what one cell makes of the chains
abbrev pub Celled : List ℕ → List ℕ → ℕ → ℕ → ℕ → ℕ → Chains → Chains → Type 0
Celled masks writes t n k c old new = new ≡ cond (holds masks n c && has writes t c) (added old c n k (noted writes t c - 1)) old

-- from the chains after the first c cells to those after the next
pub stored_turn :
    (masks : List ℕ) (h : Chains) (writes : List ℕ) (t n k c : ℕ) (old new : Chains)
    → old ≡ stored c masks h writes t n k → Celled masks writes t n k c old new → new ≡ stored (c + 1) masks h writes t n k
unfolding stored
stored_turn masks h writes t n k c old new e q = q ∙ rw (e, turns_next)

-- ---- rule E

-- The least of the unfinished entries, if it is learned, is applied: its number is answered and committed to, its versions are stored, and
-- the entry goes.
pub apply_whole :
    (slot : Slot) (c : Counters) (cells : ℕ) (masks flight : List ℕ) (h : Chains) (writes : List ℕ) (n t : ℕ)
    → least flight n ≡ Some t → tag_at flight t n ≡ to_apply
    → let k = number_at flight t n in
    (stepped (refusal (apply_tests flight n)) false slot c 0 (apply_turn slot c flight n) ≡ Ok (turn (Done k) slot (committed_at c k)))
    × (changed (refusal (apply_tests flight n)) false flight (apply_flight flight n (least flight n)) ≡ entered flight t n finished 0)
    × (changed (refusal (apply_tests flight n)) false h (apply_chains cells masks flight h writes n (least flight n)) ≡ stored cells masks h writes t n k)
apply_whole slot c cells masks flight h writes n t e q =
    let b : eqb (tag_at flight t n) to_apply ≡ true = eq-eqb _ _ q in
    rw (accepted (apply_tests flight n) (rw (e, b), tt), e) (refl, refl, refl)

-- ---- step 12

module _ (slot : Slot) (c : Counters) (flight : List ℕ) (n : ℕ) where
  -- no advance while an entry is unfinished
  pub advance_busy :
      (cut : Bool) → any 32 (λ t. unfinished flight t n) ≡ true
      → stepped (refusal (advance_tests c flight n)) cut slot c 0 (advance_turn slot c) ≡ Err Unsettled
  unfolding advance_tests refusal
  advance_busy cut e = rw e

  -- else the commit number becomes the seen one, and nothing else moves
  pub advance_whole :
      any 32 (λ t. unfinished flight t n) ≡ false → c.commit < c.seen
      → stepped (refusal (advance_tests c flight n)) false slot c 0 (advance_turn slot c) ≡ Ok (turn (Done 0) slot (committed_at c c.seen))
  unfolding advance_tests refusal
  advance_whole e l = rw (e, lt-ltb _ _ l)
