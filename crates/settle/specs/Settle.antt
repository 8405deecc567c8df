-- Settling: rule E, apply; step 12, advance.
-- Assumes nothing.
use Rattle.std.specs.Prelude.{Bool, false, cond, not, ◌&&◌, List, [], ◌∷◌, ℕ, ◌-◌, ltb, eqb, Option, None, Some}
use Rattle.tables.specs.Loop.{any, turns, least_at}
use Rattle.counters.specs.Counters.{committed_at}
use Rattle.chain.specs.Chain.{added}
use Rattle.chain.specs.declared.Chains.{Chains}
use Rattle.counters.specs.declared.Counters.{Counters}
use Rattle.group.specs.declared.Slot.{Slot}
use Rattle.group.specs.State.{holds, to_apply, finished, tag_at, number_at, entered, unfinished, noted, has}
use Rattle.group.specs.declared.Turn.{Turn}
use Rattle.group.specs.declared.Refusal.{Refusal}
use Rattle.group.specs.declared.Refusal.TheVariants.{Unsettled}
use Rattle.group.specs.declared.Answer.TheVariants.{Done}
use Rattle.group.specs.Answer.{turn}

-- ---- rule E, apply: at node n, whose counters these are

-- the transaction of the unfinished entry with the least number
unfoldable pub least : List ℕ → ℕ → Option ℕ
least flight n = least_at 32 (λ t. unfinished flight t n) (λ t. number_at flight t n)

-- its decision is learned
abbrev pub is_learned : List ℕ → ℕ → Option ℕ → Bool
is_learned flight n None = false
is_learned flight n (Some t) = eqb (tag_at flight t n) to_apply

abbrev pub apply_tests : List ℕ → ℕ → List (Bool × Refusal)
apply_tests flight n = (is_learned flight n (least flight n), Unsettled) ∷ []

-- a version with the number k for each cell that t wrote and n holds
unfoldable pub stored : ℕ → List ℕ → Chains → List ℕ → ℕ → ℕ → ℕ → Chains
stored cells masks chains writes t n k =
    turns cells (λ c h. cond (holds masks n c && has writes t c) (added h c n k (noted writes t c - 1)) h) chains

abbrev pub applied : List ℕ → ℕ → Option ℕ → ℕ
applied flight n None = 0
applied flight n (Some t) = number_at flight t n

-- the commit number becomes that number
abbrev pub apply_turn : Slot → Counters → List ℕ → ℕ → Turn
apply_turn slot c flight n =
    turn (Done (applied flight n (least flight n))) slot (committed_at c (applied flight n (least flight n)))

abbrev pub apply_chains : ℕ → List ℕ → List ℕ → Chains → List ℕ → ℕ → Option ℕ → Chains
apply_chains cells masks flight chains writes n None = chains
apply_chains cells masks flight chains writes n (Some t) = stored cells masks chains writes t n (number_at flight t n)

-- the entry goes
abbrev pub apply_flight : List ℕ → ℕ → Option ℕ → List ℕ
apply_flight flight n None = flight
apply_flight flight n (Some t) = entered flight t n finished 0

-- ---- step 12, advance: at node n, whose counters these are

-- nothing unfinished here, and seen above commit
unfoldable pub advance_tests : Counters → List ℕ → ℕ → List (Bool × Refusal)
advance_tests c flight n = (not (any 32 (λ t. unfinished flight t n)) && ltb c.commit c.seen, Unsettled) ∷ []

abbrev pub advance_turn : Slot → Counters → Turn
advance_turn slot c = turn (Done 0) slot (committed_at c c.seen)
