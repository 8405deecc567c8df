-- Rule C's proposal: the least number above the counter that leaves the node's own number when divided by 8, at most 4,294,967,295.
-- Assumes nothing.
use Rattle.std.specs.Prelude.{ℕ, ◌+◌, ◌*◌, ◌/◌, ◌%◌, ◌≤◌, ◌<◌, ◌≡◌, cond, ltb, leb, Option, None, Some}

-- the largest number that there is
abbrev pub top : ℕ
top = 4294967295

-- k, unless it is above the largest number
unfoldable pub up_to_top : ℕ → Option ℕ
up_to_top k = cond (leb k top) (Some k) None

-- the least number above c that leaves n when divided by 8, where n is below 8
unfoldable pub next : ℕ → ℕ → ℕ
next n c = cond (ltb c (c / 8 * 8 + n)) (c / 8 * 8 + n) (c / 8 * 8 + n + 8)

-- what node n proposes above the counter c; a number of 8 and above is no node's
unfoldable pub proposal : ℕ → ℕ → Option ℕ
proposal n c = cond (ltb n 8) (up_to_top (next n c)) None

-- the rule in the paper's words, for every n: the number above c that leaves n when divided by 8, is at most the largest number there is and
-- is the least of those; none exactly where there is no such number
pub data IsProposal (n c : ℕ) : Option ℕ → Type 0 where
  number : {k : ℕ} → c < k → k % 8 ≡ n → k ≤ top → ((j : ℕ) → c < j → j % 8 ≡ n → k ≤ j) → IsProposal n c (Some k)
  nothing : ((k : ℕ) → c < k → k % 8 ≡ n → k ≤ top → ⊥) → IsProposal n c None
