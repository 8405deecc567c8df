-- What a loop over the numbers below k comes to.
-- Assumes nothing.
use Rattle.std.specs.Prelude.{ℕ, zero, suc, max, Bool, true, false, cond, ◌&&◌, ◌||◌, List, ltb, Option, None, Some}
use Rattle.tables.specs.Table.{at, put}

-- does the test p pass at some number below k
unfoldable pub any : ℕ → (ℕ → Bool) → Bool
any zero p = false
any (suc k) p = any k p || p k

-- does the test p pass at every number below k
unfoldable pub every : ℕ → (ℕ → Bool) → Bool
every zero p = true
every (suc k) p = every k p && p k

-- x after the turns f 0, f 1, .., up to that of the number before k
unfoldable pub turns : {A : Type 0} → ℕ → (ℕ → A → A) → A → A
turns zero f x = x
turns (suc k) f x = f k (turns k f x)

-- the largest of f 0, f 1, ..; 0 where there is none
unfoldable pub largest : ℕ → (ℕ → ℕ) → ℕ
largest k f = turns k (λ i m. max m (f i)) 0

-- the last number below k that passes p
unfoldable pub last_at : ℕ → (ℕ → Bool) → Option ℕ
last_at k p = turns k (λ i found. cond (p i) (Some i) found) None

-- of i and what was found before it, the one at which f is less; what was found before where f is the same
unfoldable pub lesser : (ℕ → ℕ) → ℕ → Option ℕ → Option ℕ
lesser f i None = Some i
lesser f i (Some j) = cond (ltb (f i) (f j)) (Some i) (Some j)

-- the number below k that passes p at which f is least, the first of such
unfoldable pub least_at : ℕ → (ℕ → Bool) → (ℕ → ℕ) → Option ℕ
least_at k p f = turns k (λ i found. cond (p i) (lesser f i found) found) None

-- the table l changed by place: for each i below k, what stands at place i is made anew from i and itself
unfoldable pub each : {A : Type 0} → A → ℕ → (ℕ → ℕ) → (ℕ → A → A) → List A → List A
each d k place f l = turns k (λ i t. put t (place i) (f i (at t (place i) d))) l
