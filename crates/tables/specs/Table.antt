-- A table is a list whose places count from 0.
-- Assumes nothing.
use Rattle.std.specs.Prelude.{ℕ, List, get_or, set}

-- what stands at place i of the table l; d where l has no such place
unfoldable pub at : {A : Type 0} → List A → ℕ → A → A
at l i d = get_or l i d

-- the table l with v at place i; l itself where it has no such place
unfoldable pub put : {A : Type 0} → List A → ℕ → A → List A
put l i v = set l i v
