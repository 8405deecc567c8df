-- What becomes of the counters of one node: by the rules, and in a fresh group.
-- Assumes nothing.
use Rattle.std.specs.Prelude.{ℕ, max}
use Rattle.counters.specs.declared.Counters.{Counters}

-- fresh: the counter is m, and nothing is committed and nothing seen
abbrev pub zeroed : ℕ → Counters
zeroed m = record { counter = m; commit = 0; seen = 0 }

-- the counter rises to m at least, and the seen number to s at least
abbrev pub raised_to : Counters → ℕ → ℕ → Counters
raised_to c m s = record { counter = max c.counter m; commit = c.commit; seen = max c.seen s }

-- rules A and B: counter and seen number rise to s at least
abbrev pub risen_to : Counters → ℕ → Counters
risen_to c s = raised_to c s s

-- rules C and D, and every cut step: the counter alone rises, to k at least
abbrev pub counted_to : Counters → ℕ → Counters
counted_to c k = record { counter = max c.counter k; commit = c.commit; seen = c.seen }

-- rule E and step 12: the commit number becomes k
abbrev pub committed_at : Counters → ℕ → Counters
committed_at c k = record { counter = c.counter; commit = k; seen = c.seen }
