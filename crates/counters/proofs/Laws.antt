-- Laws of the definitions in `specs/`. Assumes nothing.
use mathlib.Core.Path.{◌≡◌}
use Prim.Native.Nat.{ℕ}
use native.Mathlib.Nat.{max-zero}
use Rattle.counters.specs.Counters.{raised_to, counted_to}
use Rattle.counters.specs.declared.Counters.{Counters}

-- a seen number that is raised to 0 at least stays
pub raised_counted : (c : Counters) (k : ℕ) → raised_to c k 0 ≡ counted_to c k
raised_counted c k = simp max-zero

-- a counter that is raised to 0 at least stays
pub counted_zero : (c : Counters) → counted_to c 0 ≡ c
counted_zero c = simp max-zero
