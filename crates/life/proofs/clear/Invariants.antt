-- `life::clear` meets its contract. The loop's invariant: the cells passed are cleared.
-- Assumes nothing.
use mathlib.Core.Path.{◌≡◌}
use Rattle.tables.specs.Pair.{pair}
use Rattle.tables.specs.Loop.{each}
use Rattle.life.proofs.clear.Given as goal

abbrev pub invariant-loop-cell : goal.invariant-loop-cell
invariant-loop-cell l = l.table ≡ each 0 l.cell (pair 32 l.t) (λ c e. 0) l.initial.table
