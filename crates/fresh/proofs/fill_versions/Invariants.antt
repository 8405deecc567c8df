-- `fresh::fill_versions` meets its contract. The loop's invariant: the chains passed are filled.
-- Assumes nothing.
use mathlib.Core.Path.{◌≡◌}
use Prim.Native.Nat.{◌/◌}
use lib.ListN.{replicate}
use Rattle.tables.specs.Table.{at}
use Rattle.tables.specs.Pair.{pair}
use Rattle.tables.specs.Loop.{each}
use Rattle.fresh.proofs.fill_versions.Given as goal

abbrev pub invariant-loop-i : goal.invariant-loop-i
invariant-loop-i l = l.versions ≡ each 0 l.i (λ j. pair 8 j 0) (λ j e. at l.values (j / 8) 0) (replicate 2048 0)
