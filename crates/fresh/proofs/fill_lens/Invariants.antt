-- `fresh::fill_lens` meets its contract. The loop's invariant: the places passed are filled.
-- Assumes nothing.
use mathlib.Core.Path.{◌≡◌}
use mathlib.Core.Bool.{cond}
use Prim.Native.Nat.{◌/◌, ◌%◌}
use Rattle.tables.specs.Loop.{each}
use Rattle.group.specs.State.{holds}
use Rattle.fresh.proofs.fill_lens.Given as goal

abbrev pub invariant-loop-i : goal.invariant-loop-i
invariant-loop-i l = l.lens ≡ each 0 l.i (λ j. j) (λ j e. cond (holds l.g.masks (j % 8) (j / 8)) 1 0) l.initial.lens
