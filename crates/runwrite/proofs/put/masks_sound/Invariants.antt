-- `runwrite::put::masks_sound` meets its contract. The loop's invariant: every mask passed is sound.
-- Assumes nothing.
use mathlib.Core.Path.{◌≡◌}
use mathlib.Core.Bool.{true}
use Rattle.tables.specs.Table.{at}
use Rattle.tables.specs.Loop.{every}
use Rattle.runfile.specs.File.{mask_sound}
use Rattle.runwrite.proofs.put.masks_sound.Given as goal

abbrev pub invariant-loop-i : goal.invariant-loop-i
invariant-loop-i l = every l.i (λ j. mask_sound l.nodes (at l.masks j 0)) ≡ true
