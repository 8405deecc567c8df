-- `cilumbara::gather` meets its contract. The loop's invariant: the steps passed stand in the table's first places.
-- Assumes nothing.
use mathlib.Core.Path.{◌≡◌}
use lib.ListN.{take}
use Rattle.listing.specs.Going.{steps_to}
use Rattle.cilumbara.proofs.gather.Given as goal

abbrev pub invariant-loop-i : goal.invariant-loop-i
invariant-loop-i l = take l.i l.steps ≡ steps_to l.part l.i
