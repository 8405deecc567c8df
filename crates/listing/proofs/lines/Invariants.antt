-- `listing::lines` meets its contract: after i steps the state is that of the run, and their lines are written or counted.
-- Assumes nothing.
use Rattle.group.specs.State.{state_of}
use Rattle.listing.proofs.Going.{Gone}
use Rattle.listing.proofs.lines.Given as goal

abbrev pub invariant-loop-i : goal.invariant-loop-i
invariant-loop-i l =
    Gone (state_of l.initial.g l.initial.tables) l.part l.count l.start l.write l.initial.out (state_of l.g l.tables) l.out l.at l.i
