-- `runwrite::put::put_cells` meets its contract. The loop's invariant: the cells passed are stored.
-- Assumes nothing.
use Rattle.runfile.specs.Head.{cell_in}
use Rattle.runfile.proofs.FileItems.{cell_item}
use Rattle.runwrite.proofs.Writing.{Put}
use Rattle.runwrite.proofs.put.put_cells.Given as goal

abbrev pub invariant-loop-i : goal.invariant-loop-i
invariant-loop-i l = Put (cell_item 0) l.initial.out l.start (cell_in l.masks l.values) l.i l.out
