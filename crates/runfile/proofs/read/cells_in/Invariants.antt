-- `runfile::read::cells_in` meets its contract. The loop's invariant: the cells passed stand in the two tables, with zeros past them.
-- Assumes nothing.
use Rattle.runfile.proofs.Sections.{CellsSo}
use Rattle.runfile.proofs.read.cells_in.Given as goal

abbrev pub invariant-loop-i : goal.invariant-loop-i
invariant-loop-i l = CellsSo l.file l.start l.nodes l.n l.i l.masks l.values
