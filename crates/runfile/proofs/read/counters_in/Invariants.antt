-- `runfile::read::counters_in` meets its contract. The loop's invariant: the counters passed stand in the table, with zeros past them.
-- Assumes nothing.
use Rattle.runfile.proofs.Sections.{CountersSo}
use Rattle.runfile.proofs.read.counters_in.Given as goal

abbrev pub invariant-loop-i : goal.invariant-loop-i
invariant-loop-i l = CountersSo l.file l.n l.i l.counters
