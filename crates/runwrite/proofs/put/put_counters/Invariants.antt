-- `runwrite::put::put_counters` meets its contract. The loop's invariant: the counters passed are stored.
-- Assumes nothing.
use Rattle.tables.specs.Table.{at}
use Rattle.runfile.proofs.FileItems.{counter_item}
use Rattle.runwrite.proofs.Writing.{Put}
use Rattle.runwrite.proofs.put.put_counters.Given as goal

abbrev pub invariant-loop-i : goal.invariant-loop-i
invariant-loop-i l = Put counter_item l.initial.out 1 (λ j. at l.counters j 0) l.i l.out
