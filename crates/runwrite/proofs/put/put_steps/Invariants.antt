-- `runwrite::put::put_steps` meets its contract. The loop's invariant: the steps passed are stored.
-- Assumes nothing.
use Rattle.tables.specs.Table.{at}
use Rattle.runfile.proofs.FileItems.{step_item}
use Rattle.runwrite.proofs.Judging.{no_step}
use Rattle.runwrite.proofs.Writing.{Put}
use Rattle.runwrite.proofs.put.put_steps.Given as goal

abbrev pub invariant-loop-i : goal.invariant-loop-i
invariant-loop-i l = Put step_item l.initial.out l.start (λ j. at l.steps j no_step) l.i l.out
