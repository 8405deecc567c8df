-- `runfile::read::check_steps` meets its contract. The loop's invariant: the steps passed have no fault.
-- Assumes nothing.
use Rattle.runfile.proofs.Sections.{StepsSo}
use Rattle.runfile.proofs.read.check_steps.Given as goal

abbrev pub invariant-loop-i : goal.invariant-loop-i
invariant-loop-i l = StepsSo l.part l.n l.i
