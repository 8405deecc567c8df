-- `runwrite::put::put_step` meets its contract: the two halves of the step's number are its eight bytes.
-- Assumes nothing.
use native.Mathlib.Omega.{arith}
use Rattle.runwrite.proofs.Writing.{step_stored}
use Rattle.runwrite.proofs.put.put_step.Goals as goal

pub returns : goal.returns
returns c =
    step_stored _ _ _ c.args.at _ _ _ _ c.args.x (omega arith, omega arith, omega arith, omega arith, omega arith) c.requires
    (omega arith) (omega arith) (omega arith) (omega arith) c.store.ensures.1 c.store-2.ensures.1
