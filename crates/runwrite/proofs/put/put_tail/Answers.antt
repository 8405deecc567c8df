-- `runwrite::put::put_tail` meets its contract: the count, and the steps past it.
-- Assumes nothing.
use native.Mathlib.Omega.{arith}
use Rattle.runwrite.proofs.Writing.{tail_stored}
use Rattle.runwrite.proofs.put.put_tail.Goals as goal

pub returns : goal.returns
returns c = tail_stored _ _ _ _ _ _ (omega (arith, c.requires)) c.store.ensures.1 c.put_steps.ensures
