-- `runfile::open` meets its contract: each way out is a law, from how the sections before it were read.
-- Assumes nothing.
use native.Mathlib.Omega.{arith}
use Rattle.runfile.proofs.Opening.{opened_faulty, open_steps, open_sound}
use Rattle.runfile.proofs.open.Goals as goal

pub returns-in_err-head : goal.returns-in_err-head
returns-in_err-head c = grind (arith, opened_faulty)

pub returns-in_err-check_steps : goal.returns-in_err-check_steps
returns-in_err-check_steps c =
    grind (arith, opened_faulty, open_steps _ _ c.in_ok-head.ensures.read _ _ _ c.steps_start.ensures c.from-count.ensures c.tail-part.ensures.bytes)

pub returns : goal.returns
returns c =
    open_sound _ _ c.in_ok-head.ensures.read _ _ _ c.steps_start.ensures c.from-count.ensures c.tail-part.ensures.bytes
    c.in_ok-check_steps.ensures c.in_ok-head.ensures.padded (omega arith)
