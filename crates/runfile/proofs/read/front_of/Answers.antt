-- `runfile::read::front_of` meets its contract: each way out is a law, from how the sections before it were read.
-- Assumes nothing.
use native.Mathlib.Omega.{arith}
use Rattle.runfile.proofs.Opening.{nodes_faulty, counters_faulty, cell_count_faulty, cells_faulty, step_count_faulty, front_read}
use Rattle.runfile.proofs.read.front_of.Goals as goal

pub returns-in_err-nodes-clause-read : goal.returns-in_err-nodes-clause-read
returns-in_err-nodes-clause-read c = grind (arith, nodes_faulty)

pub returns-in_err-counters-clause-read : goal.returns-in_err-counters-clause-read
returns-in_err-counters-clause-read c = grind (arith, counters_faulty)

pub returns-in_err-cells-clause-read : goal.returns-in_err-cells-clause-read
returns-in_err-cells-clause-read c = grind (arith, cell_count_faulty _ _ c.in_ok-nodes.ensures.read _ c.in_ok-counters.ensures.read)

pub returns-in_err-masks-clause-read : goal.returns-in_err-masks-clause-read
returns-in_err-masks-clause-read c =
    grind (arith, cells_faulty _ _ c.in_ok-nodes.ensures.read _ c.in_ok-counters.ensures.read _ c.in_ok-cells.ensures.read)

pub returns-in_err-steps-clause-read : goal.returns-in_err-steps-clause-read
returns-in_err-steps-clause-read c =
    grind (arith, step_count_faulty _ _ c.in_ok-nodes.ensures.read _ c.in_ok-counters.ensures.read _ c.in_ok-cells.ensures.read _ c.in_ok-masks.ensures.read)

pub returns-clause-read : goal.returns-clause-read
returns-clause-read c =
    front_read _ _ c.in_ok-nodes.ensures.read _ c.in_ok-counters.ensures.read _ c.in_ok-cells.ensures.read _ c.in_ok-masks.ensures.read _ c.in_ok-steps.ensures.read
