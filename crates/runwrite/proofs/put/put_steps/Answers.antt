-- `runwrite::put::put_steps` meets its contract.
-- Assumes nothing.
use Rattle.tables.specs.Table.{at}
use Rattle.runfile.proofs.FileItems.{step_item}
use Rattle.runwrite.proofs.Judging.{no_step, firsts_all}
use Rattle.runwrite.proofs.Writing.{put_none, put_next, put_end}
use Rattle.runwrite.proofs.put.put_steps.Goals as goal

pub loop-i-init : goal.loop-i-init
loop-i-init c = put_none step_item _ _ _

pub loop-i-preserved : goal.loop-i-preserved
unfolding at
loop-i-preserved c = put_next step_item _ _ _ _ _ _ c.loop-i.invariant c.put_step.ensures

pub returns : goal.returns
returns c =
    let e = put_end step_item _ _ _ _ _ _ c.loop-i.auto.i-end c.loop-i-test.false c.loop-i.invariant in
    rw (firsts_all c.args.steps.now no_step) at e
