-- `runwrite::put::put_counters` meets its contract.
-- Assumes nothing.
use mathlib.Core.Path.{◌∙◌}
use native.Mathlib.Omega.{arith}
use Rattle.tables.specs.Table.{at}
use Rattle.runfile.proofs.FileItems.{counter_item}
use Rattle.runwrite.proofs.Writing.{put_none, put_next, put_end, counter_stored}
use Rattle.runwrite.proofs.put.put_counters.Goals as goal

pub loop-i-init : goal.loop-i-init
loop-i-init c = put_none counter_item _ _ _

pub loop-i-preserved : goal.loop-i-preserved
unfolding at
loop-i-preserved c =
    put_next counter_item _ _ _ _ _ _ c.loop-i.invariant (c.store.ensures.1 ∙ counter_stored _ _ _ (omega (arith, c.loop-i.auto.out)))

pub returns : goal.returns
returns c = put_end counter_item _ _ _ _ _ _ c.loop-i.auto.i-end c.loop-i-test.false c.loop-i.invariant
