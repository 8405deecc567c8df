-- `runwrite::put::put_cells` meets its contract.
-- Assumes nothing.
use mathlib.Core.Path.{◌∙◌}
use Prim.Native.Nat.{◌+◌, ◌*◌}
use native.Mathlib.Omega.{arith}
use Rattle.tables.specs.Table.{at}
use Rattle.runfile.proofs.FileItems.{cell_item}
use Rattle.runwrite.proofs.Writing.{put_none, put_next, put_end, cell_stored}
use Rattle.runwrite.proofs.put.put_cells.Goals as goal

pub loop-i-init : goal.loop-i-init
loop-i-init c = put_none (cell_item 0) _ _ _

pub loop-i-preserved : goal.loop-i-preserved
unfolding at
loop-i-preserved c =
    put_next (cell_item 0) _ _ _ _ _ _ c.loop-i.invariant (c.store.ensures.1 ∙ cell_stored c.loop-i.out (c.args.start + 5 * c.loop-i.i) _ _ (omega (arith, c.loop-i.auto.out)))

pub returns : goal.returns
returns c = put_end (cell_item 0) _ _ _ _ _ _ c.loop-i.auto.i-end c.loop-i-test.false c.loop-i.invariant
