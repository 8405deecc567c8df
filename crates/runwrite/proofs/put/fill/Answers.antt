-- `runwrite::put::fill` meets its contract: the three sections, one after the other.
-- Assumes nothing.
use Rattle.runwrite.proofs.Writing.{filled}
use Rattle.runwrite.proofs.put.fill.Goals as goal

pub returns : goal.returns
returns c =
    let a = c.args in
    filled a.head.now a.steps.now _ _ _ _ _ _ c.from-n.ensures c.from-c.ensures c.put_nodes.ensures c.put_table.ensures c.put_tail.ensures
