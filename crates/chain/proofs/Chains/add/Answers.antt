-- `chain::Chains::add` meets its contract: no room and nothing changed, or one version and one length put.
-- Assumes nothing.
use mathlib.Core.Path.{sym}
use borrow.Author.Tests.{le-ltb, lt-ltb}
use Rattle.chain.specs.Chain.{has_room}
use Rattle.chain.proofs.Laws.{added_no_room, added_room}
use Rattle.chain.proofs.Chains.add.Goals as goal

pub returns-then-i-ge8 : goal.returns-then-i-ge8
unfolding has_room
returns-then-i-ge8 c = let e = c.len-i.ensures in (sym (le-ltb _ _ (rw e at c.if-i-ge8.true)), sym (added_no_room _ _ _ _ _ (rw e at c.if-i-ge8.true)))

pub returns : goal.returns
unfolding has_room
returns c =
    let e = c.len-i.ensures in
    let f = added_room _ _ _ _ _ (rw e at c.if-i-ge8.false) in
    (sym (lt-ltb _ _ (rw e at c.if-i-ge8.false)), rw (c.put-2.ensures, c.put.ensures, c.packed.ensures, c.from.ensures, c.row-row.ensures, e) (sym f))
