-- `score::step_whole` meets its contract: a whole state gives what `act` needs, and what it leaves is put back.
-- Assumes nothing.
use Rattle.group.specs.State.{state_of}
use Rattle.score.proofs.WholeLaws.{whole_ready, put_back_lem}
use Rattle.score.proofs.step_whole.Goals as goal

pub act-turn-requires : goal.act-turn-requires
act-turn-requires c = whole_ready (state_of c.args.g.now c.args.tables.now) c.requires

pub returns : goal.returns
returns c =
    put_back_lem c.args.g.now _ _ _ (rw c.from.ensures at c.at-slot.ensures) _ c.place-n.ensures _ (rw (c.from-2.ensures, c.zeroed.ensures) at c.at-c.ensures) _ _ c.act-turn.ensures _
    (rw c.from-3.ensures at c.put.ensures) _ (rw c.from-4.ensures at c.put-2.ensures)
