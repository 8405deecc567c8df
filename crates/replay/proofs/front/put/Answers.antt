-- `replay::front::put` meets its contract: its parts, one after the other.
-- Assumes nothing.
use Rattle.replay.proofs.FrontLaws.{wrote_front}
use Rattle.replay.proofs.front.put.Goals as goal

pub returns : goal.returns
returns c =
    wrote_front c.args.h _ c.requires _ _ c.bytes-first.ensures _ _ (rw c.from.ensures at c.closed-second.ensures) _ _
    (rw c.from-2.ensures at c.closed-third.ensures) _ _ (rw c.from-3.ensures at c.closed.ensures)
