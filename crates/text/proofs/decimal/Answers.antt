-- `text::decimal` meets its contract.
-- Assumes nothing.
use mathlib.Core.Path.{◌≡◌, ◌∙◌}
use native.Mathlib.Omega.{arith}
use Rattle.text.proofs.Placed.{room_there, room_lacking, wrote_none, wrote_all}
use Rattle.text.proofs.Coding.{first_none}
use Rattle.text.proofs.decimal.Goals as goal

pub returns-after-loop-i : goal.returns-after-loop-i
returns-after-loop-i c =
    let k = c.size-k.ensures.0 in
    let e : c.loop-i.i ≡ 0 = omega arith in
    rw k (wrote_all _ _ _ _ (rw k at (room_there c.room.ensures c.if-room.true)) (c.loop-i.invariant ∙ rw e (first_none _ _ _)))

pub returns-else-room : goal.returns-else-room
returns-else-room c = wrote_none _ _ _ (rw c.size-k.ensures.0 at (room_lacking c.room.ensures c.if-room.false))
