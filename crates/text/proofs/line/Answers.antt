-- `text::line` meets its contract: the four numbers one after the other, or none.
-- Assumes nothing.
use mathlib.Core.List.{[], ◌∷◌}
use Prim.Native.Nat.{◌+◌, ◌≤◌}
use native.Mathlib.Omega.{arith}
use lib.ListN.{length}
use Rattle.text.specs.Text.{line_of}
use Rattle.text.proofs.Placed.{room_there, room_lacking, wrote_none, wrote_line}
use Rattle.text.proofs.line.Goals as goal

pub returns-then-room : goal.returns-then-room
returns-then-room c =
    let a = c.args in
    let h : a.at + length (line_of (a.a ∷ a.b ∷ a.c ∷ a.d ∷ [])) ≤ length a.out.now = omega (arith, room_there c.room.ensures c.if-room.true, c.line_size.ensures.0) in
    wrote_line _ _ _ _ _ _
    c.closed-second.result
    c.closed-second.new.out
    c.closed-third.result
    c.closed-third.new.out
    c.closed-fourth.result
    c.closed-fourth.new.out
    _
    _
    h
    c.closed-second.ensures
    c.closed-third.ensures
    c.closed-fourth.ensures
    c.closed.ensures

pub returns-else-room : goal.returns-else-room
returns-else-room c =
    let a = c.args in
    wrote_none a.out.now a.at (line_of (a.a ∷ a.b ∷ a.c ∷ a.d ∷ [])) (omega (arith, room_lacking c.room.ensures c.if-room.false, c.line_size.ensures.0))
