-- `replay::front::refused` meets its contract: the word and the code, or nothing.
-- Assumes nothing.
use mathlib.Core.Path.{sym}
use native.Mathlib.Omega.{arith}
use Rattle.text.proofs.Placed.{placed_out}
use Rattle.replay.specs.Replay.{refused_text}
use Rattle.replay.proofs.FrontLaws.{refused_length, wrote_refused}
use Rattle.replay.proofs.front.refused.Goals as goal

pub returns-then-out-size : goal.returns-then-out-size
returns-then-out-size c =
    let a = c.args in
    let p = rw c.from-number.ensures at c.size-size.ensures.0 in
    let n = refused_length a.code in
    (omega (arith, n, p), sym (placed_out _ 0 (refused_text a.code) (omega (arith, n, p, c.if-out-size.true))))

pub returns : goal.returns
returns c =
    let a = c.args in
    let w = c.from-number.ensures in
    let p = rw w at c.size-size.ensures.0 in
    let n = refused_length a.code in
    wrote_refused a.code _ (omega (arith, n, p, c.if-out-size.false)) _ _ c.bytes-at.ensures _ _ (rw w at c.closed.ensures)
