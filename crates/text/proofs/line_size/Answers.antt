-- `text::line_size` meets its contract: the digits of the four numbers, and a byte after each.
-- Assumes nothing.
use native.Mathlib.Omega.{arith}
use Rattle.text.proofs.Lines.{line_length}
use Rattle.text.proofs.line_size.Goals as goal

pub returns : goal.returns
returns c =
    let a = c.args in
    let p = c.size.ensures in
    let q = c.size-2.ensures in
    let r = c.size-3.ensures in
    let s = c.size-4.ensures in
    (omega (arith, line_length a.a a.b a.c a.d, p.0, q.0, r.0, s.0), omega (arith, p.1, q.1, r.1, s.1))
