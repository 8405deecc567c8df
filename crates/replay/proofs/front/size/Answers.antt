-- `replay::front::size` meets its contract: the word, the digits, and a byte after each number.
-- Assumes nothing.
use native.Mathlib.Omega.{arith}
use Rattle.replay.proofs.FrontLaws.{front_length}
use Rattle.replay.proofs.front.size.Goals as goal

pub returns : goal.returns
returns c =
    let h = c.args.h in
    let p = rw c.from.ensures at c.size.ensures in
    let q = rw c.from-2.ensures at c.size-2.ensures in
    let r = rw c.from-3.ensures at c.size-3.ensures in
    (omega (arith, front_length h, p.0, q.0, r.0), omega (arith, p.1, q.1, r.1))
