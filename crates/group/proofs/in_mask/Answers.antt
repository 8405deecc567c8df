-- `group::in_mask` meets its contract: a mask is below 2 ^ 8, so that it has no bit above.
-- Assumes nothing.
use mathlib.Core.Path.{◌≡◌}
use Prim.Native.Nat.{◌/◌, ◌^◌, ◌≤◌}
use native.Mathlib.Omega.{arith}
use Rattle.std.proofs.Common.{rules}
use Rattle.std.proofs.Math.Nat.{div-eq_of_lt, pow-le-pow_right}
use Rattle.group.proofs.in_mask.Goals as goal

pub returns-else-node-lt8 : goal.returns-else-node-lt8
returns-else-node-lt8 c =
    let a = c.args in
    let q : 2 ^ 8 ≤ 2 ^ a.node = pow-le-pow_right {n = 2} (omega arith) {i = 8} {j = a.node} (omega arith) in
    let z : a.mask / 2 ^ a.node ≡ 0 = div-eq_of_lt (omega arith) in
    rw z (search rules)
