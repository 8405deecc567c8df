-- `text::closed` meets its contract: the number and the byte past it, or neither.
-- Assumes nothing.
use mathlib.Core.Path.{◌≡◌, sym, ap, ◌∙◌}
use mathlib.Core.List.{[], ◌∷◌, ◌++◌}
use Prim.Native.Nat.{ℕ, ◌+◌, ◌≤◌}
use native.Mathlib.Omega.{arith}
use lib.ListN.{length, length-append}
use Rattle.text.specs.Text.{decimal}
use Rattle.text.proofs.Placed.{room_there, room_lacking, wrote_none, wrote_both}
use Rattle.text.proofs.closed.Goals as goal

-- how many bytes that is
many : (x b n : ℕ) → n ≡ length (decimal x) → length (decimal x ++ (b ∷ [])) ≡ n + 1
many x b n e = length-append (decimal x) (b ∷ []) ∙ ap (λ (n : ℕ). n + 1) (sym e)

pub returns-then-room : goal.returns-then-room
returns-then-room c =
    let a = c.args in
    let n = many a.x a.b _ c.size.ensures.0 in
    let h : a.at + length (decimal a.x ++ (a.b ∷ [])) ≤ length a.out.now = omega (arith, n, room_there c.room.ensures c.if-room.true) in
    wrote_both _ _ _ c.decimal-end.result c.decimal-end.new.out _ _ _ h c.decimal-end.ensures c.byte.ensures

pub returns-else-room : goal.returns-else-room
returns-else-room c =
    let a = c.args in
    let n = many a.x a.b _ c.size.ensures.0 in
    wrote_none a.out.now a.at (decimal a.x ++ (a.b ∷ [])) (omega (arith, n, room_lacking c.room.ensures c.if-room.false))
