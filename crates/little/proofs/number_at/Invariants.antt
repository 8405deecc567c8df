-- `little::number_at` meets its contract. The loop's invariant: x is what the bytes that were read stand for, and as many bytes hold it.
-- Assumes nothing.
use mathlib.Core.Path.{◌≡◌}
use Prim.Native.Nat.{◌-◌, ◌^◌, ◌<◌}
use Rattle.little.proofs.Laws.{high}
use Rattle.little.proofs.number_at.Given as goal

abbrev pub invariant-loop-i : goal.invariant-loop-i
invariant-loop-i l = (l.x ≡ high l.s l.at l.k l.i) × (l.x < 256 ^ (l.k - l.i))
