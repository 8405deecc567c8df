-- `little::store` meets its contract. The loop's invariant: to store the bytes that are left comes to the same as to store all of them.
-- Assumes nothing.
use mathlib.Core.Path.{◌≡◌}
use Rattle.little.specs.Little.{stored}
use Rattle.little.proofs.Laws.{with_rest}
use Rattle.little.proofs.store.Given as goal

abbrev pub invariant-loop-i : goal.invariant-loop-i
invariant-loop-i l = stored l.initial.out l.at l.k l.x ≡ with_rest l.out l.at l.k l.high l.i
