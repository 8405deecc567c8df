-- `runwrite::put::steps_sound` meets its contract. The loop's invariant: every step passed is sound.
-- Assumes nothing.
use mathlib.Core.Path.{◌≡◌}
use mathlib.Core.Bool.{true}
use Rattle.runwrite.proofs.Judging.{steps_pass}
use Rattle.runwrite.proofs.put.steps_sound.Given as goal

abbrev pub invariant-loop-x : goal.invariant-loop-x
invariant-loop-x l = steps_pass l.steps l.x-index ≡ true
