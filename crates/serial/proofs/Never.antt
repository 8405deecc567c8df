-- Never 15: from fresh, every state of every run is whole, so that no step answers 15 and the inner step serves.
-- Assumes nothing.
use mathlib.Core.Path.{◌≡◌, refl, subst, ◌∙◌}
use mathlib.Core.Logic.{◌≢◌}
use mathlib.Core.Bool.{true}
use mathlib.Core.List.Memᴰ
use mathlib.Core.List.{List, [], ◌∷◌, ◌++◌}
use Prim.Native.Nat.{ℕ, ◌≤◌}
use native.Mathlib.Omega.{arith}
use Rattle.tables.specs.Table.{at}
use Rattle.kinds.specs.declared.Step.{Step}
use Rattle.group.specs.declared.Answer.TheVariants.{Refused}
use Rattle.group.specs.State.{State}
use Rattle.whole.specs.Whole.{whole}
use Rattle.score.specs.Place.{desk_of}
use Rattle.score.specs.Steps.{step_whole, step_of}
use Rattle.desk.proofs.Codes.{Answered, answered}
use Rattle.serial.specs.Serial.{Sound, Steps32, Run, handed_by, start, next, run_of}
use Rattle.serial.proofs.Views.{All}
use Rattle.serial.proofs.Shape.{Shape}
use Rattle.serial.proofs.ShapeSteps.{step_shape}
use Rattle.serial.proofs.Wholes.{whole_is}
use Rattle.serial.proofs.Steps.{step_keeps}
use Rattle.serial.proofs.Begins.{fresh_holds, fresh_shape}

-- ---- every state of a run is whole

step_shaped : (first : ℕ → ℕ) (r : Run) (x : Step) → All first r.state r.handed → Shape r.state → Shape (next r x).state
unfolding next step_of
step_shaped first r x a b = rw (whole_is first r.state r.handed a b, step_of) (step_shape first r.state r.handed a b x)

wholly : (first : ℕ → ℕ) (xs : List Step) (r : Run) → Steps32 xs → All first r.state r.handed → Shape r.state → whole (run_of r xs).state ≡ true
unfolding run_of
wholly first [] r v a b = whole_is first r.state r.handed a b
wholly first (x ∷ xs) r v a b = wholly first xs (next r x) (λ y m. v y (Memᴰ.tail m)) (step_keeps first r x (v x (Memᴰ.head refl)) a) (step_shaped first r x a b)

-- a run by the inner step, which does not test for a whole state
unfoldable pub inner_run : Run → List Step → Run
inner_run r [] = r
inner_run r (x ∷ xs) = let o = step_whole r.state x in inner_run (record { state = o.state; handed = handed_by r.state x o.answer ++ r.handed }) xs

inner_all : (first : ℕ → ℕ) (xs : List Step) (r : Run) → Steps32 xs → All first r.state r.handed → Shape r.state → run_of r xs ≡ inner_run r xs
unfolding run_of inner_run next step_of
inner_all first [] r v a b = refl
inner_all first (x ∷ xs) r v a b =
    inner_all first xs (next r x) (λ y m. v y (Memᴰ.tail m)) (step_keeps first r x (v x (Memᴰ.head refl)) a) (step_shaped first r x a b)
    ∙ rw (whole_is first r.state r.handed a b, step_of)

-- ---- the claims

module _ (nodes cells : ℕ) (counters masks values : List ℕ) (q : Sound nodes cells counters masks values) (xs : List Step) (v : Steps32 xs) where
  abbrev now : State
  now = (run_of (start nodes cells counters masks values) xs).state

  pub whole_run : whole now ≡ true
  whole_run = wholly (λ c. at values c 0) xs (start nodes cells counters masks values) v (fresh_holds nodes cells counters masks values q) (fresh_shape nodes cells counters masks values q)

  -- the inner step is the step
  pub inner_step : (x : Step) → step_of now x ≡ step_whole now x
  unfolding step_of
  inner_step x = rw whole_run

  pub inner_run_lem : run_of (start nodes cells counters masks values) xs ≡ inner_run (start nodes cells counters masks values) xs
  inner_run_lem = inner_all (λ c. at values c 0) xs (start nodes cells counters masks values) v (fresh_holds nodes cells counters masks values q) (fresh_shape nodes cells counters masks values q)

  -- no step answers 15
  pub never_15 : (x : Step) → (step_of now x).answer ≢ Refused 15
  unfolding step_whole
  never_15 x e = let o : Answered (step_of now x).answer = rw (inner_step x) (answered (desk_of now x) x) in
      let l : (16 ≤ 15) × (15 ≤ 24) = subst Answered e o in omega arith
