-- Laws of tests in their order: what an accepted input has, and which refusal a refused one gets.
-- Assumes nothing.
use mathlib.Core.Path.{◌≡◌, refl}
use mathlib.Core.Bool.{Bool, true, false, cond}
use mathlib.Core.List.{List, [], ◌∷◌}
use Rattle.std.specs.Prelude.{Option, None, Some}
use Rattle.tables.proofs.Choice.{some_none}
use Rattle.tables.specs.Tests.{refusal}

-- all tests pass
abbrev pub Passed : {R : Type 0} → List (Bool × R) → Type 0
Passed [] = Unit {0}
Passed (t ∷ ts) = (t.0 ≡ true) × Passed ts

-- the first test that fails has the refusal c
pub data Fails {R : Type 0} : List (Bool × R) → R → Type 0 where
  here : {t : Bool × R} {ts : List (Bool × R)} → t.0 ≡ false → Fails (t ∷ ts) t.1
  later : {t : Bool × R} {ts : List (Bool × R)} {c : R} → t.0 ≡ true → Fails ts c → Fails (t ∷ ts) c

pub accepted : {R : Type 0} (ts : List (Bool × R)) → Passed ts → refusal ts ≡ None
unfolding refusal
accepted [] p = refl
accepted (t ∷ ts) p = rw p.0 (accepted ts p.1)

pub refused : {R : Type 0} {ts : List (Bool × R)} {c : R} → Fails ts c → refusal ts ≡ Some c
unfolding refusal
refused (here e) = rw e
refused (later e f) = rw e (refused f)

-- accepted, with all facts, or refused, with the first test that fails
pub data Judged {R : Type 0} (ts : List (Bool × R)) : Option R → Type 0 where
  passes : Passed ts → Judged ts None
  fails : {c : R} → Fails ts c → Judged ts (Some c)

pub judged : {R : Type 0} (ts : List (Bool × R)) → Judged ts (refusal ts)
unfolding refusal
judged [] = passes tt
judged {R} (t ∷ ts) = go t.0 refl (refusal ts) (judged ts)
  where
    go : (b : Bool) → t.0 ≡ b → (r : Option R) → Judged ts r → Judged (t ∷ ts) (cond b r (Some t.1))
    go true e None (passes p) = passes (e, p)
    go true e (Some c) (fails f) = fails (later e f)
    go false e None j = fails (here e)
    go false e (Some c) j = fails (here e)

pub passed : {R : Type 0} (ts : List (Bool × R)) → refusal ts ≡ None → Passed ts
passed {R} ts e = go (refusal ts) e (judged ts)
  where
    go : (r : Option R) → r ≡ None → Judged ts r → Passed ts
    go None e' (passes p) = p
    go (Some c) e' (fails f) = absurd (some_none c e')
