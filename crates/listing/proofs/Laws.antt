-- Laws of a run's lines and states, step by step, as the loop goes through them.
-- Assumes nothing.
use mathlib.Core.Path.{◌≡◌, refl, sym, ap, ◌∙◌}
use mathlib.Core.Bool.{Bool, true, false}
use mathlib.Core.List.{List, [], ◌∷◌, ◌++◌, append_assoc, append-nil}
use Prim.Native.Nat.{ℕ, zero, suc, ◌+◌, ◌*◌, ◌-◌, ◌≤◌}
use native.Mathlib.Nat.{add-zero}
use native.Mathlib.Numerals.{add-one}
use native.Mathlib.Omega.{arith}
use lib.ListN.{length, length-append}
use Rattle.kinds.specs.declared.Step.{Step}
use Rattle.group.specs.declared.Answer.{Answer}
use Rattle.group.specs.Answer.{Said, said}
use Rattle.group.specs.State.{State}
use Rattle.score.specs.Steps.{step_of}
use Rattle.text.specs.Text.{line_of}
use Rattle.text.proofs.Lines.{line_size}
use Rattle.text.proofs.Placed.{Wrote, after_in}
use Rattle.runfile.specs.Head.{firsts}
use Rattle.runfile.specs.Parts.{step_in}
use Rattle.runfile.proofs.Rows.{firsts_next, firsts_size}
use Rattle.listing.specs.Listing.{line_for, lines_from}
use Rattle.listing.specs.Going.{state_after, steps_to, lines_to, shown}

-- ---- one step more

pub after_last : (s : State) (xs : List Step) (x : Step) → state_after s (xs ++ (x ∷ [])) ≡ (step_of (state_after s xs) x).state
unfolding state_after
after_last s [] x = refl
after_last s (y ∷ ys) x = after_last (step_of s y).state ys x

lines_last :
    (i : ℕ) (s : State) (xs : List Step) (x : Step)
    → lines_from i s (xs ++ (x ∷ [])) ≡ lines_from i s xs ++ line_for (i + length xs) (step_of (state_after s xs) x).answer
unfolding lines_from state_after
lines_last i s [] x = rw (add-zero i) (append-nil (line_for i (step_of s x).answer))
lines_last i s (y ∷ ys) x =
    let o = step_of s y in
    let e : suc i + length ys ≡ i + suc (length ys) = omega arith in
    rw (lines_last (suc i) o.state ys x, e) (sym (append_assoc (line_for i o.answer) (lines_from (suc i) o.state ys) _))

-- a line of the numbers that are said, written where it fits, or counted
module _ (out : List ℕ) (at i : ℕ) (a : Answer) (w : Said) (e : w ≡ said a) (write : Bool) where
  abbrev line : List ℕ
  line = line_of (i ∷ w.code ∷ w.number ∷ w.value ∷ [])

  line_is : line ≡ line_for i a
  unfolding line_for
  line_is = rw e

  pub line_put :
      write ≡ true → (write ≡ true → at + length (line_for i a) ≤ length out) → (r : ℕ) (out' : List ℕ) → Wrote out at line r out'
      → (r ≡ at + length (line_for i a)) × (out' ≡ shown write out at (line_for i a))
  line_put q f r out' p = let u = rw line_is at p in (u.0 ∙ after_in (length out) at (line_for i a) (f q), rw q u.1)

  pub line_count : write ≡ false → (n : ℕ) → n ≡ length line → (at + n ≡ at + length (line_for i a)) × (out ≡ shown write out at (line_for i a))
  line_count q n l = (ap (◌+◌ at) (l ∙ ap length line_is), rw q refl)

line_for_size : (i : ℕ) (a : Answer) → length (line_for i a) ≤ 44
unfolding line_for
line_for_size i a = line_size i (said a).code (said a).number (said a).value

module _ (s : State) (part : List ℕ) where
  pub states_next : (i : ℕ) → state_after s (steps_to part (i + 1)) ≡ (step_of (state_after s (steps_to part i)) (step_in part i)).state
  states_next i = ap (state_after s) (firsts_next i (step_in part)) ∙ after_last s (steps_to part i) (step_in part i)

  -- the line of step i
  abbrev pub line_at : ℕ → List ℕ
  line_at i = line_for i (step_of (state_after s (steps_to part i)) (step_in part i)).answer

  pub lines_next : (i : ℕ) → lines_to s part (i + 1) ≡ lines_to s part i ++ line_at i
  lines_next i =
      let e : 0 + length (steps_to part i) ≡ i = omega (arith, firsts_size i (step_in part)) in
      ap (lines_from 0 s) (firsts_next i (step_in part)) ∙ rw e at (lines_last 0 s (steps_to part i) (step_in part i))

  pub lines_none : lines_to s part 0 ≡ []
  unfolding lines_from firsts
  lines_none = refl

  pub states_none : state_after s (steps_to part 0) ≡ s
  unfolding state_after firsts
  states_none = refl

  -- ---- their length

  pub lines_step : (i : ℕ) → length (lines_to s part (i + 1)) ≡ length (lines_to s part i) + length (line_at i)
  lines_step i = ap length (lines_next i) ∙ length-append (lines_to s part i) (line_at i)

  pub lines_size : (i : ℕ) → length (lines_to s part i) ≤ 44 * i
  lines_size zero = omega (arith, ap length lines_none)
  lines_size (suc i) = omega (arith, rw add-one at (lines_step i), lines_size i, line_for_size i (step_of (state_after s (steps_to part i)) (step_in part i)).answer)

  grows : (d i : ℕ) → length (lines_to s part i) ≤ length (lines_to s part (d + i))
  grows zero i = let e : 0 + i ≡ i = omega arith in rw e (omega arith)
  grows (suc d) i = let e : suc d + i ≡ d + i + 1 = omega arith in rw e (omega (arith, lines_step (d + i), grows d i))

  pub lines_grow : (i k : ℕ) → i ≤ k → length (lines_to s part i) ≤ length (lines_to s part k)
  lines_grow i k h = let e : k - i + i ≡ k = omega arith in rw e at (grows (k - i) i)
