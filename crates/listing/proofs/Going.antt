-- Laws of the loop over a run's steps: where it stands after i of them, and what one more does.
-- Assumes nothing.
use mathlib.Core.Path.{◌≡◌, refl, sym, ap, ap₂, ◌∙◌}
use mathlib.Core.Bool.{Bool, true, false}
use mathlib.Core.List.{List, [], ◌++◌}
use Prim.Native.Nat.{ℕ, ◌+◌, ◌*◌, ◌≤◌, ◌<◌}
use native.Mathlib.Omega.{arith}
use lib.ListN.{length}
use Rattle.std.specs.Prelude.{None, Some}
use Rattle.tables.proofs.Choice.{some_none}
use Rattle.kinds.specs.declared.Step.{Step}
use Rattle.group.specs.declared.Answer.{Answer}
use Rattle.group.specs.State.{State}
use Rattle.whole.specs.Whole.{whole}
use Rattle.score.specs.Steps.{Stepped, step_whole, step_of}
use Rattle.score.proofs.WholeLaws.{is_whole}
use Rattle.text.specs.Text.{placed}
use Rattle.text.proofs.Placed.{placed_size, placed_none, placed_then}
use Rattle.runfile.specs.Parts.{step_in, step_at}
use Rattle.runfile.proofs.Parts.{step_there}
use Rattle.listing.specs.Listing.{line_for}
use Rattle.listing.specs.Going.{state_after, steps_to, lines_to, shown, Goes}
use Rattle.listing.proofs.Laws.{line_at, states_next, states_none, lines_next, lines_none, lines_step, lines_size, lines_grow}

-- ---- the step that is taken

module _ (part : List ℕ) (i : ℕ) (h : 8 * i + 8 ≤ length part) where
  pub taken_is : (x : Step) → Some x ≡ step_at part i → x ≡ step_in part i
  taken_is x e = let q = e ∙ step_there part i h in cc

  pub taken_never : {A : Type 0} → None ≡ step_at part i → A
  taken_never e = absurd (some_none (step_in part i) (sym (e ∙ step_there part i h)))

-- ---- the loop

-- after i steps from the state s
pub record Gone (s : State) (part : List ℕ) (count start : ℕ) (write : Bool) (out₀ : List ℕ) (now : State) (out : List ℕ) (at i : ℕ) : Type 0 where
  pub done : i ≤ count
  pub state : now ≡ state_after s (steps_to part i)
  pub place : at ≡ start + length (lines_to s part i)
  pub output : out ≡ shown write out₀ start (lines_to s part i)

module _ (s : State) (part : List ℕ) (count start : ℕ) (write : Bool) (out₀ : List ℕ) where
  shown_none : (w : Bool) → out₀ ≡ shown w out₀ start []
  shown_none true = sym (placed_none out₀ start)
  shown_none false = refl

  pub gone_none : Gone s part count start write out₀ s out₀ start 0
  gone_none = record {
    done = omega arith;
    state = sym (states_none s part);
    place = omega (arith, ap length (lines_none s part));
    output = rw (lines_none s part) (shown_none write);
  }

  pub gone_size : (now : State) (out : List ℕ) (at i : ℕ) → Gone s part count start write out₀ now out at i → length out ≡ length out₀
  gone_size now out at i v = go write v.output
    where
      go : (w : Bool) → out ≡ shown w out₀ start (lines_to s part i) → length out ≡ length out₀
      go true e = ap length e ∙ placed_size out₀ start (lines_to s part i)
      go false e = ap length e

  module _
      (p : Goes s part count) (few : start ≤ 64) (f : write ≡ true → start + length (lines_to s part count) ≤ length out₀)
      (now : State) (out : List ℕ) (at i : ℕ) (v : Gone s part count start write out₀ now out at i) where
    pub place_low : at ≤ 200000
    place_low = omega (arith, v.place, v.done, lines_size s part i, p.few, few)

    pub all_shown : count ≤ i → (at ≡ start + length (lines_to s part count)) × (out ≡ shown write out₀ start (lines_to s part count))
    all_shown l = let e : i ≡ count = omega (arith, v.done) in (rw e at v.place, rw e at v.output)

    module _ (l : i < count) where
      pub is_there : 8 * i + 8 ≤ length part
      is_there = omega (arith, p.there)

      pub still_whole : whole now ≡ true
      still_whole = rw v.state (p.wholes i l)

      abbrev o : Stepped
      o = step_of (state_after s (steps_to part i)) (step_in part i)

      -- the step taken here, done from here, is that step of the run
      pub done_is : (x : Step) → Some x ≡ step_at part i → (r : Stepped) → r ≡ step_whole now x → r ≡ o
      done_is x e r q = is_whole now x still_whole r q ∙ ap₂ step_of v.state (taken_is part i is_there x e)

      pub never : {A : Type 0} → None ≡ step_at part i → A
      never e = taken_never part i is_there e

      -- the lines up to this one fit where all do
      next_fits : start + length (lines_to s part (i + 1)) ≤ start + length (lines_to s part count)
      next_fits = omega (arith, lines_grow s part (i + 1) count (omega arith))

      pub line_fits : (a : Answer) → a ≡ o.answer → write ≡ true → at + length (line_for i a) ≤ length out
      line_fits a e q = omega (arith, f q, next_fits, gone_size now out at i v, v.place, lines_step s part i, ap (λ (b : Answer). length (line_for i b)) e)

      pub gone_next :
          (r : Stepped) → r ≡ o → (at' : ℕ) (out' : List ℕ)
          → (at' ≡ at + length (line_for i r.answer)) × (out' ≡ shown write out at (line_for i r.answer))
          → Gone s part count start write out₀ r.state out' at' (i + 1)
      gone_next r e at' out' w = record {
        done = omega arith;
        state = ap (λ (y : Stepped). y.state) e ∙ sym (states_next s part i);
        place = omega (arith, w.0, v.place, lines_step s part i, ap (λ (y : Stepped). length (line_for i y.answer)) e);
        output = go write refl;
      }
        where
          line_is : line_for i r.answer ≡ line_at s part i
          line_is = ap (λ (y : Stepped). line_for i y.answer) e

          go : (m : Bool) → write ≡ m → out' ≡ shown write out₀ start (lines_to s part (i + 1))
          go true q =
              let a : out' ≡ placed out at (line_for i r.answer) = rw q at w.1 in
              let b : out ≡ placed out₀ start (lines_to s part i) = rw q at v.output in
              let fits : start + length (lines_to s part i ++ line_at s part i) ≤ length out₀ = omega (arith, f q, next_fits, ap length (lines_next s part i)) in
              rw q (a ∙ rw (b, v.place, line_is) (placed_then out₀ start (lines_to s part i) (line_at s part i) fits ∙ ap (placed out₀ start) (sym (lines_next s part i))))
          go false q =
              let a : out' ≡ out = rw q at w.1 in
              let b : out ≡ out₀ = rw q at v.output in
              rw q (a ∙ b)
