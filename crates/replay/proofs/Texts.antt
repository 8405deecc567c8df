-- The text of a run: it fits or not, and its first line and the others make it up.
-- Assumes nothing.
use mathlib.Core.Path.{◌≡◌, refl, sym, ap, ◌∙◌}
use mathlib.Core.Bool.{true, false}
use mathlib.Core.List.{List, ◌++◌}
use Prim.Native.Nat.{ℕ, ◌+◌, ◌≤◌}
use native.Mathlib.Omega.{arith}
use lib.Dec.{leb}
use lib.ListN.{length, length-append}
use borrow.Author.Tests.{le-leb, leb-true, leb-false}
use Rattle.tables.proofs.Choice.{not_both}
use Rattle.text.specs.Text.{placed}
use Rattle.text.proofs.Placed.{placed_out, placed_size, placed_then}
use Rattle.runfile.specs.declared.Head.{Head}
use Rattle.listing.specs.Listing.{fresh_of}
use Rattle.replay.specs.Replay.{front_of}
use Rattle.listing.specs.Going.{lines_to, shown, Goes}
use Rattle.replay.specs.Plays.{Plays}

module _ (h : Head) (part : List ℕ) (p : Plays h part) (start : ℕ) (e : start ≡ length (front_of h)) (few : start ≤ 37) where
  abbrev lines : List ℕ
  lines = lines_to (fresh_of h) part h.steps

  -- what `walk` asks, where it writes and where it only counts
  pub counts : {A : Type 0} → Goes (fresh_of h) part h.steps × (start ≤ 64) × (false ≡ true → A)
  counts = (p.goes, omega arith, λ q. absurd (not_both q refl))

  text_size : start + length lines ≡ length (front_of h ++ lines)
  text_size = omega (arith, length-append (front_of h) lines)

  -- an output of the longest text's size is enough
  pub enough : (out : List ℕ) → 122894 ≤ length out → true ≡ leb (start + length lines) (length out)
  enough out l = sym (le-leb (start + length lines) (length out) (omega (arith, p.longest)))

  module _ (out : List ℕ) where
    module _ (f : true ≡ leb (start + length lines) (length out)) where
      fits : start + length lines ≤ length out
      fits = leb-true _ _ (sym f)

      pub front_fits : length (front_of h) ≤ length out
      front_fits = omega (arith, fits)

      pub writes :
          (out₁ : List ℕ) → out₁ ≡ placed out 0 (front_of h)
          → Goes (fresh_of h) part h.steps × (start ≤ 64) × (true ≡ true → start + length lines ≤ length out₁)
      writes out₁ q = (p.goes, omega arith, λ t. omega (arith, fits, ap length q, placed_size out 0 (front_of h)))

      pub text_written :
          (out₁ : List ℕ) → out₁ ≡ placed out 0 (front_of h) → (r : ℕ) (out₂ : List ℕ)
          → (r ≡ start + length lines) × (out₂ ≡ shown true out₁ start lines)
          → (r ≡ length (front_of h ++ lines)) × (out₂ ≡ placed out 0 (front_of h ++ lines))
      text_written out₁ q r out₂ w =
          let z : 0 + length (front_of h) ≡ start = omega arith in
          (w.0 ∙ text_size, w.1 ∙ rw q (rw z at (placed_then out 0 (front_of h) lines (omega (arith, fits, text_size)))))

    pub text_counted :
        false ≡ leb (start + length lines) (length out) → (r : ℕ) (out₂ : List ℕ)
        → (r ≡ start + length lines) × (out₂ ≡ shown false out start lines)
        → (r ≡ length (front_of h ++ lines)) × (out₂ ≡ placed out 0 (front_of h ++ lines))
    text_counted f r out₂ w =
        (w.0 ∙ text_size, w.1 ∙ sym (placed_out out 0 (front_of h ++ lines) (omega (arith, leb-false (start + length lines) (length out) (sym f), text_size))))
