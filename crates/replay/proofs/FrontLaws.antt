-- Laws of the first line: its length, and that its parts written one after the other are the line.
-- Assumes nothing.
use mathlib.Core.Path.{◌≡◌, ◌∙◌}
use mathlib.Core.List.{List, [], ◌∷◌, ◌++◌, append_assoc}
use Prim.Native.Nat.{ℕ, ◌+◌, ◌≤◌}
use native.Mathlib.Omega.{arith}
use lib.ListN.{length, length-append}
use Rattle.text.specs.Text.{decimal, line_of, placed}
use Rattle.text.proofs.Placed.{Wrote, wrote_both, after_in}
use Rattle.text.proofs.Lines.{line_more, line_one}
use Rattle.text.proofs.Digits.{decimal_short}
use Rattle.runfile.specs.declared.Head.{Head}
use Rattle.replay.specs.Replay.{run_word, refused_word, front_of, refused_text}

module _ (h : Head) where
  pub front_length : length (front_of h) ≡ 7 + length (decimal h.nodes) + length (decimal h.cells) + length (decimal h.steps)
  unfolding front_of
  front_length = simp (line_more, line_one, length-append) (omega arith)

  parts : ((run_word ++ (decimal h.nodes ++ (32 ∷ []))) ++ (decimal h.cells ++ (32 ∷ []))) ++ (decimal h.steps ++ (10 ∷ [])) ≡ front_of h
  unfolding front_of line_of
  parts = simp append_assoc

  -- the counts of a sound file have few digits
  pub front_short : h.nodes ≤ 8 → h.cells ≤ 32 → h.steps ≤ 4096 → length (front_of h) ≤ 14
  front_short a b c =
      omega (arith, front_length, decimal_short 0 h.nodes (omega arith), decimal_short 1 h.cells (omega arith), decimal_short 3 h.steps (omega arith))

  pub wrote_front :
      (out : List ℕ) → length (front_of h) ≤ length out
      → (r : ℕ) (out₁ : List ℕ) → Wrote out 0 run_word r out₁
      → (s : ℕ) (out₂ : List ℕ) → Wrote out₁ r (decimal h.nodes ++ (32 ∷ [])) s out₂
      → (t : ℕ) (out₃ : List ℕ) → Wrote out₂ s (decimal h.cells ++ (32 ∷ [])) t out₃
      → (u : ℕ) (out₄ : List ℕ) → Wrote out₃ t (decimal h.steps ++ (10 ∷ [])) u out₄
      → out₄ ≡ placed out 0 (front_of h)
  wrote_front out l r out₁ p s out₂ q t out₃ v u out₄ w =
      let n = front_length in
      let x = wrote_both out 0 _ r out₁ _ s out₂ (simp length-append (omega arith)) p q in
      let y = wrote_both out 0 _ s out₂ _ t out₃ (simp length-append (omega arith)) x v in
      let z = wrote_both out 0 _ t out₃ _ u out₄ (simp length-append (omega arith)) y w in
      rw parts at z.1

module _ (code : ℕ) where
  pub refused_length : length (refused_text code) ≡ 9 + length (decimal code)
  unfolding refused_text
  refused_length = simp (line_one, length-append) (omega arith)

  pub wrote_refused :
      (out : List ℕ) → length (refused_text code) ≤ length out
      → (r : ℕ) (out₁ : List ℕ) → Wrote out 0 refused_word r out₁
      → (s : ℕ) (out₂ : List ℕ) → Wrote out₁ r (decimal code ++ (10 ∷ [])) s out₂
      → (s ≡ length (refused_text code)) × (out₂ ≡ placed out 0 (refused_text code))
  unfolding refused_text line_of
  wrote_refused out l r out₁ p s out₂ q =
      let m : 0 + length (refused_word ++ (decimal code ++ (10 ∷ []))) ≤ length out = omega (arith, l) in
      let x = wrote_both out 0 _ r out₁ _ s out₂ m p q in
      (x.0 ∙ after_in (length out) 0 (refused_word ++ (decimal code ++ (10 ∷ []))) m ∙ omega arith, x.1)
