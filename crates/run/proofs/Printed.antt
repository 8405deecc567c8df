-- What is printed of what was read is what the whole input comes to.
-- Assumes nothing.
use mathlib.Core.Path.{◌≡◌, refl, sym, ap, ◌∙◌, subst}
use mathlib.Core.List.{List, [], ◌++◌, append-nil}
use Prim.Native.Nat.{ℕ, ◌≤◌, ◌<◌}
use native.Mathlib.Nat.{eq-or-lt_of_le}
use native.Mathlib.Omega.{arith}
use mathlib.Core.Logic.{inl, inr, ◌⊎◌}
use lib.ListN.{length, take, length-append}
use lib.Seq.{take_at, take_all}
use borrow.Author.Tests.{le-leb}
use Rattle.std.specs.Prelude.{Option, Some, None, IfSome}
use Rattle.std.specs.Io.KnownBytes.{Appends, Consumes, IsAtEnd}
use Rattle.runfile.specs.File.{read_file}
use Rattle.runfile.proofs.Longer.{longer_input}
use Rattle.replay.specs.Replay.{text_of}
use Rattle.show.specs.Show.{shown}

-- a space of this size has room for every text
shown_whole : (text : List ℕ) → length text ≤ 122894 → shown 122894 text ≡ text
unfolding shown
shown_whole text h = rw (le-leb _ _ h) refl

module _ (file : List ℕ) (n : ℕ) (size : 32965 ≡ length file) (inside : n ≤ length file) where
  -- what was read is judged as the whole input, whether it is all or the first 32,965 bytes of it
  same_file : (xs ys : List ℕ) → xs ≡ take n file ++ ys → (n < length file → ys ≡ []) → read_file (take n file) ≡ read_file xs
  same_file xs ys split rest = go (eq-or-lt_of_le inside)
    where
      go : (n ≡ length file) ⊎ (n < length file) → read_file (take n file) ≡ read_file xs
      go (inl e) =
          let all : take n file ≡ file = take_all n file (omega (arith, e)) in
          let whole : xs ≡ file ++ ys = split ∙ ap (λ l. l ++ ys) all in
          let front : take 32965 xs ≡ file = ap (take 32965) whole ∙ take_at file ys 32965 (sym size) in
          let long : 32965 ≤ length xs = omega (arith, size, ap length whole, length-append file ys) in
          ap read_file (all ∙ sym front) ∙ longer_input xs long
      go (inr l) = ap read_file (sym (split ∙ ap (λ l. take n file ++ l) (rest l) ∙ append-nil (take n file)))

  pub whole_text :
      (before after : Option (List ℕ)) → Consumes before after (take n file) → (n < length file → IsAtEnd after)
      → (old new : Option (List ℕ)) (space : List ℕ) → 122894 ≡ length space → length (text_of (read_file (take n file))) ≤ 122894
      → Appends old new (shown (length space) (text_of (read_file (take n file))))
      → IfSome before (λ xs. Appends old new (text_of (read_file xs)))
  whole_text None after split rest old new space room short written = tt
  whole_text (Some xs) None split rest old new space room short written = absurd split
  whole_text (Some xs) (Some ys) split rest old new space room short written =
      let text = text_of (read_file (take n file)) in
      let all : shown (length space) text ≡ text = ap (λ k. shown k text) (sym room) ∙ shown_whole text short in
      subst (Appends old new) (all ∙ ap text_of (same_file xs ys split rest)) written
