-- Bytes that are read into a space behind those that it holds.
-- Assumes nothing.
use mathlib.Core.Path.{◌≡◌, sym, ap, ◌∙◌, subst}
use mathlib.Core.List.{List, ◌++◌}
use Prim.Native.Nat.{ℕ, ◌+◌, ◌≤◌}
use native.Mathlib.Omega.{arith}
use lib.ListN.{length, take, length-append}
use lib.Seq.{take-append-add, take-append-le, length-take-le}
use borrow.Rule.Slice.PartMut.{put_mid, post_of}
use Rattle.std.specs.Prelude.{Option}
use Rattle.std.specs.Io.KnownBytes.{Consumes}
use Rattle.std.proofs.KnownBytes.{Consumes-trans}

module _ (space part : List ℕ) (done room n : ℕ) (inside : done ≤ length space) (fits : n ≤ length part) where
  -- the front of the space grows by the front of the part
  pub front_grows : take (done + n) (put_mid done room space part) ≡ take done space ++ take n part
  front_grows =
      ap (λ (k : ℕ). take (k + n) (put_mid done room space part)) (sym (length-take-le done space inside)) ∙ take-append-add (take done space) _ n
      ∙ ap (λ (l : List ℕ). take done space ++ l) (take-append-le n part _ fits)

  pub front_inside : done + n ≤ length (put_mid done room space part)
  front_inside =
      let rest = post_of done room space in
      omega (arith, inside, fits, length-take-le done space inside, length-append (take done space) (part ++ rest), length-append part rest)

  -- and so does what the input lost
  pub lost_grows :
      (known mid new : Option (List ℕ)) → Consumes known mid (take done space) → Consumes mid new (take n part)
      → Consumes known new (take (done + n) (put_mid done room space part))
  lost_grows known mid new before read = subst (Consumes known new) (sym front_grows) (Consumes-trans known mid new _ _ before read)
