-- Laws for the code that places bytes: a word copied into its part, and digits filled in from the last one back.
-- Assumes nothing.
use mathlib.Core.Path.{◌≡◌, refl, sym, ap, ◌∙◌}
use Prim.Native.Nat.{ℕ, zero, suc, ◌+◌, ◌-◌, ◌/◌, ◌%◌, ◌^◌, ◌≤◌, ◌<◌}
use mathlib.Core.List.{List, [], ◌∷◌, ◌++◌, append_assoc}
use native.Mathlib.Omega.{arith}
use lib.ListN.{length, set, length-append}
use lib.Seq.{drop-drop, sets, sets-eq}
use borrow.Rule.Slice.PartMut.{put_mid}
use borrow.Author.Tests.{lt-ltb}
use Rattle.text.specs.Text.{digit, decimal_in, decimal, placed}
use Rattle.text.proofs.Digits.{decimal_more, decimal_size_more, by_digits}
use Rattle.text.proofs.Placed.{sets_append, sets_swap, placed_in}

-- bytes copied into a part of as many
pub part_placed : (out : List ℕ) (i : ℕ) (bs : List ℕ) → i + length bs ≤ length out → put_mid i (i + length bs - i) out bs ≡ sets out i bs
part_placed out i bs h =
    let e : i + length bs - i ≡ length bs = omega arith in
    rw (e, sets-eq bs out i h, drop-drop, append_assoc)

-- n in just j digits
unfoldable pub digits_in : ℕ → ℕ → List ℕ
digits_in zero n = []
digits_in (suc j) n = digits_in j (n / 10) ++ (digit (n % 10) ∷ [])

digits_size : (j n : ℕ) → length (digits_in j n) ≡ j
unfolding digits_in
digits_size zero n = refl
digits_size (suc j) n = length-append (digits_in j (n / 10)) (digit (n % 10) ∷ []) ∙ omega (arith, digits_size j (n / 10))

digits_all_in : (k n : ℕ) → n < 10 ^ k → decimal_in k n ≡ digits_in (length (decimal_in k n)) n
unfolding digits_in decimal_in
digits_all_in zero n h = refl
digits_all_in (suc k) n h =
    by_digits n (λ l. let e : n % 10 ≡ n = omega arith in rw (lt-ltb n 10 l, e))
    (λ l. let e : length (decimal_in (suc k) n) ≡ suc (length (decimal_in k (n / 10))) = omega (arith, decimal_size_more k n l) in
    decimal_more k n l ∙ ap (λ (ds : List ℕ). ds ++ (digit (n % 10) ∷ [])) (digits_all_in k (n / 10) (omega arith)) ∙ rw e)

pub digits_all : (n : ℕ) → n < 10 ^ 10 → decimal n ≡ digits_in (length (decimal n)) n
unfolding decimal
digits_all n h = digits_all_in 10 n h

-- what comes out once the first j digits are stored, where those past them stand in out already and n is the number without them
unfoldable pub with_first : List ℕ → ℕ → ℕ → ℕ → List ℕ
with_first out p j n = sets out p (digits_in j n)

module _ (out : List ℕ) (p : ℕ) where
  pub first_all : (k n : ℕ) → n < 10 ^ 10 → k ≡ length (decimal n) → p + k ≤ length out → placed out p (decimal n) ≡ with_first out p k n
  unfolding with_first
  first_all k n h e l = placed_in out p (decimal n) (rw e at l) ∙ ap (sets out p) (digits_all n h ∙ ap (λ (j : ℕ). digits_in j n) (sym e))

  pub first_next : (j n : ℕ) → 0 < j → with_first out p j n ≡ with_first (set out (p + (j - 1)) (48 + n % 10)) p (j - 1) (n / 10)
  unfolding with_first digits_in
  first_next zero n h = absurd (omega arith)
  first_next (suc j) n h =
      let m = digits_size j (n / 10) in
      let e : suc j - 1 ≡ j = omega arith in
      sets_append (digits_in j (n / 10)) (digit (n % 10) ∷ []) out p
      ∙ rw (m, e) (sets_swap (digits_in j (n / 10)) out p (p + j) (48 + n % 10) (omega arith))

  pub first_none : (n : ℕ) → with_first out p 0 n ≡ out
  unfolding with_first digits_in
  first_none n = refl
