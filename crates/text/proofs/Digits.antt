-- Laws of decimal numbers, for code, and for whoever reads what was written.
-- Assumes nothing.
use mathlib.Core.Path.{◌≡◌, refl, sym, ap, ◌∙◌}
use Prim.Native.Nat.{ℕ, zero, suc, ◌+◌, ◌*◌, ◌-◌, ◌/◌, ◌%◌, ◌^◌, ◌≤◌, ◌<◌, max}
use mathlib.Core.List.{List, [], ◌∷◌, ◌++◌}
use native.Mathlib.Nat.{one-le-pow}
use native.Mathlib.Omega.{arith}
use lib.Dec.{ltb}
use lib.ListN.{length, get_or, length-append, get_or-append}
use borrow.Author.Tests.{lt-ltb, le-ltb, ltb-true, ltb-false}
use Rattle.tables.proofs.Choice.{by_test}
use Rattle.text.specs.Text.{digit, decimal_in, decimal, line_of}

-- ---- examples

pub decimal_0 : decimal 0 ≡ 48 ∷ []
unfolding decimal decimal_in
decimal_0 = refl

pub decimal_10 : decimal 10 ≡ 49 ∷ 48 ∷ []
unfolding decimal decimal_in
decimal_10 = refl

pub decimal_top : decimal 4294967295 ≡ 52 ∷ 50 ∷ 57 ∷ 52 ∷ 57 ∷ 54 ∷ 55 ∷ 50 ∷ 57 ∷ 53 ∷ []
unfolding decimal decimal_in
decimal_top = refl

-- 14 0 8 0
pub line_example : line_of (14 ∷ 0 ∷ 8 ∷ 0 ∷ []) ≡ 49 ∷ 52 ∷ 32 ∷ 48 ∷ 32 ∷ 56 ∷ 32 ∷ 48 ∷ 10 ∷ []
unfolding line_of decimal decimal_in
line_example = refl

-- ---- the digits of a number

module _ (k n : ℕ) where
  pub decimal_one : n < 10 → decimal_in (suc k) n ≡ digit n ∷ []
  unfolding decimal_in
  decimal_one h = rw (lt-ltb n 10 h)

  pub decimal_more : 10 ≤ n → decimal_in (suc k) n ≡ decimal_in k (n / 10) ++ (digit (n % 10) ∷ [])
  unfolding decimal_in
  decimal_more h = rw (le-ltb n 10 h)

  pub decimal_size_one : n < 10 → length (decimal_in (suc k) n) ≡ 1
  decimal_size_one h = ap length (decimal_one h)

  pub decimal_size_more : 10 ≤ n → length (decimal_in (suc k) n) ≡ length (decimal_in k (n / 10)) + 1
  decimal_size_more h = ap length (decimal_more h) ∙ length-append (decimal_in k (n / 10)) (digit (n % 10) ∷ [])

-- the two cases of a number
pub by_digits {ℓ} : {A : Type ℓ} (n : ℕ) → (n < 10 → A) → (10 ≤ n → A) → A
by_digits n f g = by_test (ltb n 10) (λ e. f (ltb-true n 10 e)) (λ e. g (ltb-false n 10 e))

decimal_size_in : (k n : ℕ) → length (decimal_in k n) ≤ k
unfolding decimal_in
decimal_size_in zero n = omega arith
decimal_size_in (suc k) n =
    by_digits n (λ h. omega (arith, decimal_size_one k n h)) (λ h. omega (arith, decimal_size_more k n h, decimal_size_in k (n / 10)))

decimal_some_in : (k n : ℕ) → 1 ≤ length (decimal_in (suc k) n)
decimal_some_in k n = by_digits n (λ h. omega (arith, decimal_size_one k n h)) (λ h. omega (arith, decimal_size_more k n h))

pub decimal_size : (n : ℕ) → (1 ≤ length (decimal n)) × (length (decimal n) ≤ 10)
unfolding decimal
decimal_size n = (decimal_some_in 9 n, decimal_size_in 10 n)

short_in : (k j n : ℕ) → n < 10 ^ suc j → length (decimal_in k n) ≤ suc j
unfolding decimal_in
short_in zero j n h = omega arith
short_in (suc k) zero n h = omega (arith, decimal_size_one k n (omega arith))
short_in (suc k) (suc j) n h =
    by_digits n (λ l. omega (arith, decimal_size_one k n l)) (λ l. omega (arith, decimal_size_more k n l, short_in k j (n / 10) (omega arith)))

-- a number below ten, a hundred, .. has one digit, two, ..
pub decimal_short : (j n : ℕ) → n < 10 ^ suc j → length (decimal n) ≤ suc j
unfolding decimal
decimal_short j n h = short_in 10 j n h

long_in : (k j n : ℕ) → 10 ^ j ≤ n → j < k → suc j ≤ length (decimal_in k n)
long_in zero j n h l = absurd (omega arith)
long_in (suc k) zero n h l = decimal_some_in k n
long_in (suc k) (suc j) n h l =
    by_digits n (λ m. absurd (omega (arith, one-le-pow j 10 (omega arith)))) (λ m. omega (arith, decimal_size_more k n m, long_in k j (n / 10) (omega arith) (omega arith)))

-- how many digits that makes, by the power of ten below
pub decimal_log : (j n : ℕ) → 10 ^ j ≤ max n 1 → max n 1 < 10 * 10 ^ j → j < 10 → length (decimal n) ≡ j + 1
unfolding decimal
decimal_log zero n h l m = omega (arith, decimal_size n, decimal_short 0 n (omega arith))
decimal_log (suc j) n h l m =
    let p = one-le-pow j 10 (omega arith) in
    omega (arith, p, decimal_short (suc j) n (omega (arith, p)), long_in 10 (suc j) n (omega (arith, p)) m)

-- ---- a number read back from its digits

-- what bytes stand for, where v was read before them
unfoldable pub value_from : ℕ → List ℕ → ℕ
value_from v [] = v
value_from v (b ∷ bs) = value_from (10 * v + (b - 48)) bs

value_last : (v b : ℕ) (bs : List ℕ) → value_from v (bs ++ (b ∷ [])) ≡ 10 * value_from v bs + (b - 48)
unfolding value_from
value_last v b [] = refl
value_last v b (a ∷ bs) = value_last (10 * v + (a - 48)) b bs

value_in : (k n : ℕ) → n < 10 ^ k → value_from 0 (decimal_in k n) ≡ n
unfolding value_from decimal_in
value_in zero n h = omega arith
value_in (suc k) n h =
    by_digits n (λ l. rw (lt-ltb n 10 l) (omega arith))
    (λ l. rw (le-ltb n 10 l, value_last 0 (digit (n % 10)) (decimal_in k (n / 10))) (omega (arith, value_in k (n / 10) (omega arith))))

pub decimal_value : (n : ℕ) → n < 10 ^ 10 → value_from 0 (decimal n) ≡ n
unfolding decimal
decimal_value n h = value_in 10 n h

-- no two numbers have the same digits
pub decimal_only : (m n : ℕ) → m < 10 ^ 10 → n < 10 ^ 10 → decimal m ≡ decimal n → m ≡ n
decimal_only m n h l e = sym (decimal_value m h) ∙ ap (value_from 0) e ∙ decimal_value n l

-- no leading zeros
first_in : (k n : ℕ) → n < 10 ^ k → get_or (decimal_in k n) 0 0 ≡ 48 → n ≡ 0
first_in zero n h e = omega arith
first_in (suc zero) n h e = let l : n < 10 = omega arith in omega (arith, rw (decimal_one 0 n l) at e)
first_in (suc (suc k)) n h e =
    by_digits n (λ l. omega (arith, rw (decimal_one (suc k) n l) at e))
    (λ l. let f = decimal_some_in k (n / 10) in
    let q = rw (decimal_more (suc k) n l, get_or-append (decimal_in (suc k) (n / 10)) (digit (n % 10) ∷ []) 0 0 f) at e in
    let z = first_in (suc k) (n / 10) (omega arith) q in
    omega arith)

pub decimal_first : (n : ℕ) → n < 10 ^ 10 → get_or (decimal n) 0 0 ≡ 48 → n ≡ 0
unfolding decimal
decimal_first n h e = first_in 10 n h e
