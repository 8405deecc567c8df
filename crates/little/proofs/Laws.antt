-- Laws of little-endian numbers, over the width: for code, and for whoever reads back what was stored.
-- Assumes nothing.
use mathlib.Core.Path.{◌≡◌, refl, sym, ap, ap₂, ◌∙◌}
use Prim.Native.Nat.{ℕ, zero, suc, ◌+◌, ◌*◌, ◌-◌, ◌/◌, ◌%◌, ◌^◌, ◌≤◌, ◌<◌}
use mathlib.Core.Bool.{true, false, ◌&&◌}
use mathlib.Core.List.{List, [], ◌∷◌, ◌++◌, append_assoc}
use Rattle.std.specs.Prelude.{Some, None}
use native.Mathlib.Nat.{add-zero, sub-zero, pow-succ', pow-le-pow_right}
use native.Mathlib.Omega.{arith}
use lib.Dec.{leb, lit<}
use lib.ListN.{length, take, drop, get_or, set, length-take, length-drop}
use lib.Seq.{take_at, drop_at, take-set-le, drop-set-lt, drop-cons, get_or-take, get_or-drop, length-take-le, sets, sets-eq, length-sets}
use borrow.Author.Tests.{le-leb, lt-leb, leb-true, leb-false}
use Rattle.tables.specs.Table.{at}
use Rattle.tables.proofs.Choice.{by_test, and_true}
use Rattle.little.specs.Little.{little, digits, fits, number_at, place_after, stored}

-- ---- a number and its bytes

pub digits_size : (k x : ℕ) → length (digits k x) ≡ k
unfolding digits
digits_size zero x = refl
digits_size (suc k) x = ap suc (digits_size k (x / 256))

-- what fits into k bytes comes back
pub little_digits : (k x : ℕ) → x < 256 ^ k → little (digits k x) ≡ x
unfolding little digits
little_digits zero x h = omega arith
little_digits (suc k) x h = omega (arith, little_digits k (x / 256) (omega arith))

-- each is below 256
abbrev pub Bytes : List ℕ → Type 0
Bytes bs = (i : ℕ) → i < length bs → at bs i 0 < 256

pub digits_bytes : (k x : ℕ) → Bytes (digits k x)
unfolding digits at
digits_bytes zero x i h = absurd (omega arith)
digits_bytes (suc k) x zero h = omega arith
digits_bytes (suc k) x (suc i) h = digits_bytes k (x / 256) i (omega arith)

bytes_head : (b : ℕ) (bs : List ℕ) → Bytes (b ∷ bs) → b < 256
unfolding at
bytes_head b bs h = h 0 (omega arith)

bytes_tail : (b : ℕ) (bs : List ℕ) → Bytes (b ∷ bs) → Bytes bs
unfolding at
bytes_tail b bs h i l = h (suc i) (omega arith)

pub little_low : (bs : List ℕ) → Bytes bs → little bs < 256 ^ length bs
unfolding little
little_low [] h = omega arith
little_low (b ∷ bs) h =
    let e : 256 ^ length (b ∷ bs) ≡ 256 * 256 ^ length bs = pow-succ' 256 (length bs) in
    omega (arith, bytes_head b bs h, little_low bs (bytes_tail b bs h))

pub digits_little : (bs : List ℕ) → Bytes bs → digits (length bs) (little bs) ≡ bs
unfolding little digits
digits_little [] h = refl
digits_little (b ∷ bs) h =
    let l = bytes_head b bs h in
    let q : (b + 256 * little bs) / 256 ≡ little bs = omega arith in
    let r : (b + 256 * little bs) % 256 ≡ b = omega arith in
    rw (q, r) (ap (◌∷◌ b) (digits_little bs (bytes_tail b bs h)))

-- ---- the test

module _ (len i k : ℕ) where
  pub fits_in : k ≤ 4 → i + k ≤ len → fits len i k ≡ true
  unfolding fits
  fits_in h l = ap₂ ◌&&◌ (le-leb k 4 h) (le-leb (i + k) len l)

  pub fits_wide : 4 < k → fits len i k ≡ false
  unfolding fits
  fits_wide h = rw (lt-leb k 4 h)

  pub fits_past : k ≤ 4 → len < i + k → fits len i k ≡ false
  unfolding fits
  fits_past h l = ap₂ ◌&&◌ (le-leb k 4 h) (lt-leb (i + k) len l)

  pub fits_true : fits len i k ≡ true → (k ≤ 4) × (i + k ≤ len)
  unfolding fits
  fits_true e = let r = and_true (leb k 4) (leb (i + k) len) e in (leb-true k 4 r.0, leb-true (i + k) len r.1)

  -- as code tests it, with no sum that could wrap
  pub fits_last : k ≤ 4 → k ≤ len → leb i (len - k) ≡ fits len i k
  fits_last h l =
      by_test (leb i (len - k)) (λ e. e ∙ sym (fits_in h (omega (arith, leb-true)))) (λ e. e ∙ sym (fits_past h (omega (arith, leb-false))))

  pub after_in : fits len i k ≡ true → place_after len i k ≡ i + k
  unfolding place_after
  after_in e = rw e

  pub after_out : fits len i k ≡ false → place_after len i k ≡ i
  unfolding place_after
  after_out e = rw e

-- ---- reading, from the top byte down

module _ (s : List ℕ) (i k : ℕ) where
  pub number_in : fits (length s) i k ≡ true → number_at s i k ≡ Some (little (take k (drop i s)))
  unfolding number_at
  number_in e = rw e

  pub number_out : fits (length s) i k ≡ false → number_at s i k ≡ None
  unfolding number_at
  number_out e = rw e

  -- what the k bytes without the first j stand for
  unfoldable pub high : ℕ → ℕ
  high j = little (take (k - j) (drop (i + j) s))

  pub high_none : high k ≡ 0
  unfolding high little
  high_none = let e : k - k ≡ 0 = omega arith in rw e

  pub high_next : (j : ℕ) → 0 < j → j ≤ k → i + k ≤ length s → high (j - 1) ≡ get_or s (i + (j - 1)) 0 + 256 * high j
  unfolding high little
  high_next j p h l =
      let e : k - (j - 1) ≡ suc (k - j) = omega arith in
      let f : i + j ≡ suc (i + (j - 1)) = omega arith in
      let b : i + (j - 1) < length s = omega arith in
      rw (e, f, drop-cons s (i + (j - 1)) 0 b)

  pub high_all : fits (length s) i k ≡ true → number_at s i k ≡ Some (high 0)
  unfolding high
  high_all e = rw (add-zero i, sub-zero k) (number_in e)

pub bytes_part : (s : List ℕ) (i k : ℕ) → Bytes s → Bytes (take k (drop i s))
unfolding at
bytes_part s i k h j l =
    let m = length-take k (drop i s) in
    let n = length-drop i s in
    let p : j < k = omega arith in
    rw (get_or-take, get_or-drop) (h (i + j) (omega arith))

-- one byte more below x
pub low_next : (j k b x : ℕ) → 0 < j → j ≤ k → b < 256 → x < 256 ^ (k - j) → b + 256 * x < 256 ^ (k - (j - 1))
low_next j k b x p h l m = let e : k - (j - 1) ≡ suc (k - j) = omega arith in rw e (omega arith)

-- in 4 bytes there is room for one more than x takes
pub low_room : (j k x : ℕ) → 0 < j → k ≤ 4 → x < 256 ^ (k - j) → x < 16777216
low_room j k x p h l =
    let m : k - j ≤ 3 = omega arith in
    let q : 256 ^ (k - j) ≤ 256 ^ 3 = pow-le-pow_right (lit< tt) m in
    omega arith

-- ---- storing, from the least byte up

take_sets : (vs l : List ℕ) (i n : ℕ) → n ≤ i → take n (sets l i vs) ≡ take n l
take_sets [] l i n h = refl
take_sets (a ∷ vs) l i n h = take_sets vs (set l i a) (suc i) n (omega arith) ∙ take-set-le n l i a h

drop_sets : (vs l : List ℕ) (i n : ℕ) → i + length vs ≤ n → drop n (sets l i vs) ≡ drop n l
drop_sets [] l i n h = refl
drop_sets (a ∷ vs) l i n h = drop_sets vs (set l i a) (suc i) n (omega arith) ∙ drop-set-lt n l i a (omega arith)

module _ (out : List ℕ) (i k x : ℕ) where
  pub stored_in : fits (length out) i k ≡ true → stored out i k x ≡ sets out i (digits k x)
  unfolding stored
  stored_in e = rw e

  pub stored_out : fits (length out) i k ≡ false → stored out i k x ≡ out
  unfolding stored
  stored_out e = rw e

  pub stored_size : length (stored out i k x) ≡ length out
  stored_size = by_test (fits (length out) i k) (λ e. ap length (stored_in e) ∙ length-sets out i (digits k x)) (λ e. ap length (stored_out e))

  -- the bytes before it and past it stay
  pub stored_before : (n : ℕ) → n ≤ i → take n (stored out i k x) ≡ take n out
  stored_before n h =
      by_test (fits (length out) i k) (λ e. ap (take n) (stored_in e) ∙ take_sets (digits k x) out i n h) (λ e. ap (take n) (stored_out e))

  pub stored_past : (n : ℕ) → i + k ≤ n → drop n (stored out i k x) ≡ drop n out
  stored_past n h =
      by_test (fits (length out) i k) (λ e. ap (drop n) (stored_in e) ∙ drop_sets (digits k x) out i n (omega (arith, digits_size k x)))
      (λ e. ap (drop n) (stored_out e))

  pub stored_parts : fits (length out) i k ≡ true → stored out i k x ≡ take i out ++ (digits k x ++ drop (i + k) out)
  stored_parts e =
      let l = fits_true (length out) i k e in
      let m = digits_size k x in
      stored_in e ∙ sets-eq (digits k x) out i (omega arith) ∙ rw (m, append_assoc)

  -- it is read back
  pub number_stored : fits (length out) i k ≡ true → x < 256 ^ k → number_at (stored out i k x) i k ≡ Some x
  number_stored e h =
      let l = fits_true (length out) i k e in
      number_in (stored out i k x) i k (rw stored_size e)
      ∙ ap Some (rw (
        stored_parts e,
        drop_at (take i out) (digits k x ++ drop (i + k) out) i (length-take-le i out (omega arith)),
        take_at (digits k x) (drop (i + k) out) k (digits_size k x),
      ) (little_digits k x h))

  -- what comes out once the rest is stored, where j of the k bytes stand in out already and x is the number without them
  unfoldable pub with_rest : ℕ → List ℕ
  with_rest j = sets out (i + j) (digits (k - j) x)

  pub rest_none : with_rest k ≡ out
  unfolding with_rest digits
  rest_none = let e : k - k ≡ 0 = omega arith in rw e

  pub rest_all : fits (length out) i k ≡ true → stored out i k x ≡ with_rest 0
  unfolding with_rest
  rest_all e = rw (add-zero i, sub-zero k) (stored_in e)

pub rest_next : (out : List ℕ) (i k x j : ℕ) → j < k → with_rest out i k x j ≡ with_rest (set out (i + j) (x % 256)) i k (x / 256) (j + 1)
unfolding with_rest digits
rest_next out i k x j h =
    let e : k - j ≡ suc (k - (j + 1)) = omega arith in
    let f : i + (j + 1) ≡ suc (i + j) = omega arith in
    rw (e, f)
