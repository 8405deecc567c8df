-- Laws of lines of numbers.
-- Assumes nothing.
use mathlib.Core.Path.{◌≡◌, refl, sym}
use Prim.Native.Nat.{ℕ, ◌+◌, ◌*◌, ◌≤◌}
use mathlib.Core.List.{List, [], ◌∷◌, ◌++◌, append_assoc}
use native.Mathlib.Omega.{arith}
use lib.ListN.{length, length-append}
use Rattle.text.specs.Text.{decimal, line_of}
use Rattle.text.proofs.Digits.{decimal_size}

-- ---- lines

pub line_size_any : (n : ℕ) (ns : List ℕ) → length (line_of (n ∷ ns)) ≤ 11 * length (n ∷ ns)
unfolding line_of
line_size_any n [] = omega (arith, length-append (decimal n) (10 ∷ []), decimal_size n)
line_size_any n (m ∷ ns) = omega (arith, length-append (decimal n) (32 ∷ line_of (m ∷ ns)), decimal_size n, line_size_any m ns)

pub line_size : (a b c d : ℕ) → length (line_of (a ∷ b ∷ c ∷ d ∷ [])) ≤ 44
line_size a b c d = line_size_any a (b ∷ c ∷ d ∷ [])

-- the first number of a line, and the rest
pub line_one : (n : ℕ) → line_of (n ∷ []) ≡ decimal n ++ (10 ∷ [])
unfolding line_of
line_one n = refl

pub line_more : (n m : ℕ) (ns : List ℕ) → line_of (n ∷ m ∷ ns) ≡ (decimal n ++ (32 ∷ [])) ++ line_of (m ∷ ns)
unfolding line_of
line_more n m ns = sym (append_assoc (decimal n) (32 ∷ []) (line_of (m ∷ ns)))

-- each number with the byte that closes it
pub line_parts :
    (a b c d : ℕ)
    → line_of (a ∷ b ∷ c ∷ d ∷ []) ≡ (((decimal a ++ (32 ∷ [])) ++ (decimal b ++ (32 ∷ []))) ++ (decimal c ++ (32 ∷ []))) ++ (decimal d ++ (10 ∷ []))
unfolding line_of
line_parts a b c d = simp append_assoc

pub line_length :
    (a b c d : ℕ)
    → length (line_of (a ∷ b ∷ c ∷ d ∷ [])) ≡ length (decimal a) + length (decimal b) + length (decimal c) + length (decimal d) + 4
line_length a b c d = simp (line_more, line_one, length-append) (omega arith)
