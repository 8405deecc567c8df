-- Little-endian numbers in bytes: what number stands at a place, and what bytes become where a number is stored. A number has up to 4 bytes.
-- Assumes nothing.
use Rattle.std.specs.Prelude.{◌≡◌, ℕ, zero, suc, ◌+◌, ◌*◌, ◌/◌, ◌%◌, min, Bool, cond, ◌&&◌, List, [], ◌∷◌, Option, None, Some, leb, length, take, drop}
use Rattle.std.proofs.lemmas.List.Edits.{sets}
use Rattle.std.specs.Borrow.{Bor}

-- the number that bytes stand for, the least byte first
unfoldable pub little : List ℕ → ℕ
little [] = 0
little (b ∷ bs) = b + 256 * little bs

-- the k least bytes of x, the least first
unfoldable pub digits : ℕ → ℕ → List ℕ
digits zero x = []
digits (suc k) x = x % 256 ∷ digits k (x / 256)

-- do k bytes from the place i on make a number, where there are len bytes: they are wholly there, and no more than 4
unfoldable pub fits : ℕ → ℕ → ℕ → Bool
fits len i k = leb k 4 && leb (i + k) len

-- the number of the k bytes at a place; none where they are not wholly there
unfoldable pub number_at : List ℕ → ℕ → ℕ → Option ℕ
number_at s i k = cond (fits (length s) i k) (Some (little (take k (drop i s)))) None

-- the place past k bytes; the same place where they are not wholly there
unfoldable pub place_after : ℕ → ℕ → ℕ → ℕ
place_after len i k = cond (fits len i k) (i + k) i

-- the bytes out with the k least bytes of x at a place; out itself where they do not fit
unfoldable pub stored : List ℕ → ℕ → ℕ → ℕ → List ℕ
stored out i k x = cond (fits (length out) i k) (sets out i (digits k x)) out

-- r is that very part of s from the place i on, and empty at the end of s where i lies past it
pub record Tail (s : Bor (List ℕ)) (i : ℕ) (r : Bor (List ℕ)) : Type 0 where
  pub bytes : r.now ≡ drop i s.now
  pub block : r.ref_ptr.0 ≡ s.ref_ptr.0
  pub offset : r.ref_ptr.1 ≡ s.ref_ptr.1 + min i (length s.now)
