-- Lines of decimal numbers, byte for byte, and what bytes become where others are placed among them.
-- Assumes nothing.
use Rattle.std.specs.Prelude.{ℕ, zero, suc, ◌+◌, ◌/◌, ◌%◌, cond, List, [], ◌∷◌, ◌++◌, ltb, leb, length}
use Rattle.std.proofs.lemmas.List.Edits.{sets}

-- the byte of a digit
abbrev pub digit : ℕ → ℕ
digit d = 48 + d

-- the digits of n, the first digit first, where it has at most k
unfoldable pub decimal_in : ℕ → ℕ → List ℕ
decimal_in zero n = []
decimal_in (suc k) n = cond (ltb n 10) (digit n ∷ []) (decimal_in k (n / 10) ++ (digit (n % 10) ∷ []))

-- the digits of n: a number of 32 bits has at most 10
unfoldable pub decimal : ℕ → List ℕ
decimal n = decimal_in 10 n

-- numbers with one blank between, closed by a newline
unfoldable pub line_of : List ℕ → List ℕ
line_of [] = 10 ∷ []
line_of (n ∷ []) = decimal n ++ (10 ∷ [])
line_of (n ∷ m ∷ ns) = decimal n ++ (32 ∷ line_of (m ∷ ns))

-- out with the bytes at the place i; out itself where they do not fit
unfoldable pub placed : List ℕ → ℕ → List ℕ → List ℕ
placed out i bytes = cond (leb (i + length bytes) (length out)) (sets out i bytes) out

-- the place past the bytes at the place i, of len places; i itself where they do not fit
unfoldable pub after : ℕ → ℕ → List ℕ → ℕ
after len i bytes = cond (leb (i + length bytes) len) (i + length bytes) i
