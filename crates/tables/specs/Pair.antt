-- Two numbers in one, the second below w: the place of entry j of row i in a table whose rows have w entries, or a tag i above a number j.
-- `pair w i j / w` is i again, and `pair w i j % w` is j.
-- Assumes nothing.
use Rattle.std.specs.Prelude.{ℕ, ◌+◌, ◌*◌}

abbrev pub pair : ℕ → ℕ → ℕ → ℕ
pair w i j = i * w + j

-- numbers and values have 32 bits, so that a word holds two of them: a tag or a number, times this, and a number or a value
abbrev pub word : ℕ
word = 4294967296
