-- What is printed of a text.
-- Assumes nothing.
use Rattle.std.specs.Prelude.{ℕ, List, [], cond, leb, length}

-- the text, or nothing where the space is too short for it
unfoldable pub shown : ℕ → List ℕ → List ℕ
shown space text = cond (leb (length text) space) text []
