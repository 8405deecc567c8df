-- Tests in their order, each with the refusal that is given where it fails: the first that fails counts.
-- Assumes nothing.
use Rattle.std.specs.Prelude.{Bool, cond, List, [], ◌∷◌, Option, None, Some}

-- the refusal of the first test that fails
unfoldable pub refusal : {R : Type 0} → List (Bool × R) → Option R
refusal [] = None
refusal (t ∷ ts) = cond t.0 (refusal ts) (Some t.1)
