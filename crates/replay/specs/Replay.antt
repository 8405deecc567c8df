-- What the run program prints for a file, byte for byte.
-- Assumes nothing.
use Rattle.std.specs.Prelude.{List, [], ◌∷◌, ◌++◌, ℕ}
use Rattle.text.specs.Text.{line_of}
use Rattle.runfile.specs.declared.Head.{Head}
use Rattle.runfile.specs.File.{File, Read, code_of, got, fault}
use Rattle.runfile.specs.Head.{head_of}
use Rattle.listing.specs.Listing.{lines_from, fresh_of}

-- "run " and "refused "
abbrev pub run_word : List ℕ
run_word = 114 ∷ 117 ∷ 110 ∷ 32 ∷ []

abbrev pub refused_word : List ℕ
refused_word = 114 ∷ 101 ∷ 102 ∷ 117 ∷ 115 ∷ 101 ∷ 100 ∷ 32 ∷ []

-- a run's counts
unfoldable pub front_of : Head → List ℕ
front_of h = run_word ++ line_of (h.nodes ∷ h.cells ∷ h.steps ∷ [])

-- of a faulty file only the fault's number
unfoldable pub refused_text : ℕ → List ℕ
refused_text c = refused_word ++ line_of (c ∷ [])

-- a sound file's counts, and the lines of its run from fresh
unfoldable pub text_of : Read File → List ℕ
text_of (got f rest) = front_of (head_of f) ++ lines_from 0 (fresh_of (head_of f)) f.steps
text_of (fault c) = refused_text (code_of c)
