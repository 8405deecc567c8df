-- Faults, computed from the definitions.
-- Assumes nothing.
use mathlib.Core.Path.{◌≡◌, refl}
use mathlib.Core.List.{List, [], ◌∷◌}
use Prim.Native.Nat.{ℕ}
use native.Mathlib.Omega.{arith}
use lib.ListN.{length}
use borrow.Author.Tests.{le-leb}
use Rattle.runfile.specs.declared.Fault.TheVariants.{Short, Count}
use Rattle.little.specs.Little.{little}
use Rattle.runfile.specs.File.{fault, read_bytes, read_count, read_file}

-- no byte at all: the node count isn't there
pub nothing_there : read_file [] ≡ fault Short
unfolding read_file read_count read_bytes
nothing_there = refl

-- a node count of 0, and one of 9, whatever follows
pub no_nodes : (rest : List ℕ) → read_file (0 ∷ rest) ≡ fault Count
unfolding read_file read_count read_bytes little
no_nodes rest = rw (le-leb 1 (length {A = ℕ} (0 ∷ rest)) (omega arith))

pub nine_nodes : (rest : List ℕ) → read_file (9 ∷ rest) ≡ fault Count
unfolding read_file read_count read_bytes little
nine_nodes rest = rw (le-leb 1 (length {A = ℕ} (9 ∷ rest)) (omega arith))
