-- Laws of flight entries.
-- Assumes nothing.
use mathlib.Core.Path.{◌≡◌, ap, ◌∙◌}
use mathlib.Core.Bool.{false}
use mathlib.Core.List.{List}
use Prim.Native.Nat.{ℕ, ◌/◌, ◌<◌}
use native.Mathlib.Omega.{arith}
use lib.ListN.{length}
use Rattle.tables.specs.Pair.{pair, word}
use Rattle.tables.proofs.Table.{put_same}
use Rattle.tables.proofs.Pair.{pair_high}
use Rattle.group.specs.State.{finished, tag_at, entered, unfinished}

-- an entry that is made finished is unfinished no more
pub dropped : (flight : List ℕ) (t n : ℕ) → pair 8 t n < length flight → unfinished (entered flight t n finished 0) t n ≡ false
unfolding unfinished
dropped flight t n l =
    let z : tag_at (entered flight t n finished 0) t n ≡ 5 = ap (◌/ word) (put_same flight (pair 8 t n) (pair word 5 0) 0 l) ∙ pair_high word 5 0 (omega arith) in
    rw z
