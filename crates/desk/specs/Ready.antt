-- What a step's desk has in a whole state: its cells are few, and what was written is a value.
-- Assumes nothing.
use Rattle.std.specs.Prelude.{List, ℕ, ◌≤◌, ◌<◌}
use Rattle.tables.specs.Pair.{word}
use Rattle.group.specs.State.{noted}

pub record Ready (cells : ℕ) (writes : List ℕ) : Type 0 where
  pub few : cells ≤ 32
  pub values : (t c : ℕ) → t < 32 → c < 32 → noted writes t c ≤ word
