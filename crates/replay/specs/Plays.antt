-- What the contracts of the replay's parts cite.
-- Assumes nothing.
use Rattle.std.specs.Prelude.{List, ℕ, ◌+◌, ◌≤◌, length}
use Rattle.runfile.specs.declared.Head.{Head}
use Rattle.listing.specs.Listing.{fresh_of}
use Rattle.listing.specs.Going.{lines_to, Goes}
use Rattle.replay.specs.Replay.{front_of}

-- a run from fresh that can be gone through so, and whose text has at most so many bytes
pub record Plays (h : Head) (part : List ℕ) : Type 0 where
  pub goes : Goes (fresh_of h) part h.steps
  pub longest : length (front_of h) + length (lines_to (fresh_of h) part h.steps) ≤ 122894
