-- Chains of versions, in two tables: how many versions the chain of cell c at node n has, and the versions, oldest first, each a number
-- above a value.
-- Assumes nothing.
use Rattle.std.specs.Prelude.{ℕ, ◌+◌, ◌-◌, ◌/◌, ◌%◌, Bool, cond, ◌&&◌, List, ltb, leb, eqb, Option, option_map}
use Rattle.tables.specs.Table.{at, put}
use Rattle.tables.specs.Pair.{pair, word}
use Rattle.tables.specs.Loop.{last_at}
use Rattle.chain.specs.declared.Version.{Version}
use Rattle.chain.specs.declared.Chains.{Chains}

-- a version from the word that holds it
abbrev pub unpacked : ℕ → Version
unpacked x = record { number = x / word; value = x % word }

-- the entry of the chain of cell c at node n in the table of lengths; 9, which no chain has, where there is no such cell or node
unfoldable pub len_at : List ℕ → ℕ → ℕ → ℕ
len_at lens c n = cond (ltb c 32 && ltb n 8) (at lens (pair 8 c n) 0) 9

-- how many versions a chain has: up to 8, and none where the table has no length of a chain
unfoldable pub size : List ℕ → ℕ → ℕ → ℕ
size lens c n = cond (leb (len_at lens c n) 8) (len_at lens c n) 0

-- version i of a chain, from the oldest on
unfoldable pub version_at : List ℕ → ℕ → ℕ → ℕ → Version
version_at versions c n i = unpacked (at versions (pair 8 (pair 8 c n) i) 0)

-- the newest version numbered at or below s
unfoldable pub newest : List ℕ → List ℕ → ℕ → ℕ → ℕ → Option Version
newest lens versions c n s =
    option_map (version_at versions c n) (last_at (size lens c n) (λ i. leb (version_at versions c n i).number s))

-- the number of the newest version; 0 where there is none
unfoldable pub latest : List ℕ → List ℕ → ℕ → ℕ → ℕ
latest lens versions c n = cond (eqb (size lens c n) 0) 0 (version_at versions c n (size lens c n - 1)).number

-- is there a place for one more version
unfoldable pub has_room : List ℕ → ℕ → ℕ → Bool
has_room lens c n = ltb (len_at lens c n) 8

-- the two tables together
abbrev pub chains : List ℕ → List ℕ → Chains
chains ls vs = record { lens = ls; versions = vs }

-- the chain with one version more, as its newest; unchanged where it has no room
unfoldable pub added : Chains → ℕ → ℕ → ℕ → ℕ → Chains
added h c n number value =
    cond (has_room h.lens c n)
    (chains (put h.lens (pair 8 c n) (len_at h.lens c n + 1)) (put h.versions (pair 8 (pair 8 c n) (len_at h.lens c n)) (pair word number value)))
    h
