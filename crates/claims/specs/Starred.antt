-- The examples that the paper stars, as one list.
-- Assumes nothing.
use Rattle.std.specs.Prelude.{List, [], ◌∷◌, None, Some}
use Rattle.group.specs.State.{State}
use Rattle.group.specs.Answer.{says}
use Rattle.fresh.specs.Fresh.{fresh}
use Rattle.claims.specs.Runs.{st}
use Rattle.claims.specs.Example.{Example, faults, proposes, runs}

-- counters 5, 4, 0; one cell on nodes 0 and 1, another on nodes 1 and 2
abbrev pub three : State
three = fresh 3 2 (5 ∷ 4 ∷ 0 ∷ 0 ∷ 0 ∷ 0 ∷ 0 ∷ 0 ∷ []) (3 ∷ 6 ∷ []) []

-- T0 writes the one, T1 the other, and node 1 proposes to both
abbrev pub finals : Example
finals =
    runs three
    (st 1 0 0 0 1
    ∷ st 2 0 0 0 11
    ∷ st 6 0 0 0 0
    ∷ st 1 1 1 0 1
    ∷ st 2 1 0 1 12
    ∷ st 6 1 0 0 0
    ∷ st 7 0 1 0 0
    ∷ st 7 1 1 0 0
    ∷ st 7 0 0 0 0
    ∷ st 7 1 2 0 0
    ∷ st 8 0 0 0 0
    ∷ st 8 1 0 0 0
    ∷ [])
    (says 0 0 0
    ∷ says 0 0 0
    ∷ says 0 0 0
    ∷ says 0 0 0
    ∷ says 0 0 0
    ∷ says 0 0 0
    ∷ says 3 9 0
    ∷ says 3 17 0
    ∷ says 3 8 0
    ∷ says 3 2 0
    ∷ says 5 9 0
    ∷ says 5 17 0
    ∷ [])

abbrev pub starred : List Example
starred =
    proposes 0 0 (Some 8)
    ∷ proposes 1 0 (Some 1)
    ∷ proposes 3 2 (Some 3)
    ∷ proposes 3 3 (Some 11)
    ∷ proposes 3 10 (Some 11)
    ∷ proposes 7 4294967294 (Some 4294967295)
    ∷ proposes 7 4294967295 None
    ∷ proposes 0 4294967288 None
    ∷ proposes 0 4294967287 (Some 4294967288)
    ∷ finals
    ∷ faults [] 32
    ∷ faults (0 ∷ []) 33
    ∷ faults (9 ∷ []) 33
    ∷ []
