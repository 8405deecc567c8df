-- Examples that pin the definitions where a weaker one would do for the serial statement.
-- Assumes nothing.
use Rattle.std.specs.Prelude.{true, List, [], ◌∷◌, ℕ, Some}
use Rattle.tables.specs.Table.{put}
use Rattle.kinds.specs.declared.Step.{Step}
use Rattle.group.specs.declared.Stage.TheVariants.{Served}
use Rattle.group.specs.State.{State}
use Rattle.group.specs.Answer.{Said, says}
use Rattle.fresh.specs.Fresh.{fresh}
use Rattle.claims.specs.Runs.{st}
use Rattle.claims.specs.Example.{Example, runs, inner, leaves}

-- two nodes; both hold cell 0, node 1 holds cell 1
abbrev pub two : List ℕ → State
two counters = fresh 2 2 counters (3 ∷ 2 ∷ []) (10 ∷ 20 ∷ [])

abbrev zero : List ℕ
zero = 0 ∷ 0 ∷ 0 ∷ 0 ∷ 0 ∷ 0 ∷ 0 ∷ 0 ∷ []

-- the paper's run of two nodes and 24 steps
abbrev pub listing : Example
listing =
    inner (two zero)
    (st 1 0 0 0 1
    ∷ st 3 0 0 0 0
    ∷ st 4 0 0 0 0
    ∷ st 5 0 0 0 0
    ∷ st 2 0 0 0 11
    ∷ st 2 0 0 1 21
    ∷ st 6 0 0 0 0
    ∷ st 7 0 0 0 0
    ∷ st 7 0 1 0 0
    ∷ st 8 0 0 0 0
    ∷ st 10 0 0 0 0
    ∷ st 11 0 0 0 0
    ∷ st 1 1 0 0 0
    ∷ st 3 1 0 0 0
    ∷ st 4 1 0 0 0
    ∷ st 5 1 0 0 0
    ∷ st 3 1 1 1 0
    ∷ st 4 1 0 0 0
    ∷ st 10 0 1 0 0
    ∷ st 4 1 0 0 0
    ∷ st 11 0 1 0 0
    ∷ st 4 1 0 0 0
    ∷ st 5 1 0 0 0
    ∷ st 6 1 0 0 0
    ∷ [])
    (says 0 0 0 ∷ says 0 0 0 ∷ says 0 0 0 ∷ says 1 0 10 ∷ says 0 0 0 ∷ says 0 0 0 ∷ says 0 0 0 ∷ says 3 8 0 ∷ says 3 1 0 ∷ says 5 8 0
    ∷ says 0 8 0 ∷ says 0 8 0 ∷ says 0 0 0 ∷ says 0 0 0 ∷ says 0 8 0 ∷ says 1 8 11 ∷ says 0 0 0 ∷ says 2 8 0 ∷ says 0 8 0 ∷ says 2 8 0
    ∷ says 0 8 0 ∷ says 0 8 0 ∷ says 1 8 21 ∷ says 5 0 0 ∷ [])

-- 15 comes before 16: no node holds cell 0
abbrev pub unwhole : Example
unwhole = runs (fresh 2 2 zero (0 ∷ 2 ∷ []) []) (st 0 0 0 0 0 ∷ []) (says 15 0 0 ∷ [])

-- 16: kinds 0, 14, 128 and 142; 17 before 18; unused fields don't matter
abbrev pub fields : Example
fields =
    inner (two zero)
    (st 0 0 0 0 0 ∷ st 14 0 0 0 0 ∷ st 128 0 0 0 0 ∷ st 142 0 0 0 0 ∷ st 1 0 2 0 1 ∷ st 1 32 2 0 1 ∷ st 1 32 0 0 1 ∷ st 2 0 9 2 7 ∷ st 1 0 1 255 1 ∷ [])
    (says 16 0 0 ∷ says 16 0 0 ∷ says 16 0 0 ∷ says 16 0 0 ∷ says 17 0 0 ∷ says 17 0 0 ∷ says 18 0 0 ∷ says 18 0 0 ∷ says 0 0 0 ∷ [])

-- 19 to 23: write in an unused slot; begin with value 2, and again in a used slot; a write in a read-only transaction; a node that doesn't
-- hold the cell, and another than the origin that does; nothing to apply, and nothing to advance to
abbrev pub stages : Example
stages =
    inner (two zero)
    (st 2 0 0 0 7 ∷ st 1 0 0 0 2 ∷ st 1 0 0 0 0 ∷ st 1 0 0 0 2 ∷ st 2 0 0 0 7 ∷ st 3 0 0 1 0 ∷ st 3 0 1 0 0 ∷ st 11 0 0 0 0 ∷ st 12 0 0 0 0 ∷ [])
    (says 19 0 0 ∷ says 20 0 0 ∷ says 0 0 0 ∷ says 19 0 0 ∷ says 21 0 0 ∷ says 22 0 0 ∷ says 22 0 0 ∷ says 23 0 0 ∷ says 23 0 0 ∷ [])

-- 24: a vote is lacking, for the cut step too; after a no it isn't asked for: T1 conflicts with T0 at node 0 (reason 1)
abbrev pub votes : Example
votes =
    inner (two zero)
    (st 1 0 0 0 1 ∷ st 2 0 0 0 7 ∷ st 6 0 0 0 0 ∷ st 8 0 0 0 0 ∷ st 136 0 0 0 0 ∷ st 7 0 0 0 0 ∷ st 1 1 0 0 1 ∷ st 2 1 0 0 8 ∷ st 6 1 0 0 0 ∷ st 7 1 0 0 0 ∷ st 8 1 0 0 0 ∷ [])
    (says 0 0 0 ∷ says 0 0 0 ∷ says 0 0 0 ∷ says 24 0 0 ∷ says 24 0 0 ∷ says 3 8 0 ∷ says 0 0 0 ∷ says 0 0 0 ∷ says 0 0 0 ∷ says 4 1 0 ∷ says 6 0 0 ∷ [])

-- reason 2: T0 read cell 0 at 0, and T1 wrote it and is applied at node 1; at node 0, where it is not, it is a conflict (reason 1)
abbrev pub overtaken : Example
overtaken =
    inner (two zero)
    (st 1 0 1 0 1 ∷ st 3 0 1 0 0 ∷ st 4 0 0 0 0 ∷ st 5 0 0 0 0 ∷ st 1 1 1 0 1 ∷ st 2 1 0 0 11 ∷ st 6 1 0 0 0 ∷ st 7 1 0 0 0 ∷ st 7 1 1 0 0 ∷ st 8 1 0 0 0 ∷ st 10 1 1 0 0 ∷ st 11 0 1 0 0 ∷ st 2 0 0 1 21 ∷ st 6 0 0 0 0 ∷ st 7 0 0 0 0 ∷ st 7 0 1 0 0 ∷ [])
    (says 0 0 0 ∷ says 0 0 0 ∷ says 0 0 0 ∷ says 1 0 10 ∷ says 0 0 0 ∷ says 0 0 0 ∷ says 0 0 0 ∷ says 3 8 0 ∷ says 3 1 0 ∷ says 5 8 0 ∷ says 0 8 0 ∷ says 0 8 0 ∷ says 0 0 0 ∷ says 0 0 0 ∷ says 4 1 0 ∷ says 4 2 0 ∷ [])

-- transaction t writes cell 1, which node 1 alone holds, and is applied there; what its steps answer where its number is k
abbrev another : ℕ → List Step → List Step
another t xs = st 1 t 1 0 1 ∷ st 2 t 0 1 7 ∷ st 6 t 0 0 0 ∷ st 7 t 1 0 0 ∷ st 8 t 0 0 0 ∷ st 10 t 1 0 0 ∷ st 11 0 1 0 0 ∷ xs

abbrev numbered : ℕ → List Said → List Said
numbered k rs = says 0 0 0 ∷ says 0 0 0 ∷ says 0 0 0 ∷ says 3 k 0 ∷ says 5 k 0 ∷ says 0 k 0 ∷ says 0 k 0 ∷ rs

-- reason 3: seven writes fill the chain, and there is no room for the next
abbrev pub crammed : Example
crammed =
    inner (two zero)
    (another 0 (another 1 (another 2 (another 3 (another 4 (another 5 (another 6 (st 1 7 1 0 1 ∷ st 2 7 0 1 8 ∷ st 6 7 0 0 0 ∷ st 7 7 1 0 0 ∷ []))))))))
    (numbered 1 (numbered 9 (numbered 17 (numbered 25 (numbered 33 (numbered 41 (numbered 49 (says 0 0 0 ∷ says 0 0 0 ∷ says 0 0 0 ∷ says 4 3 0 ∷ []))))))))

-- the last number is given, then there is none (reason 4)
abbrev pub exhausted : Example
exhausted =
    inner (two (0 ∷ 4294967280 ∷ 0 ∷ 0 ∷ 0 ∷ 0 ∷ 0 ∷ 0 ∷ []))
    (st 1 0 1 0 1 ∷ st 2 0 0 1 7 ∷ st 6 0 0 0 0 ∷ st 7 0 1 0 0 ∷ st 8 0 0 0 0 ∷ st 10 0 1 0 0 ∷ st 11 0 1 0 0 ∷ st 1 1 1 0 1 ∷ st 2 1 0 1 8 ∷ st 6 1 0 0 0 ∷ st 7 1 1 0 0 ∷ st 8 1 0 0 0 ∷ st 10 1 1 0 0 ∷ st 11 0 1 0 0 ∷ st 1 2 1 0 1 ∷ st 2 2 0 1 9 ∷ st 6 2 0 0 0 ∷ st 7 2 1 0 0 ∷ [])
    (says 0 0 0 ∷ says 0 0 0 ∷ says 0 0 0 ∷ says 3 4294967281 0 ∷ says 5 4294967281 0 ∷ says 0 4294967281 0 ∷ says 0 4294967281 0 ∷ says 0 0 0 ∷ says 0 0 0 ∷ says 0 0 0 ∷ says 3 4294967289 0 ∷ says 5 4294967289 0 ∷ says 0 4294967289 0 ∷ says 0 4294967289 0 ∷ says 0 0 0 ∷ says 0 0 0 ∷ says 0 0 0 ∷ says 4 4 0 ∷ [])

-- a writer of cell 0 that ends with 8 and is applied at node 0 alone
abbrev one : List Step → List Step
one xs = st 1 0 0 0 1 ∷ st 2 0 0 0 11 ∷ st 6 0 0 0 0 ∷ st 7 0 0 0 0 ∷ st 7 0 1 0 0 ∷ st 8 0 0 0 0 ∷ st 10 0 0 0 0 ∷ st 11 0 0 0 0 ∷ xs

-- the origin's commit number is above the holder's: the snapshot is the larger
abbrev pub carried : Example
carried =
    inner (two zero)
    (one (st 1 1 0 0 0 ∷ st 3 1 1 1 0 ∷ st 4 1 0 0 0 ∷ []))
    (says 0 0 0 ∷ says 0 0 0 ∷ says 0 0 0 ∷ says 3 8 0 ∷ says 3 1 0 ∷ says 5 8 0 ∷ says 0 8 0 ∷ says 0 8 0 ∷ says 0 0 0 ∷ says 0 0 0 ∷ says 0 8 0 ∷ [])

-- a read at 8 cut by power loss, then a new writer there: it is numbered 9, not 1
abbrev pub saved : Example
saved =
    inner (two zero)
    (one (st 1 1 0 0 0 ∷ st 3 1 1 1 0 ∷ st 132 1 0 0 0 ∷ st 1 2 1 0 1 ∷ st 2 2 0 1 7 ∷ st 6 2 0 0 0 ∷ st 7 2 1 0 0 ∷ []))
    (says 0 0 0 ∷ says 0 0 0 ∷ says 0 0 0 ∷ says 3 8 0 ∷ says 3 1 0 ∷ says 5 8 0 ∷ says 0 8 0 ∷ says 0 8 0 ∷ says 0 0 0 ∷ says 0 0 0 ∷ says 7 0 0 ∷ says 0 0 0 ∷ says 0 0 0 ∷ says 0 0 0 ∷ says 3 9 0 ∷ [])

-- a cut serve fixes no s: the next one takes the commit number of its own time
abbrev pub unfixed : Example
unfixed =
    inner (two zero)
    (st 1 1 0 0 0 ∷ st 3 1 1 1 0 ∷ st 132 1 0 0 0 ∷ st 1 0 1 0 1 ∷ st 2 0 0 1 21 ∷ st 6 0 0 0 0 ∷ st 7 0 1 0 0 ∷ st 8 0 0 0 0 ∷ st 10 0 1 0 0 ∷ st 11 0 1 0 0 ∷ st 4 1 0 0 0 ∷ st 5 1 0 0 0 ∷ [])
    (says 0 0 0 ∷ says 0 0 0 ∷ says 7 0 0 ∷ says 0 0 0 ∷ says 0 0 0 ∷ says 0 0 0 ∷ says 3 1 0 ∷ says 5 1 0 ∷ says 0 1 0 ∷ says 0 1 0 ∷ says 0 1 0 ∷ says 1 1 21 ∷ [])

-- a return raises the origin's counter: its next vote is above the snapshot
abbrev pub above : Example
above =
    inner (two (0 ∷ 16 ∷ 0 ∷ 0 ∷ 0 ∷ 0 ∷ 0 ∷ 0 ∷ []))
    (st 1 0 1 0 1 ∷ st 2 0 0 1 21 ∷ st 6 0 0 0 0 ∷ st 7 0 1 0 0 ∷ st 8 0 0 0 0 ∷ st 10 0 1 0 0 ∷ st 11 0 1 0 0 ∷ st 1 1 0 0 1 ∷ st 3 1 1 1 0 ∷ st 4 1 0 0 0 ∷ st 5 1 0 0 0 ∷ st 2 1 0 0 11 ∷ st 6 1 0 0 0 ∷ st 7 1 0 0 0 ∷ [])
    (says 0 0 0 ∷ says 0 0 0 ∷ says 0 0 0 ∷ says 3 17 0 ∷ says 5 17 0 ∷ says 0 17 0 ∷ says 0 17 0 ∷ says 0 0 0 ∷ says 0 0 0 ∷ says 0 17 0 ∷ says 1 17 21 ∷ says 0 0 0 ∷ says 0 0 0 ∷ says 3 24 0 ∷ [])

-- an update transaction at node 0 with a stale read at 8, in a state that was handed
abbrev pub spoiled : State
spoiled =
    record {
      group = record {
        nodes = 2;
        cells = 2;
        counters = (two zero).group.counters;
        masks = 3 ∷ 2 ∷ [];
        slots = put (two zero).group.slots 0 (record { stage = Served (record { node = 1; cell = 1; s = 8; value = 20; stale = true }); origin = 0; update = true; snapshot = Some 8 });
      };
      flight = (two zero).flight;
      chains = (two zero).chains;
      writes = (two zero).writes;
      reads = (two zero).reads;
    }

-- its return: aborted, no value, counter and seen number risen all the same; cut, the counter alone
abbrev pub stale_whole : Example
stale_whole = leaves spoiled (st 5 0 0 0 0) (says 6 0 0) 0 (record { counter = 8; commit = 0; seen = 8 })

abbrev pub stale_cut : Example
stale_cut = leaves spoiled (st 133 0 0 0 0) (says 7 0 0) 0 (record { counter = 8; commit = 0; seen = 0 })

abbrev pub pinned : List Example
pinned = listing ∷ unwhole ∷ fields ∷ stages ∷ votes ∷ overtaken ∷ crammed ∷ exhausted ∷ carried ∷ saved ∷ unfixed ∷ above ∷ stale_whole ∷ stale_cut ∷ []
