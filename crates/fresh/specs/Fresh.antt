-- A fresh run: counters, masks and first values from the file, all else as it begins.
-- Assumes nothing.
use Rattle.std.specs.Prelude.{cond, List, map, ℕ, ◌/◌, ◌%◌, replicate}
use Rattle.tables.specs.Table.{at}
use Rattle.tables.specs.Pair.{pair}
use Rattle.tables.specs.Loop.{each}
use Rattle.counters.specs.Counters.{zeroed}
use Rattle.chain.specs.Chain.{chains}
use Rattle.group.specs.State.{State, holds, no_slot}

-- each holder's chain has one version, number 0 with the cell's first value; chain i is that of cell i / 8 at node i % 8
unfoldable pub fresh_lens : List ℕ → List ℕ
fresh_lens masks = each 0 256 (λ i. i) (λ i e. cond (holds masks (i % 8) (i / 8)) 1 0) (replicate 256 0)

unfoldable pub fresh_versions : List ℕ → List ℕ
fresh_versions values = each 0 256 (λ i. pair 8 i 0) (λ i e. at values (i / 8) 0) (replicate 2048 0)

unfoldable pub fresh : ℕ → ℕ → List ℕ → List ℕ → List ℕ → State
fresh nodes cells counters masks values =
    record {
      group = record { nodes = nodes; cells = cells; counters = map zeroed counters; masks = masks; slots = replicate 32 no_slot };
      flight = replicate 256 0;
      chains = chains (fresh_lens masks) (fresh_versions values);
      writes = replicate 1024 0;
      reads = replicate 1024 0;
    }
