-- `fresh::fresh` meets its contract, by what its parts ensure.
-- Assumes nothing.
use Rattle.std.proofs.Common.{arith, rules}
use Rattle.counters.specs.Counters.{zeroed}
use Rattle.fresh.specs.Fresh.{fresh}
use Rattle.fresh.proofs.Laws.{map_by}
use Rattle.fresh.proofs.fresh.Goals as goal

pub returns : goal.returns
unfolding fresh
returns c =
    rw (c.fill_lens.ensures, c.fill_versions.ensures, map_by zeroed 0 8 c.args.counters.now _ (omega arith) c.map.ensures.items (λ p x y q k. search rules))
