-- `group::Tables::involved` meets its contract: a test of each cell.
-- Assumes nothing.
use Rattle.std.proofs.Common.{rules, tests}
use Rattle.tables.proofs.Ranges.{any_in_range}
use Rattle.group.specs.State.{involved}
use Rattle.group.proofs.Tables.involved.Goals as goal

pub returns : goal.returns
unfolding involved
returns c = any_in_range _ _ _ _ _ c.any.ensures.ran (λ x b q k. search (rules, tests)) cc
