-- `read::blocked` meets its contract: a test of each transaction.
-- Assumes nothing.
use Rattle.std.proofs.Common.{rules, tests}
use Rattle.tables.proofs.Ranges.{any_in_range}
use Rattle.read.specs.Read.{blocked}
use Rattle.read.proofs.blocked.Goals as goal

pub returns : goal.returns
unfolding blocked
returns c = any_in_range _ _ _ _ _ c.any.ensures.ran (λ x b q k. search (rules, tests)) cc
