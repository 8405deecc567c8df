-- `settle::least` meets its contract: a filter of the transactions, and their numbers.
-- Assumes nothing.
use Rattle.std.proofs.Common.{rules, tests, arith}
use Rattle.std.proofs.lemmas.Iterator.{YieldsList-from_range}
use Rattle.std.proofs.lemmas.Iterator.Consumers.{YieldsList-from_filter}
use Rattle.group.specs.State.{number_at, unfinished}
use Rattle.settle.specs.Settle.{least}
use Rattle.settle.proofs.Lowest.{least_in_range}
use Rattle.settle.proofs.least.Goals as goal

pub returns : goal.returns
unfolding least
returns c =
    let flight = c.args.tables.now.flight in
    let n = c.args.node in
    least_in_range _ (λ t. number_at flight t n) _ (λ x k q h. search rules) (λ t. unfinished flight t n) 32 _ _ c.min_by_key.ensures.ran
    (YieldsList-from_filter _ (λ t. unfinished flight t n) (YieldsList-from_range 0 32 32 (cc) (omega arith)) c.filter.ensures.closure
    (λ x b q h. search (rules, tests)))
