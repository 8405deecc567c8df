-- `settle::apply` meets its contract: the entry found has a place in the tables.
-- Assumes nothing.
use Rattle.std.proofs.Common.{sym, ◌∙◌}
use Rattle.settle.proofs.Laws.{least_below}
use Rattle.settle.proofs.apply.Goals as goal

pub store-requires : goal.store-requires
store-requires c = λ k h. c.requires _ k (least_below _ _ _ (sym c.least.ensures ∙ c.in-Some.is)) h
