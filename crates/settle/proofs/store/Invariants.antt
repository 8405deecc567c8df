-- `settle::store` meets its contract. The loop's invariant: the cells passed have their versions.
-- Assumes nothing.
use Rattle.std.specs.Prelude.{◌≡◌}
use Rattle.group.specs.State.{with_chains}
use Rattle.settle.specs.Settle.{stored}
use Rattle.settle.proofs.store.Given as goal

abbrev pub invariant-loop-c : goal.invariant-loop-c
invariant-loop-c l =
    l.tables ≡ with_chains l.initial.tables
    (stored l.c l.g.masks l.initial.tables.chains l.initial.tables.writes l.t l.node l.number)
