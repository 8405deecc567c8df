-- `decide::send` meets its contract. The loop's invariant: the nodes passed have been sent to.
-- Assumes nothing.
use Rattle.std.specs.Prelude.{◌≡◌}
use Rattle.group.specs.State.{with_flight}
use Rattle.decide.specs.Decide.{sent_to}
use Rattle.decide.proofs.send.Given as goal

abbrev pub invariant-loop-n : goal.invariant-loop-n
invariant-loop-n l =
    l.tables ≡ with_flight l.initial.tables
    (sent_to l.n l.g.cells l.g.masks l.initial.tables.flight l.initial.tables.writes l.initial.tables.reads l.t)
