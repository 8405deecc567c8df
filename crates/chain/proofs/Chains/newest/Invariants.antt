-- `chain::Chains::newest` meets its contract. The loop's invariant: what is looked for is among the versions that are left.
-- Assumes nothing.
use mathlib.Core.Path.{◌≡◌}
use Rattle.chain.specs.Chain.{newest}
use Rattle.chain.proofs.Laws.{newest_of}
use Rattle.chain.proofs.Chains.newest.Given as goal

abbrev pub invariant-loop-i : goal.invariant-loop-i
invariant-loop-i l = newest l.self.lens l.self.versions l.cell l.node l.s ≡ newest_of l.self.versions l.cell l.node l.s l.i
