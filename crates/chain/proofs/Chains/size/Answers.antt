-- `chain::Chains::size` meets its contract: a length that a chain can have counts.
-- Assumes nothing.
use mathlib.Core.Path.{sym, ◌∙◌}
use Rattle.chain.proofs.Laws.{size_in, size_out}
use Rattle.chain.proofs.Chains.size.Goals as goal

pub returns-then-n-le8 : goal.returns-then-n-le8
returns-then-n-le8 c = c.len-n.ensures ∙ sym (size_in _ _ _ (rw c.len-n.ensures at c.if-n-le8.true))

pub returns-else-n-le8 : goal.returns-else-n-le8
returns-else-n-le8 c = sym (size_out _ _ _ (rw c.len-n.ensures at c.if-n-le8.false))
