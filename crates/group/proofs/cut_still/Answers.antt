-- `group::cut_still` meets its contract: a counter that is raised to 0 at least stays.
-- Assumes nothing.
use mathlib.Core.Path.{sym, ap}
use Rattle.counters.specs.declared.Counters.{Counters}
use Rattle.counters.proofs.Laws.{counted_zero}
use Rattle.group.specs.Answer.{turn}
use Rattle.group.specs.declared.Answer.TheVariants.{Cut}
use Rattle.group.proofs.cut_still.Goals as goal

pub returns : goal.returns
returns c = ap (λ (k : Counters). turn Cut c.args.slot k) (sym (counted_zero c.args.c))
