-- `desk::judged` meets its contract: refused for its fields, or by its kind.
-- Assumes nothing.
use Rattle.std.proofs.Common.{rules}
use Rattle.desk.proofs.Acts.{act_unless}
use Rattle.desk.proofs.judged.Goals as goal

pub returns-in_err-kind : goal.returns-in_err-kind
returns-in_err-kind c = act_unless c.args.g.now _ _ _ _ _ c.kind_of.ensures _ c.in_err-kind.was c.from_residual.result (search rules)
