-- `desk::inside` meets its contract: of a field that is used, its number.
-- Assumes nothing.
use mathlib.Core.Path.{ap}
use mathlib.Core.Bool.{not}
use Rattle.desk.proofs.inside.Goals as goal

pub returns-then-not-used : goal.returns-then-not-used
returns-then-not-used c = rw (ap not c.if-not-used.true)

pub returns-else-not-used : goal.returns-else-not-used
returns-else-not-used c = rw (ap not c.if-not-used.false)
