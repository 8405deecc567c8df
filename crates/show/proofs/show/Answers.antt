-- `show::show` meets its contract: the replay leaves the text in the space, and what is printed lies there.
-- Assumes nothing.
use mathlib.Core.Path.{subst}
use Rattle.std.specs.Io.KnownBytes.{Appends}
use Rattle.show.proofs.Printing.{no_longer, shown_all, shown_none}
use Rattle.show.proofs.show.Goals as goal

pub returns-in_ok-write_all-clause-printed : goal.returns-in_ok-write_all-clause-printed
returns-in_ok-write_all-clause-printed g c =
    subst (Appends _ _) (shown_all _ _ _ _ c.replay-size.ensures.0 c.replay-size.ensures.1 c.if-size-space.true) c.in_ok-write_all.ensures.bytes

pub returns-else-size-space-clause-printed : goal.returns-else-size-space-clause-printed
returns-else-size-space-clause-printed g c = shown_none _ _ _ _ c.replay-size.ensures.0 c.replay-size.ensures.1 _ c.if-size-space.false

pub returns-in_err-write_all-clause-longest : goal.returns-in_err-write_all-clause-longest
returns-in_err-write_all-clause-longest g c = no_longer _ c.type_inv.file

pub returns-in_ok-write_all-clause-longest : goal.returns-in_ok-write_all-clause-longest
returns-in_ok-write_all-clause-longest g c = no_longer _ c.type_inv.file

pub returns-else-size-space-clause-longest : goal.returns-else-size-space-clause-longest
returns-else-size-space-clause-longest g c = no_longer _ c.type_inv.file
