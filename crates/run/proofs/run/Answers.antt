-- `run::run` meets its contract: what is read is judged as the whole input is, and its text fits the space.
-- Assumes nothing.
use mathlib.Core.Path.{sym, ◌∙◌}
use Rattle.run.proofs.Printed.{whole_text}
use Rattle.run.proofs.run.Goals as goal

pub returns : goal.returns
returns g c =
    whole_text _ _ (c.space-file.ensures ∙ sym c.in_ok-n.ensures.len) c.in_ok-n.ensures.in_space.0
    _ _ c.in_ok-n.ensures.bytes c.in_ok-n.ensures.end _ _ _ c.space-text.ensures c.in_ok-show.ensures.longest c.in_ok-show.ensures.printed
