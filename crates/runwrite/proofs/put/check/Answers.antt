-- `runwrite::put::check` meets its contract: each way out is a law.
-- Assumes nothing.
use mathlib.Core.Path.{sym, ◌∙◌}
use Rattle.runwrite.proofs.Judging.{counts_in}
use Rattle.runwrite.proofs.put.check.Goals as goal

pub masks_sound-requires : goal.masks_sound-requires
masks_sound-requires c = counts_in c.args.head.now c.args.steps.now (sym c.counts_sound.ensures ∙ c.if-not-counts_sound.false)
