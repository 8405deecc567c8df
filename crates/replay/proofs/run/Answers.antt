-- `replay::run` meets its contract: the first line and then the others, or their number alone.
-- Assumes nothing.
use mathlib.Core.Path.{sym, ◌∙◌}
use Rattle.replay.proofs.Texts.{counts, front_fits, writes, text_written, text_counted}
use Rattle.replay.proofs.run.Goals as goal

pub fits-requires : goal.fits-requires
fits-requires c = let s = c.size-start.ensures in (c.requires, s.0, s.1)

pub put-requires : goal.put-requires
put-requires c =
    let f = c.fits.ensures in
    rw f.1 (front_fits _ _ c.requires _ c.size-start.ensures.0 c.size-start.ensures.1 c.args.out.now (sym c.if-fits.true ∙ f.0))

pub walk-requires : goal.walk-requires
walk-requires c =
    let f = c.fits.ensures in
    writes _ _ c.requires _ c.size-start.ensures.0 c.size-start.ensures.1 _ (sym c.if-fits.true ∙ f.0) _ (rw f.1 at c.put.ensures)

pub walk-requires-else-fits : goal.walk-requires-else-fits
walk-requires-else-fits c = counts _ _ c.requires _ c.size-start.ensures.0 c.size-start.ensures.1

pub returns-then-fits : goal.returns-then-fits
returns-then-fits c =
    let f = c.fits.ensures in
    text_written _ _ c.requires _ c.size-start.ensures.0 c.size-start.ensures.1 _ (sym c.if-fits.true ∙ f.0) _ (rw f.1 at c.put.ensures) _ _ c.walk.ensures

pub returns-else-fits : goal.returns-else-fits
returns-else-fits c =
    let f = c.fits.ensures in
    text_counted _ _ c.requires _ c.size-start.ensures.0 c.size-start.ensures.1 _ (sym c.if-fits.false ∙ f.0) _ _ (rw f.1 at c.walk-else-fits.ensures)
