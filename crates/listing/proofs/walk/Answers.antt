-- `listing::walk` meets its contract: the tables are those of a fresh run.
-- Assumes nothing.
use Rattle.listing.specs.Listing.{fresh_of}
use Rattle.listing.proofs.walk.Goals as goal

pub lines-requires : goal.lines-requires
unfolding fresh_of
lines-requires c = rw (c.fresh-g.ensures, c.from-count.ensures) c.requires

pub returns : goal.returns
unfolding fresh_of
returns c = rw (c.fresh-g.ensures, c.from-count.ensures) at c.lines.ensures
