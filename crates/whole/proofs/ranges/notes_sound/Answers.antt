-- `whole::ranges::notes_sound` meets its contract: a test of each place.
-- Assumes nothing.
use mathlib.Core.Path.{◌∙◌}
use Rattle.std.proofs.Common.{ℕ, arith, leb, rules, tests}
use Rattle.std.proofs.lemmas.Iterator.{YieldsList-from_slice}
use Rattle.std.proofs.lemmas.Iterator.Search.{all_from_yields_List}
use Rattle.tables.specs.Pair.{word}
use Rattle.whole.specs.Whole.{notes_sound}
use Rattle.whole.proofs.Laws.{all_places}
use Rattle.whole.proofs.ranges.notes_sound.Goals as goal

pub returns : goal.returns
unfolding notes_sound
returns c =
    all_from_yields_List (λ (x : ℕ). leb x word) _ _ _ c.all.ensures.ran (YieldsList-from_slice _ c.iter.ensures.rest) (λ x b q k. search (rules, tests))
    ∙ all_places _ _ c.args.table.now 1024 (omega arith)
