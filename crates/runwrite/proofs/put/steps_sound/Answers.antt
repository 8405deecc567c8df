-- `runwrite::put::steps_sound` meets its contract.
-- Assumes nothing.
use mathlib.Core.Path.{sym, ◌∙◌}
use Rattle.tables.specs.Table.{at}
use Rattle.tables.proofs.Loop.{every_none, every_more}
use Rattle.runwrite.proofs.Judging.{one_unsound, all_sound}
use Rattle.runwrite.proofs.put.steps_sound.Goals as goal

pub loop-x-init : goal.loop-x-init
loop-x-init c = every_none _

pub returns-then-not-fields_sound : goal.returns-then-not-fields_sound
unfolding at
returns-then-not-fields_sound c = one_unsound _ _ c.loop-x-test.true (sym c.fields_sound.ensures ∙ c.if-not-fields_sound.true)

pub loop-x-preserved : goal.loop-x-preserved
unfolding at
loop-x-preserved c = every_more _ _ c.loop-x.invariant (sym c.fields_sound.ensures ∙ c.if-not-fields_sound.false)

pub returns : goal.returns
returns c = all_sound _ _ c.loop-x.auto.x-index-end c.loop-x-test.false c.loop-x.invariant
