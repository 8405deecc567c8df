-- `runfile::read::counters_in` meets its contract.
-- Assumes nothing.
use mathlib.Core.Path.{sym, ◌∙◌}
use native.Mathlib.Omega.{arith}
use Rattle.tables.specs.Table.{put}
use Rattle.runfile.proofs.Reading.{found}
use Rattle.runfile.proofs.Sections.{counters_start, counters_turn, counters_cut, counters_padded, counters_end}
use Rattle.runfile.proofs.read.counters_in.Goals as goal

pub loop-i-init : goal.loop-i-init
loop-i-init c = counters_start _ _

pub returns-in_err-counters-clause-read : goal.returns-in_err-counters-clause-read
returns-in_err-counters-clause-read c = grind (arith, counters_cut _ _ _ _ c.loop-i.invariant)

pub loop-i-preserved : goal.loop-i-preserved
unfolding put
loop-i-preserved c =
    let e = sym c.read.ensures ∙ found _ _ _ (sym c.in_ok-counters.ensures.value) in
    counters_turn _ _ _ _ c.loop-i.invariant _ c.loop-i-test.true c.requires e

pub returns-clause-read : goal.returns-clause-read
returns-clause-read c = counters_end _ _ _ _ c.loop-i.invariant c.loop-i.auto.i-end c.loop-i-test.false

pub returns-clause-padded : goal.returns-clause-padded
returns-clause-padded c = counters_padded _ _ _ _ c.loop-i.invariant c.requires c.loop-i.auto.i-end
