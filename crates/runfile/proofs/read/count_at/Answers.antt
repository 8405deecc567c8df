-- `runfile::read::count_at` meets its contract: each way out is a law.
-- Assumes nothing.
use mathlib.Core.Path.{sym, ◌∙◌}
use native.Mathlib.Omega.{arith}
use Rattle.runfile.proofs.Reading.{found, count_cut, count_low, count_high, count_in}
use Rattle.runfile.proofs.read.count_at.Goals as goal

pub returns-in_err-count-clause-read : goal.returns-in_err-count-clause-read
returns-in_err-count-clause-read c = grind (arith, count_cut)

pub returns-then-count-low-clause-read : goal.returns-then-count-low-clause-read
returns-then-count-low-clause-read c =
    let a = c.args in
    let x = c.in_ok-count.count in
    let e = sym c.read.ensures ∙ found _ _ x (sym c.in_ok-count.ensures.value) in
    grind (arith, count_low a.file.now a.at a.k a.low a.high c.requires.0 c.requires.1 x e, count_high a.file.now a.at a.k a.low a.high c.requires.0 c.requires.1 x e)

pub returns-clause-read : goal.returns-clause-read
returns-clause-read c =
    let e = sym c.read.ensures ∙ found _ _ _ (sym c.in_ok-count.ensures.value) in
    count_in _ _ _ _ _ c.requires.0 c.requires.1 _ e c.if-count-low.false c.if-high-count.false
