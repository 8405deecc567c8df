-- `runwrite::write` meets its contract: a fault, an output that is too short, or the file's bytes.
-- Assumes nothing.
use mathlib.Core.Path.{refl, sym}
use native.Mathlib.Omega.{arith}
use Rattle.runwrite.proofs.Writing.{written_faulty, written_short, written_whole, size_is, counts_low}
use Rattle.runwrite.proofs.write.Goals as goal

pub returns-in_err-check-clause-answer : goal.returns-in_err-check-clause-answer
returns-in_err-check-clause-answer c = grind (arith, written_faulty)

pub returns-in_err-check-clause-bytes : goal.returns-in_err-check-clause-bytes
returns-in_err-check-clause-bytes c = grind (arith, written_faulty)

pub size-requires : goal.size-requires
size-requires c = grind (arith, counts_low)

pub returns-then-out-size-clause-answer : goal.returns-then-out-size-clause-answer
returns-then-out-size-clause-answer c =
    let e = sym c.in_ok-check.ensures in
    rw (written_short _ c.args.out.now e (omega (arith, size_is _ _ e, c.size.ensures, c.if-out-size.true))) refl

pub returns-then-out-size-clause-bytes : goal.returns-then-out-size-clause-bytes
returns-then-out-size-clause-bytes c =
    let e = sym c.in_ok-check.ensures in
    rw (written_short _ c.args.out.now e (omega (arith, size_is _ _ e, c.size.ensures, c.if-out-size.true))) refl

pub fill-requires : goal.fill-requires
fill-requires c =
    let p = counts_low _ _ (sym c.in_ok-check.ensures) in
    (p.0, p.1, p.2, omega (arith, c.size.ensures, c.if-out-size.false))

pub returns-clause-answer : goal.returns-clause-answer
returns-clause-answer c =
    let e = sym c.in_ok-check.ensures in
    rw (written_whole _ c.args.out.now e (omega (arith, size_is _ _ e, c.size.ensures, c.if-out-size.false))) refl

pub returns-clause-bytes : goal.returns-clause-bytes
returns-clause-bytes c =
    let e = sym c.in_ok-check.ensures in
    rw (written_whole _ c.args.out.now e (omega (arith, size_is _ _ e, c.size.ensures, c.if-out-size.false))) c.fill.ensures
