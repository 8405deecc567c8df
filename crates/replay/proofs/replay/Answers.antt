-- `replay::replay` meets its contract: a faulty file's code, or the run that the file stands for.
-- Assumes nothing.
use native.Mathlib.Omega.{arith}
use Rattle.tables.specs.Table.{at}
use Rattle.little.proofs.Laws.{Bytes}
use Rattle.replay.proofs.Opened.{text_faulty, opened_sound, run_plays, text_sound}
use Rattle.replay.proofs.replay.Goals as goal

pub returns-in-Err : goal.returns-in-Err
returns-in-Err c = text_faulty _ _ c.in-Err.ensures _ c.code.ensures _ _ _ c.refused.ensures

pub run-requires : goal.run-requires
unfolding at
run-requires c =
    let b : Bytes c.args.file.now = λ i l. omega (arith, c.type_inv.file i) in
    let e = c.in-Ok.ensures in
    run_plays _ _ e b _ c.steps-part.ensures.bytes (opened_sound _ _ e b)

pub returns-in-Ok : goal.returns-in-Ok
unfolding at
returns-in-Ok c =
    let b : Bytes c.args.file.now = λ i l. omega (arith, c.type_inv.file i) in
    let e = c.in-Ok.ensures in
    text_sound _ _ e b _ c.steps-part.ensures.bytes (opened_sound _ _ e b) _ _ _ c.run.ensures
