-- `cilumbara::cilumbara_rewrite` meets its contract: a faulty file's fault, or the file's own run written.
-- Assumes nothing.
use mathlib.Core.Path.{ap, ◌∙◌}
use native.Mathlib.Omega.{arith}
use Rattle.tables.specs.Table.{at}
use Rattle.little.proofs.Laws.{Bytes}
use Rattle.replay.proofs.Opened.{opened_sound, run_plays}
use Rattle.runwrite.specs.Writing.{Written}
use Rattle.cilumbara.proofs.Laws.{rewrite_faulty, rewrite_sound}
use Rattle.cilumbara.proofs.cilumbara_rewrite.Goals as goal

pub returns-in_err-h-clause-answer : goal.returns-in_err-h-clause-answer
returns-in_err-h-clause-answer c = grind (arith, rewrite_faulty)

pub returns-in_err-h-clause-bytes : goal.returns-in_err-h-clause-bytes
returns-in_err-h-clause-bytes c = grind (arith, rewrite_faulty)

pub anew-requires : goal.anew-requires
unfolding at
anew-requires c =
    let b : Bytes c.args.file.now = λ i l. omega (arith, c.type_inv.file i) in
    let e = c.in_ok-h.ensures in
    let p = run_plays _ _ e b _ c.steps-part.ensures.bytes (opened_sound _ _ e b) in
    (p.goes.few, p.goes.there)

pub returns-clause-answer : goal.returns-clause-answer
unfolding at
returns-clause-answer c =
    let b : Bytes c.args.file.now = λ i l. omega (arith, c.type_inv.file i) in
    let e = c.in_ok-h.ensures in
    c.anew.ensures.answer ∙ ap (λ (w : Written). w.answer) (rewrite_sound _ _ e b _ c.steps-part.ensures.bytes (opened_sound _ _ e b) c.args.out.now)

pub returns-clause-bytes : goal.returns-clause-bytes
unfolding at
returns-clause-bytes c =
    let b : Bytes c.args.file.now = λ i l. omega (arith, c.type_inv.file i) in
    let e = c.in_ok-h.ensures in
    c.anew.ensures.bytes ∙ ap (λ (w : Written). w.out) (rewrite_sound _ _ e b _ c.steps-part.ensures.bytes (opened_sound _ _ e b) c.args.out.now)
