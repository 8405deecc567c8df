-- `cilumbara::cilumbara_check` meets its contract: the fault, or none.
-- Assumes nothing.
use native.Mathlib.Omega.{arith}
use Rattle.cilumbara.proofs.Laws.{check_faulty, check_sound}
use Rattle.cilumbara.proofs.cilumbara_check.Goals as goal

pub returns-in_err-open : goal.returns-in_err-open
returns-in_err-open c = grind (arith, check_faulty)

pub returns : goal.returns
returns c = check_sound _ _ c.in_ok-open.ensures
