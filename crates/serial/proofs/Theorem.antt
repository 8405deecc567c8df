-- The serial statement, proved.
-- Assumes nothing.
use mathlib.Core.List.{List}
use Prim.Native.Nat.{ℕ}
use Rattle.tables.specs.Table.{at}
use Rattle.kinds.specs.declared.Step.{Step}
use Rattle.serial.specs.Serial.{Sound, Steps32, start, run_of, Serial}
use Rattle.serial.proofs.Begins.{fresh_holds}
use Rattle.serial.proofs.Steps.{run_keeps}
use Rattle.serial.proofs.Claim.{claimed}

pub serial : (nodes cells : ℕ) (counters masks values : List ℕ) → Sound nodes cells counters masks values → (xs : List Step) → Steps32 xs
    → Serial (λ c. at values c 0) (run_of (start nodes cells counters masks values) xs)
serial nodes cells counters masks values q xs v =
    let r = start nodes cells counters masks values in claimed _ _ _ (run_keeps (λ c. at values c 0) xs r v (fresh_holds nodes cells counters masks values q))
