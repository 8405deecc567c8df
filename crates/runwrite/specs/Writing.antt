-- Writing a run file: a step as a number, the run that is written, and the outcome.
-- Assumes nothing.
use Rattle.std.specs.Prelude.{cond, List, ◌++◌, ℕ, ◌+◌, ◌*◌, ◌/◌, ◌%◌, Option, None, Some, Result, Ok, Err, leb, length, drop}
use Rattle.tables.specs.Pair.{word}
use Rattle.kinds.specs.declared.Step.{Step}
use Rattle.runfile.specs.declared.Head.{Head}
use Rattle.runfile.specs.declared.Fault.{Fault}
use Rattle.runfile.specs.declared.Fault.TheVariants.{Room}
use Rattle.runfile.specs.File.{File, fault_of, bytes_of}
use Rattle.runfile.specs.Head.{file_with}

-- a step as the one number that its eight bytes are, and back
abbrev pub word_of : Step → ℕ
word_of x = x.kind + 256 * x.slot + 65536 * x.node + 16777216 * x.cell + word * x.value

abbrev pub step_of : ℕ → Step
step_of w = record { kind = w % 256; slot = w / 256 % 256; node = w / 65536 % 256; cell = w / 16777216 % 256; value = w / word }

-- the run that is written: as many counters and cells as the head counts, zeros where a table has no more
unfoldable pub file_of : Head → List Step → File
file_of h steps = file_with h steps

-- the answer given, and the output after it: the file's bytes, and no byte beyond touched
pub record Written : Type 0 where
  pub answer : Result (Unit {0}) Fault
  pub out : List ℕ

unfoldable pub written : File → List ℕ → Written
written f out = go (fault_of f)
  where
    go : Option Fault → Written
    go (Some c) = record { answer = Err c; out = out }
    go None = cond (leb (length (bytes_of f)) (length out)) (record { answer = Ok tt; out = bytes_of f ++ drop (length (bytes_of f)) out }) (record { answer = Err Room; out = out })
