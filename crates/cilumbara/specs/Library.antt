-- What the library's functions answer, over the definitions of the reader and the writer, and what C is told of an answer.
-- Assumes nothing.
use Rattle.std.specs.Prelude.{ℕ, List, Result, Ok, Err}
use Rattle.runfile.specs.declared.Fault.{Fault}
use Rattle.runfile.specs.File.{File, Read, code_of, got, fault}
use Rattle.runwrite.specs.Writing.{Written, written}

-- a sound file, or its first fault
unfoldable pub check_of : Read File → Result (Unit {0}) Fault
check_of (got f rest) = Ok tt
check_of (fault c) = Err c

-- a sound file's run written anew, or the fault and nothing written
unfoldable pub rewrite_of : Read File → List ℕ → Written
rewrite_of (got f rest) out = written f out
rewrite_of (fault c) out = record { answer = Err c; out = out }

-- an answer as C is told it: 0, or the fault's number
abbrev pub told : Result (Unit {0}) Fault → ℕ
told (Ok u) = 0
told (Err c) = code_of c
