-- An output of 122,894 bytes is always enough: no file's text is longer.
-- Assumes nothing.
use mathlib.Core.Path.{◌≡◌, refl, ap}
use mathlib.Core.List.{List, []}
use Prim.Native.Nat.{ℕ, ◌≤◌}
use native.Mathlib.Omega.{arith}
use lib.ListN.{length, length-append}
use Rattle.kinds.specs.declared.Step.{Step}
use Rattle.text.proofs.Digits.{decimal_size}
use Rattle.little.proofs.Laws.{Bytes}
use Rattle.runfile.specs.File.{File, Read, code_of, got, fault, read_file, joined, step_bytes}
use Rattle.runfile.specs.Head.{head_of}
use Rattle.runfile.proofs.BothWays.{Sound, written_read}
use Rattle.listing.specs.Listing.{lines_from, fresh_of}
use Rattle.replay.specs.Replay.{front_of, text_of}
use Rattle.replay.proofs.FrontLaws.{refused_length}
use Rattle.replay.proofs.Playing.{steps_all, plays}

sound_short : (f : File) → Sound f → length (text_of (got f [])) ≤ 122894
unfolding text_of head_of
sound_short f s =
    let part = joined step_bytes f.steps in
    let h = head_of f in
    let e = ap (λ (xs : List Step). length (lines_from 0 (fresh_of h) xs)) (steps_all f s part refl) in
    omega (arith, length-append (front_of h) (lines_from 0 (fresh_of h) f.steps), (plays f s part refl).longest, e)

pub longest_text : (b : List ℕ) → Bytes b → length (text_of (read_file b)) ≤ 122894
unfolding text_of
longest_text b h = go (read_file b) refl
  where
    go : (x : Read File) → read_file b ≡ x → length (text_of x) ≤ 122894
    go (got f rest) e = let w = written_read b f rest h e in sound_short f w.1
    go (fault c) e = omega (arith, refused_length (code_of c), decimal_size (code_of c))
