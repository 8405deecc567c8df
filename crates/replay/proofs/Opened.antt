-- What opening a file tells of its text.
-- Assumes nothing.
use mathlib.Core.Path.{◌≡◌, refl, ap, ◌∙◌}
use mathlib.Core.Bool.{cond}
use mathlib.Core.List.{List, [], ◌++◌}
use Prim.Native.Nat.{ℕ, ◌+◌, ◌*◌}
use native.Mathlib.Omega.{arith}
use lib.Dec.{leb}
use lib.ListN.{length, take, drop}
use Rattle.kinds.specs.declared.Step.{Step}
use Rattle.text.specs.Text.{placed}
use Rattle.little.proofs.Laws.{Bytes}
use Rattle.std.specs.Prelude.{Ok, Err}
use Rattle.runfile.specs.declared.Fault.{Fault}
use Rattle.runfile.specs.declared.Head.{Head}
use Rattle.runfile.specs.File.{File, Read, code_of, got, fault, joined, step_bytes, read_file}
use Rattle.runfile.specs.Head.{head_of, opened_of}
use Rattle.runfile.specs.Parts.{steps_start}
use Rattle.runfile.proofs.BothWays.{Sound as SoundFile, written_read}
use Rattle.runfile.proofs.Parts.{steps_section}
use Rattle.listing.specs.Listing.{lines_from, fresh_of}
use Rattle.replay.specs.Replay.{front_of, refused_text, text_of}
use Rattle.listing.specs.Going.{lines_to}
use Rattle.replay.specs.Plays.{Plays}
use Rattle.replay.proofs.Playing.{steps_all, plays}

module _ (b : List ℕ) where
  pub text_faulty :
      (k : Fault) → Err k ≡ opened_of (read_file b) → (c : ℕ) → c ≡ code_of k → (r : ℕ) (out out' : List ℕ)
      → (r ≡ length (refused_text c)) × (out' ≡ placed out 0 (refused_text c))
      → (r ≡ length (text_of (read_file b))) × (out' ≡ placed out 0 (text_of (read_file b)))
  unfolding opened_of text_of
  text_faulty k e c l r out out' w = go (read_file b) e
    where
      go : (x : Read File) → Err k ≡ opened_of x → (r ≡ length (text_of x)) × (out' ≡ placed out 0 (text_of x))
      go (got f rest) q = absurd (let z : ◌≡◌ {A = ℕ} 0 1 = cc in omega arith)
      go (fault d) q = let m : k ≡ d = cc in rw (← m, ← l) w

module _ (b : List ℕ) (o : Head) (e : Ok o ≡ opened_of (read_file b)) where
  -- the file of a run with this head
  pub data Stands : Type 0 where
    stands : (f : File) → SoundFile f → read_file b ≡ got f [] → o ≡ head_of f → Stands

  pub opened_sound : Bytes b → Stands
  unfolding opened_of
  opened_sound h = go (read_file b) refl
    where
      go : (x : Read File) → read_file b ≡ x → Stands
      go (got f rest) q =
          let w = written_read b f rest h q in
          let p : Ok o ≡ Ok (head_of f) = e ∙ ap opened_of q in
          stands f w.1 (q ∙ ap (got f) w.2) cc
      go (fault d) q = let p : Ok o ≡ Err d = e ∙ ap opened_of q in absurd (let z : ◌≡◌ {A = ℕ} 0 1 = cc in omega arith)

  module _
      (h : Bytes b) (part : List ℕ)
      (p : part
      ≡ cond (leb (steps_start o.nodes o.cells + 8 * o.steps) (length b)) (take (8 * o.steps) (drop (steps_start o.nodes o.cells) b)) []) where
    section : (f : File) → read_file b ≡ got f [] → o ≡ head_of f → part ≡ joined step_bytes f.steps
    unfolding head_of
    section f q k = rw k at p ∙ steps_section b f h q

    pub run_plays : Stands → Plays o part
    run_plays (stands f s q k) = rw k (plays f s part (section f q k))

    whole_text :
        (f : File) → SoundFile f → read_file b ≡ got f [] → o ≡ head_of f
        → front_of (head_of f) ++ lines_to (fresh_of (head_of f)) part (head_of f).steps ≡ text_of (got f [])
    unfolding text_of head_of
    whole_text f s q k = ap (λ (xs : List Step). front_of (head_of f) ++ lines_from 0 (fresh_of (head_of f)) xs) (steps_all f s part (section f q k))

    pub text_sound :
        Stands → (r : ℕ) (out out' : List ℕ)
        → let t = front_of o ++ lines_to (fresh_of o) part o.steps in (r ≡ length t) × (out' ≡ placed out 0 t)
        → (r ≡ length (text_of (read_file b))) × (out' ≡ placed out 0 (text_of (read_file b)))
    text_sound (stands f s q k) r out out' w =
        let z : front_of (head_of f) ++ lines_to (fresh_of (head_of f)) part (head_of f).steps ≡ text_of (got f []) = whole_text f s q k in
        rw q (rw z at (rw k at w))
