-- What opening a file tells of the library's answers, and what writing it anew comes to.
-- Assumes nothing.
use mathlib.Core.Path.{◌≡◌, refl, sym, ap, ◌∙◌}
use mathlib.Core.Bool.{cond}
use mathlib.Core.List.{List, [], ◌++◌}
use Rattle.std.specs.Prelude.{Ok, Err}
use Prim.Native.Nat.{ℕ, ◌+◌, ◌*◌, ◌≤◌, ◌<◌}
use native.Mathlib.Nat.{le_of_eq}
use native.Mathlib.Omega.{arith}
use native.Mathlib.Numerals.{add-one}
use lib.Dec.{leb}
use lib.ListN.{length, take, drop, set}
use lib.Seq.{take-suc-set, take_all}
use borrow.Author.Tests.{le-leb}
use Rattle.kinds.specs.declared.Step.{Step}
use Rattle.little.proofs.Laws.{Bytes}
use Rattle.runfile.specs.declared.Fault.{Fault}
use Rattle.runfile.specs.declared.Head.{Head}
use Rattle.runfile.specs.File.{File, Read, got, fault, joined, step_bytes, read_file}
use Rattle.runfile.specs.Head.{firsts, head_of, opened_of}
use Rattle.runfile.specs.Parts.{steps_start, step_in}
use Rattle.runfile.proofs.BothWays.{Sound as SoundFile, written_read}
use Rattle.runfile.proofs.Parts.{steps_section}
use Rattle.runfile.proofs.Rows.{firsts_next}
use Rattle.runwrite.specs.Writing.{file_of, written}
use Rattle.runwrite.proofs.Back.{file_back}
use Rattle.listing.specs.Going.{steps_to}
use Rattle.replay.proofs.Playing.{steps_all}
use Rattle.replay.proofs.Opened.{Stands, stands}
use Rattle.cilumbara.specs.Library.{check_of, rewrite_of}

-- ---- the loop that gathers the steps

module _ (part : List ℕ) (steps : List Step) where
  pub steps_none : take 0 steps ≡ steps_to part 0
  unfolding firsts
  steps_none = refl

  pub steps_next :
      (i : ℕ) (x : Step) → i < length steps → take i steps ≡ steps_to part i → x ≡ step_in part i
      → take (i + 1) (set steps i x) ≡ steps_to part (i + 1)
  steps_next i x h e q = rw (firsts_next i (step_in part), add-one i, sym q, sym e) (take-suc-set steps i x h)

  pub steps_end : (n i : ℕ) → length steps ≡ n → i ≤ n → n ≤ i → take i steps ≡ steps_to part i → steps ≡ steps_to part n
  steps_end n i l h k e =
      let q : i ≡ n = omega arith in
      sym (take_all n steps (le_of_eq l)) ∙ rw q at e

-- ---- the answers

module _ (b : List ℕ) where
  pub check_faulty : (k : Fault) → Err k ≡ opened_of (read_file b) → Err k ≡ check_of (read_file b)
  unfolding opened_of check_of
  check_faulty k e = go (read_file b) e
    where
      go : (x : Read File) → Err k ≡ opened_of x → Err k ≡ check_of x
      go (got f rest) q = absurd (let z : ◌≡◌ {A = ℕ} 0 1 = cc in omega arith)
      go (fault d) q = let m : k ≡ d = cc in rw m refl

  pub check_sound : (o : Head) → Ok o ≡ opened_of (read_file b) → Ok tt ≡ check_of (read_file b)
  unfolding opened_of check_of
  check_sound o e = go (read_file b) e
    where
      go : (x : Read File) → Ok o ≡ opened_of x → Ok tt ≡ check_of x
      go (got f rest) q = refl
      go (fault d) q = absurd (let z : ◌≡◌ {A = ℕ} 0 1 = cc in omega arith)

  pub rewrite_faulty :
      (k : Fault) → Err k ≡ opened_of (read_file b) → (out : List ℕ) → rewrite_of (read_file b) out ≡ record { answer = Err k; out = out }
  unfolding opened_of rewrite_of
  rewrite_faulty k e out = go (read_file b) e
    where
      go : (x : Read File) → Err k ≡ opened_of x → rewrite_of x out ≡ record { answer = Err k; out = out }
      go (got f rest) q = absurd (let z : ◌≡◌ {A = ℕ} 0 1 = cc in omega arith)
      go (fault d) q = let m : k ≡ d = cc in rw m refl

module _
    (b : List ℕ) (o : Head) (e : Ok o ≡ opened_of (read_file b)) (h : Bytes b) (part : List ℕ)
    (p : part ≡ cond (leb (steps_start o.nodes o.cells + 8 * o.steps) (length b)) (take (8 * o.steps) (drop (steps_start o.nodes o.cells) b)) []) where
  section : (f : File) → read_file b ≡ got f [] → o ≡ head_of f → part ≡ joined step_bytes f.steps
  unfolding head_of
  section f q k = rw k at p ∙ steps_section b f h q

  -- the head and the section are those of the file's own run
  run_back : (f : File) → SoundFile f → read_file b ≡ got f [] → o ≡ head_of f → file_of (head_of f) (steps_to part (head_of f).steps) ≡ f
  unfolding head_of
  run_back f s q k = ap (file_of (head_of f)) (steps_all f s part (section f q k)) ∙ file_back f

  pub rewrite_sound : Stands b o e → (out : List ℕ) → written (file_of o (steps_to part o.steps)) out ≡ rewrite_of (read_file b) out
  unfolding rewrite_of
  rewrite_sound (stands f s q k) out =
      let z : file_of (head_of f) (steps_to part (head_of f).steps) ≡ f = run_back f s q k in
      rw (q, k, z) refl

-- "0 and the same bytes": a sound file that fits is written as it was read, and no byte beyond is touched
pub rewrite_same :
    (b : List ℕ) (f : File) (r : List ℕ) (out : List ℕ) → Bytes b → read_file b ≡ got f r → length b ≤ length out
    → rewrite_of (read_file b) out ≡ record { answer = Ok tt; out = b ++ drop (length b) out }
unfolding rewrite_of written
rewrite_same b f r out h q l =
    let w = written_read b f r h q in
    let t = le-leb _ _ l in
    rw (q, w.1.no_fault, sym w.0, t) refl
