-- A run that is judged by loops over its tables.
-- Assumes nothing.
use mathlib.Core.Path.{◌≡◌, refl, sym, ap, ◌∙◌}
use mathlib.Core.Bool.{Bool, true, false, cond, not, ◌&&◌, ◌||◌}
use mathlib.Core.List.{List, [], ◌∷◌, ◌++◌}
use Rattle.std.specs.Prelude.{None, Some}
use Prim.Native.Nat.{ℕ, zero, suc, ◌≤◌, ◌<◌}
use lib.Dec.{leb}
use lib.ListN.{length}
use borrow.Author.Tests.{leb-true}
use Rattle.tables.specs.Table.{at}
use Rattle.tables.specs.Loop.{every}
use Rattle.tables.proofs.Choice.{not_both}
use Rattle.tables.proofs.Loop.{every_not, every_end}
use Rattle.tables.proofs.Table.{same_table}
use Rattle.kinds.specs.declared.Step.{Step}
use Rattle.runfile.specs.declared.Head.{Head}
use Rattle.runfile.specs.declared.Fault.TheVariants.{Count, Mask, Field}
use Rattle.runfile.specs.File.{Cell, mask_sound, fields_sound, some_bad, fault_of}
use Rattle.runfile.specs.Head.{firsts, cell_in}
use Rattle.runwrite.specs.Writing.{file_of}
use Rattle.runfile.proofs.Rows.{firsts_size, at_firsts}

-- ---- judged by loops

bad_append : {A : Type 0} (ok : A → Bool) (xs ys : List A) → some_bad ok (xs ++ ys) ≡ (some_bad ok xs || some_bad ok ys)
unfolding some_bad
bad_append ok [] ys = refl
bad_append ok (a ∷ xs) ys = rw (bad_append ok xs ys) (go (not (ok a)) (some_bad ok xs) (some_bad ok ys))
  where
    go : (a b c : Bool) → (a || (b || c)) ≡ ((a || b) || c)
    go true b c = refl
    go false b c = refl

pub bad_every : {A : Type 0} (ok : A → Bool) (k : ℕ) (g : ℕ → A) → some_bad ok (firsts k g) ≡ not (every k (λ i. ok (g i)))
unfolding some_bad firsts every
bad_every ok zero g = refl
bad_every ok (suc k) g = bad_append ok (firsts k g) (g k ∷ []) ∙ rw (bad_every ok k g) (go (every k (λ i. ok (g i))) (ok (g k)))
  where
    go : (a b : Bool) → (not a || (not b || false)) ≡ not (a && b)
    go true true = refl
    go true false = refl
    go false b = refl

pub firsts_all : {A : Type 0} (l : List A) (d : A) → firsts (length l) (λ i. at l i d) ≡ l
firsts_all {A = A} l d =
    let g : ℕ → A = λ i. at l i d in
    same_table d (firsts (length l) g) l (firsts_size (length l) g) (λ i h. at_firsts (length l) g i d (rw (firsts_size (length l) g) at h))

-- what an index past the end would give
abbrev pub no_step : Step
no_step = record { kind = 0; slot = 0; node = 0; cell = 0; value = 0 }

-- the steps one by one
module _ (steps : List Step) where
  abbrev pub steps_pass : ℕ → Bool
  steps_pass k = every k (λ i. fields_sound (at steps i no_step))

  by_one : some_bad fields_sound steps ≡ not (steps_pass (length steps))
  by_one = ap (some_bad fields_sound) (sym (firsts_all steps no_step)) ∙ bad_every fields_sound (length steps) (λ i. at steps i no_step)

  pub one_unsound : (i : ℕ) → i < length steps → fields_sound (at steps i no_step) ≡ false → false ≡ not (some_bad fields_sound steps)
  one_unsound i h e = rw (by_one, every_not _ (length steps) i h e) refl

  pub all_sound : (i : ℕ) → i ≤ length steps → length steps ≤ i → steps_pass i ≡ true → true ≡ not (some_bad fields_sound steps)
  all_sound i h l e = rw (by_one, every_end _ i (length steps) h l e) refl

four_true : (a b c d : Bool) → (a && b && c && d) ≡ true → (a ≡ true) × (b ≡ true) × (c ≡ true) × (d ≡ true)
four_true true true true d e = (refl, refl, refl, e)
four_true true true false d e = absurd (not_both e refl)
four_true true false c d e = absurd (not_both e refl)
four_true false b c d e = absurd (not_both e refl)

module _ (h : Head) (steps : List Step) where
  pub counters_size : length (file_of h steps).counters ≡ h.nodes
  unfolding file_of
  counters_size = firsts_size h.nodes (λ i. at h.counters i 0)

  pub cells_size : length (file_of h steps).cells ≡ h.cells
  unfolding file_of
  cells_size = firsts_size h.cells (cell_in h.masks h.values)

  pub steps_are : (file_of h steps).steps ≡ steps
  unfolding file_of
  steps_are = refl

  abbrev masks_pass : Bool
  masks_pass = every h.cells (λ i. mask_sound h.nodes (at h.masks i 0))

  masks_bad : some_bad (λ (c : Cell). mask_sound h.nodes c.mask) (file_of h steps).cells ≡ not masks_pass
  unfolding file_of
  masks_bad = bad_every (λ (c : Cell). mask_sound h.nodes c.mask) h.cells (cell_in h.masks h.values)

  -- the faults by the head's own tables
  pub fault_shape :
      fault_of (file_of h steps)
      ≡ cond (not (leb 1 h.nodes && leb h.nodes 8) || not (leb 1 h.cells && leb h.cells 32)) (Some Count)
      (cond (not masks_pass) (Some Mask) (cond (not (leb (length steps) 4096)) (Some Count) (cond (some_bad fields_sound steps) (Some Field) None)))
  unfolding fault_of
  fault_shape = rw (counters_size, cells_size, steps_are, masks_bad)

  pub counts_in : (leb 1 h.nodes && leb h.nodes 8 && leb 1 h.cells && leb h.cells 32) ≡ true → (h.nodes ≤ 8) × (h.cells ≤ 32)
  counts_in e =
      let q = four_true (leb 1 h.nodes) (leb h.nodes 8) (leb 1 h.cells) (leb h.cells 32) e in
      (leb-true h.nodes 8 q.1, leb-true h.cells 32 q.3)
