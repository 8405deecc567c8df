-- Laws of opening a file: how far its sections were read decides what it comes to.
-- Assumes nothing.
use mathlib.Core.Path.{◌≡◌, refl, ap, ◌∙◌}
use mathlib.Core.List.{List, [], ◌∷◌}
use Prim.Native.Nat.{ℕ, ◌+◌, ◌*◌, ◌≤◌, ◌<◌}
use native.Mathlib.Omega.{arith}
use lib.ListN.{length, drop, length-drop}
use lib.Seq.{drop-drop}
use Rattle.tables.specs.Table.{at}
use Rattle.runfile.specs.declared.Head.{Head}
use Rattle.runfile.specs.declared.Fault.{Fault}
use Rattle.runfile.specs.declared.Fault.TheVariants.{LeftOver}
use Rattle.runfile.specs.File.{Cell, File, got, fault, and_then, at_end, read_count, read_counter, read_cell, read_step, read_items, read_file}
use Rattle.runfile.specs.Parts.{steps_start, step_in}
use Rattle.runfile.specs.Head.{firsts, cell_in, head_of, opened_of, file_with, by_front, Padded}
use Rattle.std.specs.Prelude.{Ok, Err}
use Rattle.runfile.proofs.Rows.{firsts_size, firsts_map}

-- ---- section by section

module _ (b : List ℕ) where
  pub nodes_faulty : (k : Fault) → read_count 1 1 8 b ≡ fault k → read_file b ≡ fault k
  unfolding read_file
  nodes_faulty k e = rw e

  module _ (n : ℕ) (e₁ : read_count 1 1 8 b ≡ got n (drop 1 b)) where
    pub counters_faulty : (k : Fault) → read_items read_counter n (drop 1 b) ≡ fault k → read_file b ≡ fault k
    unfolding read_file
    counters_faulty k e = rw (e₁, e)

    module _ (xs : List ℕ) (e₂ : read_items read_counter n (drop 1 b) ≡ got xs (drop (4 * n) (drop 1 b))) where
      pub cell_count_faulty : (k : Fault) → read_count 1 1 32 (drop (1 + 4 * n) b) ≡ fault k → read_file b ≡ fault k
      unfolding read_file
      cell_count_faulty k e = rw (e₁, e₂, drop-drop (4 * n) 1 b, e)

      module _ (c : ℕ) (e₃ : read_count 1 1 32 (drop (1 + 4 * n) b) ≡ got c (drop (1 + 4 * n + 1) b)) where
        after_count : drop (1 + 4 * n + 1) b ≡ drop (2 + 4 * n) b
        after_count = let q : 1 + 4 * n + 1 ≡ 2 + 4 * n = omega arith in ap (λ (k : ℕ). drop k b) q

        pub cells_faulty : (k : Fault) → read_items (read_cell n) c (drop (2 + 4 * n) b) ≡ fault k → read_file b ≡ fault k
        unfolding read_file
        cells_faulty k e = rw (e₁, e₂, drop-drop (4 * n) 1 b, e₃, after_count, e)

        module _ (cs : List Cell) (e₄ : read_items (read_cell n) c (drop (2 + 4 * n) b) ≡ got cs (drop (5 * c) (drop (2 + 4 * n) b))) where
          pub step_count_faulty : (k : Fault) → read_count 2 0 4096 (drop (2 + 4 * n + 5 * c) b) ≡ fault k → read_file b ≡ fault k
          unfolding read_file
          step_count_faulty k e = rw (e₁, e₂, drop-drop (4 * n) 1 b, e₃, after_count, e₄, drop-drop (5 * c) (2 + 4 * n) b, e)

          pub front_read :
              (m : ℕ) → read_count 2 0 4096 (drop (2 + 4 * n + 5 * c) b) ≡ got m (drop (2 + 4 * n + 5 * c + 2) b) → read_file b
              ≡ and_then (read_items read_step m (drop (steps_start n c) b)) (λ steps rest. at_end (record { counters = xs; cells = cs; steps = steps }) rest)
          unfolding read_file
          front_read m e =
              let q : 2 + 4 * n + 5 * c + 2 ≡ steps_start n c = omega arith in
              rw (e₁, e₂, drop-drop (4 * n) 1 b, e₃, after_count, e₄, drop-drop (5 * c) (2 + 4 * n) b, e, q)

-- ---- the steps, and the end

pub opened_faulty : (b : List ℕ) (k : Fault) → read_file b ≡ fault k → Err k ≡ opened_of (read_file b)
unfolding opened_of
opened_faulty b k e = rw e

-- a head was read, and p are the bytes past its count of steps
module _
    (b : List ℕ) (h : Head) (t : read_file b ≡ by_front b (Ok h)) (start n : ℕ) (p : List ℕ) (es : start ≡ steps_start h.nodes h.cells)
    (en : n ≡ h.steps) (ep : p ≡ drop start b) where
  by_steps : read_file b ≡ and_then (read_items read_step n p) (λ steps rest. at_end (file_with h steps) rest)
  by_steps = rw (ep, es, en) t

  pub open_steps : (k : Fault) → read_items read_step n p ≡ fault k → read_file b ≡ fault k
  open_steps k e = by_steps ∙ rw e

  module _ (e : read_items read_step n p ≡ got (firsts n (step_in p)) (drop (8 * n) p)) where
    abbrev run : File
    run = file_with h (firsts n (step_in p))

    to_the_end : read_file b ≡ at_end run (drop (8 * n) p)
    to_the_end = by_steps ∙ rw e

    pub open_over : 8 * n < length p → Err LeftOver ≡ opened_of (read_file b)
    open_over l = opened_faulty b LeftOver (to_the_end ∙ go (drop (8 * n) p) (omega (arith, length-drop (8 * n) p)))
      where
        go : (r : List ℕ) → 0 < length r → at_end run r ≡ fault LeftOver
        go [] q = absurd (omega arith)
        go (x ∷ r) q = refl

    all_read : length p ≤ 8 * n → read_file b ≡ got run []
    all_read l = to_the_end ∙ go (drop (8 * n) p) (omega (arith, length-drop (8 * n) p))
      where
        go : (r : List ℕ) → length r ≤ 0 → at_end run r ≡ got run []
        go [] q = refl
        go (x ∷ r) q = absurd (omega arith)

    head_is : Padded h → head_of run ≡ h
    unfolding head_of
    head_is w =
        rw (
          firsts_size h.nodes (λ i. at h.counters i 0),
          firsts_size h.cells (cell_in h.masks h.values),
          firsts_size n (step_in p),
          en,
          w.counters_padded,
          firsts_map (λ (c : Cell). c.mask) h.cells (cell_in h.masks h.values),
          firsts_map (λ (c : Cell). c.value) h.cells (cell_in h.masks h.values),
          w.masks_padded,
          w.values_padded,
        )

    pub open_sound : Padded h → length p ≤ 8 * n → Ok h ≡ opened_of (read_file b)
    unfolding opened_of
    open_sound w l = rw (all_read l, head_is w)
