-- An input longer than the longest file is judged by its first 32,965 bytes: what comes after them changes nothing.
-- Assumes nothing.
use mathlib.Core.Path.{◌≡◌, refl, sym, ap, ◌∙◌}
use mathlib.Core.Bool.{Bool, true, false, ◌&&◌}
use mathlib.Core.List.{List, [], ◌∷◌, ◌++◌}
use Prim.Native.Nat.{ℕ, zero, suc, ◌+◌, ◌*◌, ◌≤◌}
use native.Mathlib.Omega.{arith}
use lib.Dec.{leb}
use lib.ListN.{length, take, drop, length-append, length-drop, take-append-drop}
use lib.Seq.{length-take-le, take-append-le, drop-append-le}
use borrow.Author.Tests.{le-leb, leb-true}
use Rattle.tables.specs.Table.{at}
use Rattle.tables.proofs.Choice.{by_test, and_true}
use Rattle.runfile.specs.declared.Fault.{Fault}
use Rattle.runfile.specs.declared.Fault.TheVariants.{Short, Count, Mask, Field}
use Rattle.little.specs.Little.{little}
use Rattle.runfile.specs.File.{File, Read, got, fault, and_then, read_bytes, tested, read_count, read_counter, read_cell, read_step, read_items, at_end, read_file, mask_sound, fields_sound, cell_from, step_from}
use Rattle.runfile.proofs.Items.{and_then_lem}
use Rattle.runfile.proofs.Items as Items

-- x is what some bytes give, y what they give with q after them: the same, and at least n bytes are left
data Same {A : Type 0} (q : List ℕ) (n : ℕ) (x y : Read A) : Type 0 where
  same_got : (a : A) (rest : List ℕ) → x ≡ got a rest → y ≡ got a (rest ++ q) → n ≤ length rest → Same q n x y
  same_fault : (c : Fault) → x ≡ fault c → y ≡ fault c → Same q n x y

module _ (q : List ℕ) where
  then :
      {A B : Type 0} (n m : ℕ) (x y : Read A) (f : A → List ℕ → Read B) → Same q n x y
      → ((a : A) (rest : List ℕ) → x ≡ got a rest → n ≤ length rest → Same q m (f a rest) (f a (rest ++ q)))
      → Same q m (and_then x f) (and_then y f)
  then n m x y f (same_got a rest e e' l) g = rw (e, e') (g a rest e l)
  then n m x y f (same_fault c e e') g = same_fault c (ap (λ (z : Read _). and_then z f) e) (ap (λ (z : Read _). and_then z f) e')

  bytes_same : (k n : ℕ) (p : List ℕ) → k + n ≤ length p → Same q n (read_bytes k p) (read_bytes k (p ++ q))
  unfolding read_bytes
  bytes_same k n p h =
      same_got (take k p) (drop k p) (rw (le-leb k (length p) (omega arith)))
      (rw (le-leb k (length (p ++ q)) (omega (arith, length-append p q)), take-append-le k p q (omega arith), drop-append-le k p q (omega arith)))
      (omega (arith, length-drop k p))

  -- an item of k bytes that is made of them and tested
  item_same :
      {A : Type 0} (k n : ℕ) (ok : List ℕ → Bool) (code : Fault) (from : List ℕ → A) (p : List ℕ) → k + n ≤ length p
      → Same q n (and_then (read_bytes k p) (λ i rest. tested (ok i) code (from i) rest)) (and_then (read_bytes k (p ++ q)) (λ i rest. tested (ok i) code (from i) rest))
  item_same k n ok code from p h =
      then n n (read_bytes k p) (read_bytes k (p ++ q)) (λ i rest. tested (ok i) code (from i) rest) (bytes_same k n p h) (λ i rest e l.
      by_test (ok i) (λ t. same_got (from i) rest (rw t) (rw t) l) (λ t. same_fault code (rw t) (rw t)))

  -- that many items of w bytes each
  items_same :
      {A : Type 0} (f : List ℕ → Read A) (w : ℕ) → ((n : ℕ) (p : List ℕ) → w + n ≤ length p → Same q n (f p) (f (p ++ q)))
      → (k n : ℕ) (p : List ℕ) → w * k + n ≤ length p → Same q n (read_items f k p) (read_items f k (p ++ q))
  unfolding read_items
  items_same f w s zero n p h = same_got [] p refl refl (omega arith)
  items_same f w s (suc k) n p h =
      then (w * k + n) n (f p) (f (p ++ q)) _ (s (w * k + n) p (omega arith)) (λ a rest e l.
      then n n (read_items f k rest) (read_items f k (rest ++ q)) _ (items_same f w s k n rest l) (λ more left e' l'. same_got _ left refl refl l'))

  count_same : (k low high n : ℕ) (p : List ℕ) → k + n ≤ length p → Same q n (read_count k low high p) (read_count k low high (p ++ q))
  unfolding read_count
  count_same k low high n p h = item_same k n (λ i. leb low (little i) && leb (little i) high) Count little p h

  counter_same : (n : ℕ) (p : List ℕ) → 4 + n ≤ length p → Same q n (read_counter p) (read_counter (p ++ q))
  unfolding read_counter
  counter_same n p h = item_same 4 n (λ i. true) Short little p h

  cell_same : (nodes n : ℕ) (p : List ℕ) → 5 + n ≤ length p → Same q n (read_cell nodes p) (read_cell nodes (p ++ q))
  unfolding read_cell at
  cell_same nodes n p h = item_same 5 n (λ i. mask_sound nodes (at i 0 0)) Mask cell_from p h

  step_same : (n : ℕ) (p : List ℕ) → 8 + n ≤ length p → Same q n (read_step p) (read_step (p ++ q))
  unfolding read_step
  step_same n p h = item_same 8 n (λ i. fields_sound (step_from i)) Field step_from p h

tested_got : (ok : Bool) (code : Fault) (a x : ℕ) (r rest : List ℕ) → tested ok code a r ≡ got x rest → (ok ≡ true) × (a ≡ x)
tested_got true code a x r rest e = (refl, cc)
tested_got false code a x r rest e = absurd (let z : ◌≡◌ {A = ℕ} 0 1 = cc in omega arith)

-- a count that was read is in its range
count_high : (k low high : ℕ) (p : List ℕ) (x : ℕ) (rest : List ℕ) → read_count k low high p ≡ got x rest → x ≤ high
unfolding read_count
count_high k low high p x rest e =
    elim (and_then_lem (read_bytes k p) _ x rest e) [
      | Items.then i r e₁ h ↦
          let t = tested_got (leb low (little i) && leb (little i) high) Count (little i) x r rest h in
          rw t.1 at (leb-true (little i) high (and_true (leb low (little i)) (leb (little i) high) t.0).1)
    ]

-- so the whole comes to the same, if what follows does
then_equal :
    {A B : Type 0} (q : List ℕ) (n : ℕ) (x y : Read A) (f : A → List ℕ → Read B) → Same q n x y
    → ((a : A) (rest : List ℕ) → x ≡ got a rest → n ≤ length rest → f a (rest ++ q) ≡ f a rest)
    → and_then y f ≡ and_then x f
then_equal q n x y f (same_got a rest e e' l) g = rw (e, e') (g a rest e l)
then_equal q n x y f (same_fault c e e') g = rw (e, e')

-- bytes are left over, with or without those after them
end_equal : (q : List ℕ) (f : File) (rest : List ℕ) → 1 ≤ length rest → at_end f (rest ++ q) ≡ at_end f rest
end_equal q f [] h = absurd (omega arith)
end_equal q f (x ∷ xs) h = refl

-- each section leaves more bytes than those after it can take
file_equal : (p q : List ℕ) → 32965 ≤ length p → read_file (p ++ q) ≡ read_file p
unfolding read_file
file_equal p q h =
    then_equal q 32964 _ _ _ (count_same q 1 1 8 32964 p (omega arith)) (λ n b₁ e₁ l₁.
    then_equal q 32932 _ _ _ (items_same q read_counter 4 (counter_same q) n 32932 b₁ (omega (arith, count_high 1 1 8 p n b₁ e₁))) (λ counters b₂ e₂ l₂.
    then_equal q 32931 _ _ _ (count_same q 1 1 32 32931 b₂ (omega arith)) (λ c b₃ e₃ l₃.
    then_equal q 32771 _ _ _ (items_same q (read_cell n) 5 (cell_same q n) c 32771 b₃ (omega (arith, count_high 1 1 32 b₂ c b₃ e₃))) (λ cells b₄ e₄ l₄.
    then_equal q 32769 _ _ _ (count_same q 2 0 4096 32769 b₄ (omega arith)) (λ m b₅ e₅ l₅.
    then_equal q 1 _ _ _ (items_same q read_step 8 (step_same q) m 1 b₅ (omega (arith, count_high 2 0 4096 b₄ m b₅ e₅))) (λ steps rest e₆ l₆.
    end_equal q _ rest l₆))))))

pub longer_input : (b : List ℕ) → 32965 ≤ length b → read_file (take 32965 b) ≡ read_file b
longer_input b h = sym (file_equal (take 32965 b) (drop 32965 b) (omega (arith, length-take-le 32965 b h))) ∙ ap read_file (take-append-drop 32965 b)
