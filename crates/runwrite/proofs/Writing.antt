-- Laws of writing: a run's bytes, stored section by section.
-- Assumes nothing.
use mathlib.Core.Path.{◌≡◌, refl, sym, ap, ap₂, ◌∙◌}
use mathlib.Core.List.{List, [], ◌∷◌, ◌++◌, append_assoc, append-nil}
use Rattle.std.specs.Prelude.{None, Some, Ok, Err}
use Prim.Native.Nat.{ℕ, suc, ◌+◌, ◌*◌, ◌/◌, ◌%◌, ◌≤◌, ◌<◌}
use native.Mathlib.Nat.{add-zero, zero-add}
use native.Mathlib.Numerals.{add-one}
use native.Mathlib.Omega.{arith}
use lib.ListN.{length, set, length-set}
use lib.Seq.{sets, sets-eq, length-sets}
use borrow.Author.Tests.{le-leb, lt-leb}
use Rattle.tables.specs.Table.{at}
use Rattle.tables.specs.Pair.{word}
use Rattle.kinds.specs.declared.Step.{Step}
use Rattle.little.specs.Little.{digits, stored}
use Rattle.little.proofs.Laws.{fits_in, stored_in, digits_size}
use Rattle.runfile.specs.declared.Head.{Head}
use Rattle.runfile.specs.File.{File, fault_of, bytes_of, joined, cell_bytes, step_bytes}
use Rattle.runfile.specs.Parts.{steps_start}
use Rattle.runfile.specs.Head.{firsts, cell_in}
use Rattle.runfile.specs.declared.Fault.{Fault}
use Rattle.runfile.specs.declared.Fault.TheVariants.{Room}
use Rattle.runwrite.specs.Writing.{word_of, file_of, written}
use Rattle.runfile.proofs.Items.{Item, joined_append, joined_size}
use Rattle.runfile.proofs.BothWays.{passes_when}
use Rattle.runfile.proofs.FileItems.{StepFits, counter_item, cell_item}
use Rattle.runfile.proofs.Parts.{file_size}
use Rattle.runfile.proofs.Rows.{firsts_next, firsts_size}
use Rattle.runwrite.proofs.Judging.{counters_size, cells_size, steps_are}
use Rattle.runwrite.proofs.Words.{number_bytes}

-- ---- stored one after the other

pub sets_append : (vs l : List ℕ) (i : ℕ) (ws : List ℕ) → sets l i (vs ++ ws) ≡ sets (sets l i vs) (i + length vs) ws
sets_append [] l i ws = rw (add-zero i)
sets_append (v ∷ vs) l i ws = sets_append vs (set l i v) (suc i) ws ∙ ap (λ (k : ℕ). sets (sets (set l i v) (suc i) vs) k ws) (omega arith)

-- a number of k bytes
pub put_number : (o : List ℕ) (p k x : ℕ) → k ≤ 4 → p + k ≤ length o → stored o p k x ≡ sets o p (digits k x)
put_number o p k x h l = stored_in o p k x (fits_in (length o) p k h l)

module _ {A : Type 0} (I : Item A) (out : List ℕ) (start : ℕ) (g : ℕ → A) where
  -- o is the output after i items
  abbrev pub Put : ℕ → List ℕ → Type 0
  Put i o = o ≡ sets out start (joined I.bytes (firsts i g))

  pub put_none : Put 0 out
  unfolding firsts joined
  put_none = refl

  pub put_next : (i : ℕ) (o o' : List ℕ) → Put i o → o' ≡ sets o (start + I.width * i) (I.bytes (g i)) → Put (i + 1) o'
  unfolding joined
  put_next i o o' e w =
      let j = joined I.bytes (firsts i g) in
      let s : length j ≡ I.width * i = joined_size I (firsts i g) ∙ ap (λ (k : ℕ). I.width * k) (firsts_size i g) in
      let q : joined I.bytes (firsts (i + 1) g) ≡ j ++ I.bytes (g i) =
      ap (joined I.bytes) (firsts_next i g) ∙ joined_append I.bytes (firsts i g) (g i ∷ []) ∙ ap (◌++◌ j) (append-nil (I.bytes (g i))) in
      w ∙ rw (q, sets_append j out start (I.bytes (g i)), s, e)

  pub put_end : (i n : ℕ) (o : List ℕ) → i ≤ n → n ≤ i → Put i o → Put n o
  put_end i n o h l e = let q : i ≡ n = omega arith in rw q at e

-- what is stored for a counter, a cell and a step
pub counter_stored : (o : List ℕ) (p x : ℕ) → p + 4 ≤ length o → stored o p 4 x ≡ sets o p (digits 4 x)
counter_stored o p x h = put_number o p 4 x (omega arith) h

pub cell_stored :
    (o : List ℕ) (p m v : ℕ) → p + 5 ≤ length o → stored (set o p m) (p + 1) 4 v ≡ sets o p (cell_bytes (record { mask = m; value = v }))
cell_stored o p m v h =
    put_number (set o p m) (p + 1) 4 v (omega arith) (omega (arith, length-set o p m)) ∙ ap (λ (k : ℕ). sets (set o p m) k (digits 4 v)) (add-one p)

-- the two halves of a step's number, one after the other, however they and their places are come by
pub step_stored :
    (o o₁ o₂ : List ℕ) (p p₁ p₂ low high : ℕ) (x : Step) → StepFits x → p + 8 ≤ length o
    → low ≡ word_of x % word → high ≡ word_of x / word → p₁ ≡ p → p₂ ≡ p + 4
    → o₁ ≡ stored o p₁ 4 low → o₂ ≡ stored o₁ p₂ 4 high → o₂ ≡ sets o p (step_bytes x)
step_stored o o₁ o₂ p p₁ p₂ low high x f h l u q₁ q₂ e₁ e₂ =
    let a = digits 4 low in
    let s₁ : o₁ ≡ sets o p a = e₁ ∙ rw q₁ (put_number o p 4 low (omega arith) (omega arith)) in
    let s₂ : o₂ ≡ sets (sets o p a) (p + 4) (digits 4 high) =
    e₂ ∙ rw (q₂, s₁) (put_number (sets o p a) (p + 4) 4 high (omega arith) (omega (arith, length-sets o p a))) in
    s₂ ∙ rw (number_bytes x f, ← l, ← u, sets_append a o p (digits 4 high), digits_size 4 low)

-- ---- a count and what it counts

pub tail_stored :
    (o o₁ o₂ : List ℕ) (p m : ℕ) (s : List ℕ) → p + 2 ≤ length o → o₁ ≡ stored o p 2 m → o₂ ≡ sets o₁ (p + 2) s → o₂ ≡ sets o p (digits 2 m ++ s)
tail_stored o o₁ o₂ p m s h e₁ e₂ =
    e₂ ∙ ap (λ (t : List ℕ). sets t (p + 2) s) (e₁ ∙ put_number o p 2 m (omega arith) h)
    ∙ sym (sets_append (digits 2 m) o p s ∙ ap (λ (k : ℕ). sets (sets o p (digits 2 m)) (p + k) s) (digits_size 2 m))

-- ---- all sections

regroup : (a b d s : List ℕ) → a ++ b ++ d ++ s ≡ a ++ (b ++ (d ++ s))
regroup a b d s = append_assoc (a ++ b) d s ∙ append_assoc a b (d ++ s)

module _ (h : Head) (steps : List Step) where
  -- the three sections
  abbrev pub nodes_bytes : List ℕ
  nodes_bytes = h.nodes ∷ joined (digits 4) (firsts h.nodes (λ i. at h.counters i 0))

  abbrev pub table_bytes : List ℕ
  table_bytes = h.cells ∷ joined cell_bytes (firsts h.cells (cell_in h.masks h.values))

  abbrev pub tail_bytes : List ℕ
  tail_bytes = digits 2 (length steps) ++ joined step_bytes steps

  bytes_by_section : bytes_of (file_of h steps) ≡ nodes_bytes ++ (table_bytes ++ tail_bytes)
  unfolding bytes_of file_of
  bytes_by_section =
      rw (firsts_size h.nodes (λ i. at h.counters i 0), firsts_size h.cells (cell_in h.masks h.values))
      (regroup nodes_bytes table_bytes (digits 2 (length steps)) (joined step_bytes steps))

  nodes_width : length nodes_bytes ≡ 1 + 4 * h.nodes
  nodes_width = omega (arith, joined_size counter_item (firsts h.nodes (λ i. at h.counters i 0)), firsts_size h.nodes (λ i. at h.counters i 0))

  table_width : length table_bytes ≡ 1 + 5 * h.cells
  table_width =
      omega (arith, joined_size (cell_item 0) (firsts h.cells (cell_in h.masks h.values)), firsts_size h.cells (cell_in h.masks h.values))

  pub filled :
      (o₀ o₁ o₂ o₃ : List ℕ) (n c : ℕ) → n ≡ h.nodes → c ≡ h.cells → o₁ ≡ sets o₀ 0 nodes_bytes → o₂ ≡ sets o₁ (1 + 4 * n) table_bytes
      → o₃ ≡ sets o₂ (2 + 4 * n + 5 * c) tail_bytes → o₃ ≡ sets o₀ 0 (bytes_of (file_of h steps))
  filled o₀ o₁ o₂ o₃ n c en ec e₁ e₂ e₃ =
      let p₁ : 0 + length nodes_bytes ≡ 1 + 4 * n = omega (arith, nodes_width) in
      let p₂ : 1 + 4 * n + length table_bytes ≡ 2 + 4 * n + 5 * c = omega (arith, table_width) in
      sym (ap (sets o₀ 0) bytes_by_section ∙ sets_append nodes_bytes o₀ 0 (table_bytes ++ tail_bytes)
      ∙ ap₂ (λ (o : List ℕ) (p : ℕ). sets o p (table_bytes ++ tail_bytes)) (sym e₁) p₁ ∙ sets_append table_bytes o₁ (1 + 4 * n) tail_bytes
      ∙ ap₂ (λ (o : List ℕ) (p : ℕ). sets o p tail_bytes) (sym e₂) p₂ ∙ sym e₃)

-- ---- the outcome

module _ (f : File) (out : List ℕ) where
  pub written_faulty : (c : Fault) → fault_of f ≡ Some c → written f out ≡ record { answer = Err c; out = out }
  unfolding written
  written_faulty c e = rw e

  pub written_short : fault_of f ≡ None → length out < length (bytes_of f) → written f out ≡ record { answer = Err Room; out = out }
  unfolding written
  written_short e l = rw (e, lt-leb (length (bytes_of f)) (length out) l)

  pub written_whole : fault_of f ≡ None → length (bytes_of f) ≤ length out → written f out ≡ record { answer = Ok tt; out = sets out 0 (bytes_of f) }
  unfolding written
  written_whole e l =
      rw (e, le-leb (length (bytes_of f)) (length out) l, sets-eq (bytes_of f) out 0 (omega arith), zero-add (length (bytes_of f)))

-- a head and steps that have no fault: their counts, and the length of their file
module _ (h : Head) (steps : List Step) (e : fault_of (file_of h steps) ≡ None) where
  pub counts_low : (h.nodes ≤ 8) × (h.cells ≤ 32) × (length steps ≤ 4096)
  counts_low =
      let p = passes_when (file_of h steps) e in
      (rw (counters_size h steps) at p.nodes_high, rw (cells_size h steps) at p.cells_high, rw (steps_are h steps) at p.steps_high)

  pub size_is : length (bytes_of (file_of h steps)) ≡ steps_start h.nodes h.cells + 8 * length steps
  size_is =
      let p = passes_when (file_of h steps) e in
      rw (file_size (file_of h steps) p, counters_size h steps, cells_size h steps, steps_are h steps)
