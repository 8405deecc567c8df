-- Laws of reading: items at places of a file, one after the other, and what was read so far.
-- Assumes nothing.
use mathlib.Core.Path.{◌≡◌, refl, sym, ap, ◌∙◌}
use mathlib.Core.Bool.{true, false}
use mathlib.Core.List.{List, [], ◌∷◌, ◌++◌, append_assoc, append-nil}
use Rattle.std.specs.Prelude.{Option, None, Some, Ok}
use Rattle.std.specs.Option.{ok_or}
use Rattle.std.proofs.lemmas.Option.{none-some}
use Prim.Native.Nat.{ℕ, suc, ◌+◌, ◌*◌, ◌-◌, ◌/◌, ◌^◌, ◌≤◌, ◌<◌}
use native.Mathlib.Nat.{div-eq_of_lt, lt-div-mul-add, add-zero, sub-zero, mul-zero, mul-suc}
use native.Mathlib.Numerals.{add-one}
use native.Mathlib.Omega.{arith}
use lib.Dec.{leb, ltb, eqb, lit<}
use lib.Pow.{pow_pos}
use lib.ListN.{length, take, drop, get_or, length-drop}
use lib.Seq.{drop-drop, get_or-take, get_or-drop}
use borrow.Author.Tests.{le-leb, lt-leb, leb-true, leb-false, lt-ltb, ltb-true, ltb-false, eq-eqb, ne_eqb}
use Rattle.tables.specs.Table.{at}
use Rattle.tables.proofs.Choice.{by_test}
use Rattle.little.specs.Little.{little, number_at}
use Rattle.kinds.specs.declared.Step.{Step}
use Rattle.runfile.specs.File.{
  Read,
  got,
  fault,
  and_then,
  read_bytes,
  read_count,
  read_counter,
  read_cell,
  read_step,
  read_items,
  mask_sound,
  fields_sound,
}
use Rattle.runfile.specs.Parts.{step_in, step_at}
use Rattle.runfile.specs.declared.Fault.{Fault}
use Rattle.runfile.specs.declared.Fault.TheVariants.{Short, Count, Mask, Field}
use Rattle.runfile.proofs.Parts.{number_there, number_not, drop_take, step_there, step_not}

-- ---- what is there, or a fault

pub found : {A E : Type 0} (o : Option A) (c : E) (x : A) → ok_or o c ≡ Ok x → o ≡ Some x
found (Some y) c x e = cc
found None c x e = absurd (let z : ◌≡◌ {A = ℕ} 0 1 = cc in omega arith)

-- ---- the tests

pub mask_in : (nodes mask : ℕ) → (mask ≡ 0 → ⊥) → eqb (mask / 2 ^ nodes) 0 ≡ mask_sound nodes mask
mask_in nodes mask h =
    by_test (ltb mask (2 ^ nodes))
    (λ t. rw (lt-ltb 0 mask (omega arith), t) (eq-eqb _ _ (div-eq_of_lt (ltb-true mask (2 ^ nodes) t))))
    (λ t. let l = lt-div-mul-add {a = mask} {b = 2 ^ nodes} (pow_pos nodes) in
    rw (lt-ltb 0 mask (omega arith), t) (ne_eqb (mask / 2 ^ nodes) 0 (λ e. let m : mask < 0 * 2 ^ nodes + 2 ^ nodes = rw e at l in omega (arith, ltb-false mask (2 ^ nodes) t))))

-- ---- the bytes of an item at a place

module _ (s : List ℕ) (i k : ℕ) where
  pub bytes_there : i + k ≤ length s → read_bytes k (drop i s) ≡ got (take k (drop i s)) (drop (i + k) s)
  unfolding read_bytes
  bytes_there h = rw (le-leb k (length (drop i s)) (omega (arith, length-drop i s)), drop-drop k i s)

  pub bytes_cut : 0 < k → length s < i + k → read_bytes k (drop i s) ≡ fault Short
  unfolding read_bytes
  bytes_cut l h = rw (lt-leb k (length (drop i s)) (omega (arith, length-drop i s)))

-- ---- a count

module _ (s : List ℕ) (i k low high : ℕ) (pos : 0 < k) (few : k ≤ 4) where
  pub count_cut : number_at s i k ≡ None → read_count k low high (drop i s) ≡ fault Short
  unfolding read_count
  count_cut e = rw (bytes_cut s i k pos (number_not s i k few e))

  pub count_low : (x : ℕ) → number_at s i k ≡ Some x → x < low → read_count k low high (drop i s) ≡ fault Count
  unfolding read_count
  count_low x e h = let q = number_there s i k x e in rw (bytes_there s i k q.1, ← q.0, lt-leb low x h)

  pub count_high : (x : ℕ) → number_at s i k ≡ Some x → high < x → low ≤ x → read_count k low high (drop i s) ≡ fault Count
  unfolding read_count
  count_high x e h l = let q = number_there s i k x e in rw (bytes_there s i k q.1, ← q.0, le-leb low x l, lt-leb x high h)

  pub count_in : (x : ℕ) → number_at s i k ≡ Some x → low ≤ x → x ≤ high → read_count k low high (drop i s) ≡ got x (drop (i + k) s)
  unfolding read_count
  count_in x e l h = let q = number_there s i k x e in rw (bytes_there s i k q.1, ← q.0, le-leb low x l, le-leb x high h)

-- ---- a counter, a cell and a step at a place

module _ (s : List ℕ) (i : ℕ) where
  pub counter_there : (x : ℕ) → number_at s i 4 ≡ Some x → read_counter (drop i s) ≡ got x (drop 4 (drop i s))
  unfolding read_counter
  counter_there x e = let q = number_there s i 4 x e in rw (bytes_there s i 4 q.1, q.0, drop-drop 4 i s)

  pub counter_cut : number_at s i 4 ≡ None → read_counter (drop i s) ≡ fault Short
  unfolding read_counter
  counter_cut e = rw (bytes_cut s i 4 (lit< tt) (number_not s i 4 (omega arith) e))

  module _ (nodes v : ℕ) (e : number_at s (i + 1) 4 ≡ Some v) where
    cell_whole : i + 5 ≤ length s
    cell_whole = omega (arith, number_there s (i + 1) 4 v e)

    cell_mask : at (take 5 (drop i s)) 0 0 ≡ get_or s i 0
    unfolding at
    cell_mask = get_or-take 5 (drop i s) 0 0 (lit< tt) ∙ get_or-drop i s 0 0 ∙ ap (λ (k : ℕ). get_or s k 0) (add-zero i)

    cell_value : little (drop 1 (take 5 (drop i s))) ≡ v
    cell_value =
        let h = cell_whole in
        ap little (drop_take 1 4 (drop i s) (omega (arith, length-drop i s)) ∙ ap (take 4) (drop-drop 1 i s)) ∙ sym (number_there s (i + 1) 4 v e).0

    pub cell_there :
        mask_sound nodes (get_or s i 0) ≡ true → read_cell nodes (drop i s) ≡ got (record { mask = get_or s i 0; value = v }) (drop 5 (drop i s))
    unfolding read_cell
    cell_there t = rw (bytes_there s i 5 cell_whole, cell_mask, cell_value, t, drop-drop 5 i s)

    pub cell_bad : mask_sound nodes (get_or s i 0) ≡ false → read_cell nodes (drop i s) ≡ fault Mask
    unfolding read_cell
    cell_bad t = rw (bytes_there s i 5 cell_whole, cell_mask, t)

  pub cell_cut : (nodes : ℕ) → number_at s (i + 1) 4 ≡ None → read_cell nodes (drop i s) ≡ fault Short
  unfolding read_cell
  cell_cut nodes e = rw (bytes_cut s i 5 (lit< tt) (omega (arith, number_not s (i + 1) 4 (omega arith) e)))

module _ (part : List ℕ) (i : ℕ) where
  step_taken : (x : Step) → step_at part i ≡ Some x → (8 * i + 8 ≤ length part) × (x ≡ step_in part i)
  step_taken x e =
      by_test (leb (8 * i + 8) (length part))
      (λ t. let l = leb-true (8 * i + 8) (length part) t in (l, cc (step_there part i l)))
      (λ t. absurd (none-some x (step_not part i (omega (arith, leb-false (8 * i + 8) (length part) t)) ∙ e)))

  pub step_good : (x : Step) → step_at part i ≡ Some x → fields_sound x ≡ true → read_step (drop (8 * i) part) ≡ got (step_in part i) (drop 8 (drop (8 * i) part))
  unfolding read_step
  step_good x e t =
      let q = step_taken x e in
      let u : fields_sound (step_in part i) ≡ true = ap fields_sound (sym q.1) ∙ t in
      rw (bytes_there part (8 * i) 8 q.0, u, drop-drop 8 (8 * i) part)

  pub step_bad : (x : Step) → step_at part i ≡ Some x → fields_sound x ≡ false → read_step (drop (8 * i) part) ≡ fault Field
  unfolding read_step
  step_bad x e t =
      let q = step_taken x e in
      let u : fields_sound (step_in part i) ≡ false = ap fields_sound (sym q.1) ∙ t in
      rw (bytes_there part (8 * i) 8 q.0, u)

  pub step_cut : step_at part i ≡ None → read_step (drop (8 * i) part) ≡ fault Short
  unfolding read_step
  step_cut e =
      by_test (leb (8 * i + 8) (length part))
      (λ t. absurd (none-some _ (sym e ∙ step_there part i (leb-true (8 * i + 8) (length part) t))))
      (λ t. rw (bytes_cut part (8 * i) 8 (lit< tt) (leb-false (8 * i + 8) (length part) t)))

-- ---- items one after the other: what was read so far, and the rest

abbrev prepended : {A : Type 0} → List A → Read (List A) → Read (List A)
prepended xs (got ys r) = got (xs ++ ys) r
prepended xs (fault c) = fault c

prepended_none : {A : Type 0} (x : Read (List A)) → prepended [] x ≡ x
prepended_none (got ys r) = refl
prepended_none (fault c) = refl

prepended_one : {A : Type 0} (xs : List A) (a : A) (x : Read (List A)) → prepended xs (and_then x (λ ys r. got (a ∷ ys) r)) ≡ prepended (xs ++ (a ∷ [])) x
prepended_one xs a (got ys r) = ap (λ (l : List _). got l r) (sym (append_assoc xs (a ∷ []) ys))
prepended_one xs a (fault c) = refl

mul_next : (w i : ℕ) → w * i + w ≡ w * (i + 1)
mul_next w i = rw add-one (omega (arith, mul-suc w i))

module _ {A : Type 0} (f : List ℕ → Read A) (w : ℕ) (s : List ℕ) (n : ℕ) where
  unfoldable pub Left : ℕ → List A → Type 0
  Left i xs = read_items f n s ≡ prepended xs (read_items f (n - i) (drop (w * i) s))

  pub left_none : Left 0 []
  unfolding Left
  left_none = rw (sub-zero n, mul-zero w) (sym (prepended_none (read_items f n s)))

  turn : (i : ℕ) → i < n → read_items f (n - i) (drop (w * i) s)
      ≡ and_then (f (drop (w * i) s)) (λ a r. and_then (read_items f (n - (i + 1)) r) (λ ys t. got (a ∷ ys) t))
  unfolding read_items
  turn i h = let e : n - i ≡ suc (n - (i + 1)) = omega arith in rw e

  pub left_next : (i : ℕ) (xs : List A) (a : A) → i < n → f (drop (w * i) s) ≡ got a (drop w (drop (w * i) s)) → Left i xs → Left (i + 1) (xs ++ (a ∷ []))
  unfolding Left
  left_next i xs a h e l =
      let d : drop w (drop (w * i) s) ≡ drop (w * (i + 1)) s = drop-drop w (w * i) s ∙ ap (λ (k : ℕ). drop k s) (mul_next w i) in
      l ∙ rw (turn i h, e, d) (prepended_one xs a (read_items f (n - (i + 1)) (drop (w * (i + 1)) s)))

  pub left_fault : (i : ℕ) (xs : List A) (c : Fault) → i < n → f (drop (w * i) s) ≡ fault c → Left i xs → read_items f n s ≡ fault c
  unfolding Left
  left_fault i xs c h e l = l ∙ rw (turn i h, e)

  pub left_all : (i : ℕ) (xs : List A) → i ≤ n → n ≤ i → Left i xs → read_items f n s ≡ got xs (drop (w * n) s)
  unfolding Left read_items
  left_all i xs h k l =
      let e : i ≡ n = omega arith in
      let z : n - n ≡ 0 = omega arith in
      (rw e at l) ∙ rw (z, append-nil xs)
