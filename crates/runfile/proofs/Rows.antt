-- Rows of items by place, and tables whose entries past a count are 0.
-- Assumes nothing.
use mathlib.Core.Path.{◌≡◌, refl, sym, ap, ◌∙◌}
use mathlib.Core.List.{List, [], ◌∷◌, ◌++◌, map}
use Prim.Native.Nat.{ℕ, zero, suc, ◌+◌, ◌-◌, ◌≤◌, ◌<◌}
use native.Mathlib.Numerals.{add-one}
use native.Mathlib.Decide.{ℕ_discrete}
use native.Mathlib.Omega.{arith}
use lib.Dec.{ltb}
use lib.ListN.{length, get_or, length-append, replicate, length-replicate, get_or-append}
use lib.Seq.{get_or_at, get_or-append-add}
use borrow.Author.Tests.{ltb-true, ltb-false}
use Rattle.tables.specs.Table.{at, put}
use Rattle.tables.proofs.Table.{put_other, same_table, at_all, at_past}
use Rattle.tables.proofs.Choice.{by_test}
use Rattle.runfile.specs.Head.{firsts, padded}

-- ---- a row of items by place

pub firsts_next : {A : Type 0} (i : ℕ) (g : ℕ → A) → firsts (i + 1) g ≡ firsts i g ++ (g i ∷ [])
unfolding firsts
firsts_next i g = rw add-one

pub firsts_same : {A : Type 0} (k : ℕ) (g h : ℕ → A) → ((i : ℕ) → i < k → g i ≡ h i) → firsts k g ≡ firsts k h
unfolding firsts
firsts_same zero g h e = refl
firsts_same (suc k) g h e = rw (firsts_same k g h (λ i l. e i (omega arith)), e k (omega arith))

pub firsts_changed : {A : Type 0} (i : ℕ) (g h : ℕ → A) (a : A) → ((j : ℕ) → j < i → h j ≡ g j) → h i ≡ a → firsts (i + 1) h ≡ firsts i g ++ (a ∷ [])
firsts_changed i g h a e q = firsts_next i h ∙ rw (firsts_same i h g e, q)

pub firsts_size : {A : Type 0} (k : ℕ) (g : ℕ → A) → length (firsts k g) ≡ k
unfolding firsts
firsts_size zero g = refl
firsts_size (suc k) g = length-append (firsts k g) (g k ∷ []) ∙ omega (arith, firsts_size k g)

map_snoc : {A B : Type 0} (f : A → B) (xs : List A) (a : A) → map f (xs ++ (a ∷ [])) ≡ map f xs ++ (f a ∷ [])
map_snoc f [] a = refl
map_snoc f (x ∷ xs) a = ap (◌∷◌ (f x)) (map_snoc f xs a)

pub firsts_map : {A B : Type 0} (f : A → B) (k : ℕ) (g : ℕ → A) → map f (firsts k g) ≡ firsts k (λ i. f (g i))
unfolding firsts
firsts_map f zero g = refl
firsts_map f (suc k) g = map_snoc f (firsts k g) (g k) ∙ ap (λ (l : List _). l ++ (f (g k) ∷ [])) (firsts_map f k g)

pub at_firsts : {A : Type 0} (k : ℕ) (g : ℕ → A) (i : ℕ) (d : A) → i < k → at (firsts k g) i d ≡ g i
unfolding firsts at
at_firsts zero g i d h = absurd (omega arith)
at_firsts (suc k) g i d h = elim (ℕ_discrete i k) [
  | yes e ↦ rw e (get_or_at (firsts k g) (g k) [] d k (firsts_size k g))
  | no e ↦
      let l : i < k = omega arith in
      get_or-append (firsts k g) (g k ∷ []) d i (rw (firsts_size k g) l) ∙ at_firsts k g i d l
]

-- ---- a table whose entries past the count are 0

abbrev pub Blank : ℕ → List ℕ → Type 0
Blank i l = (j : ℕ) → i ≤ j → at l j 0 ≡ 0

pub blank_all : (k : ℕ) → Blank 0 (replicate k 0)
blank_all k j h =
    by_test (ltb j k) (λ t. at_all k j 0 0 (ltb-true j k t)) (λ t. at_past (replicate k 0) j 0 (rw (length-replicate {A = ℕ} k 0) (ltb-false j k t)))

pub blank_put : (i : ℕ) (l : List ℕ) (x : ℕ) → Blank i l → Blank (i + 1) (put l i x)
blank_put i l x b j h = put_other l i x j 0 (λ e. omega arith) ∙ b j (omega arith)

pub blank_more : (i n : ℕ) (l : List ℕ) → i ≤ n → Blank i l → Blank n l
blank_more i n l h b j k = b j (omega arith)

past_zeros : (xs : List ℕ) (m i : ℕ) → length xs ≤ i → at (xs ++ replicate m 0) i 0 ≡ 0
unfolding at
past_zeros xs m i h =
    let e : i ≡ length xs + (i - length xs) = omega arith in
    ap (λ (j : ℕ). get_or (xs ++ replicate m 0) j 0) e ∙ get_or-append-add xs (replicate m 0) (i - length xs) 0 ∙ blank_all m (i - length xs) (omega arith)

pub padded_blank : (n k : ℕ) (l : List ℕ) → length l ≡ k → n ≤ k → Blank n l → padded k (firsts n (λ i. at l i 0)) ≡ l
unfolding padded at
padded_blank n k l e h b =
    let g : ℕ → ℕ = λ i. at l i 0 in
    let s = firsts_size n g in
    let m = k - length (firsts n g) in
    same_table 0 (firsts n g ++ replicate m 0) l (length-append (firsts n g) (replicate m 0) ∙ omega (arith, length-replicate {A = ℕ} m 0)) (λ i h'.
    by_test (ltb i n)
    (λ t. let q : i < length (firsts n g) = omega (arith, ltb-true i n t) in
    get_or-append (firsts n g) (replicate m 0) 0 i q ∙ at_firsts n g i 0 (ltb-true i n t))
    (λ t. past_zeros (firsts n g) m i (omega (arith, ltb-false i n t)) ∙ sym (b i (ltb-false i n t))))
