-- Laws of bytes placed among others.
-- Assumes nothing.
use mathlib.Core.Path.{◌≡◌, refl, sym, ap, ◌∙◌}
use mathlib.Core.Bool.{Bool, true, false}
use Prim.Native.Nat.{ℕ, suc, ◌+◌, ◌≤◌, ◌<◌}
use mathlib.Core.List.{List, [], ◌∷◌, ◌++◌, append_assoc}
use native.Mathlib.Nat.{add-zero}
use native.Mathlib.Omega.{arith}
use lib.Dec.{leb}
use lib.ListN.{length, take, drop, set, length-append}
use lib.Seq.{take_at, drop_at, take-set-le, drop-set-lt, length-take-le, set_comm, sets, sets-eq, length-sets}
use borrow.Author.Tests.{le-leb, lt-leb, leb-true, leb-false}
use Rattle.tables.proofs.Choice.{by_test}
use Rattle.text.specs.Text.{decimal, line_of, placed, after}
use Rattle.text.proofs.Lines.{line_parts, line_length}

-- ---- what a test of room comes to

pub room_there : {b : Bool} {m n : ℕ} → b ≡ leb m n → b ≡ true → m ≤ n
room_there e t = leb-true _ _ (sym e ∙ t)

pub room_lacking : {b : Bool} {m n : ℕ} → b ≡ leb m n → b ≡ false → n < m
room_lacking e t = leb-false _ _ (sym e ∙ t)

-- ---- bytes placed

take_sets : (vs l : List ℕ) (i n : ℕ) → n ≤ i → take n (sets l i vs) ≡ take n l
take_sets [] l i n h = refl
take_sets (a ∷ vs) l i n h = take_sets vs (set l i a) (suc i) n (omega arith) ∙ take-set-le n l i a h

drop_sets : (vs l : List ℕ) (i n : ℕ) → i + length vs ≤ n → drop n (sets l i vs) ≡ drop n l
drop_sets [] l i n h = refl
drop_sets (a ∷ vs) l i n h = drop_sets vs (set l i a) (suc i) n (omega arith) ∙ drop-set-lt n l i a (omega arith)

pub sets_append : (vs ws l : List ℕ) (i : ℕ) → sets l i (vs ++ ws) ≡ sets (sets l i vs) (i + length vs) ws
sets_append [] ws l i = rw (add-zero i)
sets_append (a ∷ vs) ws l i = let e : i + suc (length vs) ≡ suc i + length vs = omega arith in rw e (sets_append vs ws (set l i a) (suc i))

-- what is stored beyond may be stored first
pub sets_swap : (vs l : List ℕ) (i j b : ℕ) → i + length vs ≤ j → set (sets l i vs) j b ≡ sets (set l j b) i vs
sets_swap [] l i j b h = refl
sets_swap (a ∷ vs) l i j b h =
    sets_swap vs (set l i a) (suc i) j b (omega arith) ∙ ap (λ (m : List ℕ). sets m (suc i) vs) (set_comm l i j a b (λ e. omega arith))

module _ (len i : ℕ) (bs : List ℕ) where
  pub after_in : i + length bs ≤ len → after len i bs ≡ i + length bs
  unfolding after
  after_in h = rw (le-leb (i + length bs) len h)

  pub after_out : len < i + length bs → after len i bs ≡ i
  unfolding after
  after_out h = rw (lt-leb (i + length bs) len h)

  -- the two cases
  by_end {ℓ} : {A : Type ℓ} → (i + length bs ≤ len → A) → (len < i + length bs → A) → A
  by_end f g = by_test (leb (i + length bs) len) (λ e. f (leb-true _ _ e)) (λ e. g (leb-false _ _ e))

module _ (out : List ℕ) (i : ℕ) (bs : List ℕ) where
  pub placed_in : i + length bs ≤ length out → placed out i bs ≡ sets out i bs
  unfolding placed
  placed_in h = rw (le-leb (i + length bs) (length out) h)

  pub placed_out : length out < i + length bs → placed out i bs ≡ out
  unfolding placed
  placed_out h = rw (lt-leb (i + length bs) (length out) h)

  pub placed_size : length (placed out i bs) ≡ length out
  placed_size = by_end (length out) i bs (λ h. ap length (placed_in h) ∙ length-sets out i bs) (λ h. ap length (placed_out h))

  -- the bytes before and beyond stay
  pub placed_before : (n : ℕ) → n ≤ i → take n (placed out i bs) ≡ take n out
  placed_before n l = by_end (length out) i bs (λ h. ap (take n) (placed_in h) ∙ take_sets bs out i n l) (λ h. ap (take n) (placed_out h))

  pub placed_beyond : (n : ℕ) → i + length bs ≤ n → drop n (placed out i bs) ≡ drop n out
  placed_beyond n l = by_end (length out) i bs (λ h. ap (drop n) (placed_in h) ∙ drop_sets bs out i n l) (λ h. ap (drop n) (placed_out h))

  -- they stand there
  pub placed_there : i + length bs ≤ length out → take (length bs) (drop i (placed out i bs)) ≡ bs
  placed_there h =
      rw (
        placed_in h,
        sets-eq bs out i h,
        append_assoc (take i out) bs (drop (i + length bs) out),
        drop_at (take i out) (bs ++ drop (i + length bs) out) i (length-take-le i out (omega arith)),
        take_at bs (drop (i + length bs) out) (length bs) refl,
      )

-- what a function that places bytes ensures: the place that it returns, and what it leaves
abbrev pub Wrote : List ℕ → ℕ → List ℕ → ℕ → List ℕ → Type 0
Wrote out i bs r out' = (r ≡ after (length out) i bs) × (out' ≡ placed out i bs)

pub wrote_none : (out : List ℕ) (i : ℕ) (bs : List ℕ) → length out < i + length bs → Wrote out i bs i out
wrote_none out i bs h = (sym (after_out (length out) i bs h), sym (placed_out out i bs h))

pub wrote_all : (out : List ℕ) (i : ℕ) (bs out' : List ℕ) → i + length bs ≤ length out → placed out i bs ≡ out' → Wrote out i bs (i + length bs) out'
wrote_all out i bs out' h e = (sym (after_in (length out) i bs h), sym e)

-- one after the other is both at once, where both fit
pub wrote_both :
    (out : List ℕ) (i : ℕ) (xs : List ℕ) (r : ℕ) (mid ys : List ℕ) (s : ℕ) (end : List ℕ)
    → i + length (xs ++ ys) ≤ length out → Wrote out i xs r mid → Wrote mid r ys s end → Wrote out i (xs ++ ys) s end
wrote_both out i xs r mid ys s end h p q =
    let n = length-append xs ys in
    let a : i + length xs ≤ length out = omega arith in
    let e : r ≡ i + length xs = p.0 ∙ after_in (length out) i xs a in
    let f : length mid ≡ length out = ap length p.1 ∙ placed_size out i xs in
    let b : r + length ys ≤ length mid = omega arith in (
      q.0 ∙ after_in (length mid) r ys b ∙ omega arith ∙ sym (after_in (length out) i (xs ++ ys) h),
      q.1 ∙ placed_in mid r ys b ∙ rw (e, p.1, placed_in out i xs a) (sym (sets_append xs ys out i)) ∙ sym (placed_in out i (xs ++ ys) h),
    )

-- the four numbers of a line
pub wrote_line :
    (out : List ℕ) (i a b c d : ℕ) (r : ℕ) (out₁ : List ℕ) (s : ℕ) (out₂ : List ℕ) (t : ℕ) (out₃ : List ℕ) (u : ℕ) (out₄ : List ℕ)
    → i + length (line_of (a ∷ b ∷ c ∷ d ∷ [])) ≤ length out
    → Wrote out i (decimal a ++ (32 ∷ [])) r out₁
    → Wrote out₁ r (decimal b ++ (32 ∷ [])) s out₂
    → Wrote out₂ s (decimal c ++ (32 ∷ [])) t out₃
    → Wrote out₃ t (decimal d ++ (10 ∷ [])) u out₄
    → Wrote out i (line_of (a ∷ b ∷ c ∷ d ∷ [])) u out₄
wrote_line out i a b c d r out₁ s out₂ t out₃ u out₄ h p q v w =
    let l = line_length a b c d in
    let x = wrote_both out i _ r out₁ _ s out₂ (simp length-append (omega arith)) p q in
    let y = wrote_both out i _ s out₂ _ t out₃ (simp length-append (omega arith)) x v in
    let z = wrote_both out i _ t out₃ _ u out₄ (simp length-append (omega arith)) y w in
    rw (line_parts a b c d) z

-- said of what comes out, and of the place
pub placed_both :
    (out : List ℕ) (i : ℕ) (xs ys : List ℕ) → i + length (xs ++ ys) ≤ length out
    → placed (placed out i xs) (after (length out) i xs) ys ≡ placed out i (xs ++ ys)
placed_both out i xs ys h = (wrote_both out i xs _ _ ys _ _ h (refl, refl) (refl, refl)).1

pub placed_then :
    (out : List ℕ) (i : ℕ) (xs ys : List ℕ) → i + length (xs ++ ys) ≤ length out
    → placed (placed out i xs) (i + length xs) ys ≡ placed out i (xs ++ ys)
placed_then out i xs ys h = rw (after_in (length out) i xs (omega (arith, length-append xs ys))) at (placed_both out i xs ys h)

-- no bytes change nothing
pub placed_none : (out : List ℕ) (i : ℕ) → placed out i [] ≡ out
placed_none out i = by_end (length out) i [] (λ h. placed_in out i [] h) (λ h. placed_out out i [] h)
