-- `(0..k).filter(p).min_by_key(f)` finds the number below k that passes p at which f is least, the first of such.
-- Assumes nothing.
use mathlib.Core.Path.{◌≡◌, refl, sym, ap, ap₂, ◌∙◌}
use mathlib.Core.Bool.{Bool, cond}
use mathlib.Core.List.{List, [], ◌∷◌}
use Prim.Native.Nat.{ℕ, ◌<◌}
use native.Mathlib.Omega.{arith}
use lib.Dec.{ltb}
use borrow.Author.Tests.{lt-ltb, le-ltb}
use denote.Param.Members.{Mut}
use denote.Ref.{Bor}
use Rattle.std.specs.Prelude.{Option, None, Some}
use Rattle.std.specs.List.{FoldsTo, fold, reduce, filter, range_with_len}
use Rattle.std.specs.Fn.{CalledAt}
use Rattle.std.specs.Iterator.{KeyTurn, PicksByKey}
use Rattle.std.proofs.Common.{Ordering, Less, Equal, Greater}
use Rattle.std.specs.Ordering.{MatchOrdering, nat_cmp, min_by_ordering}
use Rattle.std.proofs.lemmas.Cmp.{ranked}
use Rattle.std.proofs.lemmas.Iterator.{YieldsList}
use Rattle.std.proofs.lemmas.Iterator.Consumers.{reduce_from_yields_List}
use Rattle.tables.specs.Loop.{lesser, least_at}
use Rattle.tables.proofs.Choice.{by_test, some_none}
use Rattle.tables.proofs.Loop.{Least, no_least, least, least_is}
use Rattle.tables.proofs.Ranges.{turns_list}

-- of a and b, the one at which f is less; a where f is the same
abbrev pub lower : (ℕ → ℕ) → ℕ → ℕ → ℕ
lower f a b = min_by_ordering (nat_cmp (f a) (f b)) a b

lesser_is : (f : ℕ → ℕ) (a b : ℕ) → Some (lower f a b) ≡ lesser f b (Some a)
unfolding lesser
lesser_is f a b = go (nat_cmp (f a) (f b)) (ranked (f a) (f b) _ refl)
  where
    go : (o : Ordering) → MatchOrdering o (f a < f b) (f a ≡ f b) (f b < f a)
        → Some (min_by_ordering o a b) ≡ cond (ltb (f b) (f a)) (Some b) (Some a)
    go Less h = rw (le-ltb (f b) (f a) (omega arith))
    go Equal h = rw (le-ltb (f b) (f a) (omega arith))
    go Greater h = rw (lt-ltb (f b) (f a) h)

module _ (p : ℕ → Bool) (f : ℕ → ℕ) where
  abbrev turn : Option ℕ → ℕ → Option ℕ
  turn found i = cond (p i) (lesser f i found) found

  from_some : (xs : List ℕ) (a : ℕ) → Some (fold (lower f) a (filter p xs)) ≡ fold turn (Some a) xs
  from_some [] a = refl
  from_some (x ∷ xs) a = by_test (p x)
      (λ e. rw e (from_some xs (lower f a x) ∙ ap (λ (r : Option ℕ). fold turn r xs) (lesser_is f a x)))
      (λ e. rw e (from_some xs a))

  from_none : (xs : List ℕ) → reduce (lower f) (filter p xs) ≡ fold turn None xs
  unfolding lesser
  from_none [] = refl
  from_none (x ∷ xs) = by_test (p x) (λ e. rw e (from_some xs x)) (λ e. rw e (from_none xs))

  pub least_list : (k : ℕ) → reduce (lower f) (filter p (range_with_len 0 k)) ≡ least_at k p f
  unfolding least_at
  least_list k = from_none (range_with_len 0 k) ∙ turns_list (λ i found. turn found i) None k

-- what the search keeps beside the best item is its key
module _
    {F : Type 0} (g : Mut F (Bor ℕ × Unit {0}) ℕ) (f : ℕ → ℕ) (h : F)
    (keyed : (x k : ℕ) (q : F) → CalledAt g h x k q → (q ≡ h) × (k ≡ f x)) where
  key_of : (o : Ordering) (a b : ℕ) → min_by_ordering o (f a) (f b) ≡ f (min_by_ordering o a b)
  key_of Less a b = refl
  key_of Equal a b = refl
  key_of Greater a b = refl

  turns_keyed :
      (xs : List ℕ) (x y k : ℕ) (j : F) (q : F × ℕ) → j ≡ h → k ≡ f x
      → FoldsTo {P = (F × ℕ) × ℕ} (KeyTurn min_by_ordering min_by_ordering g nat_cmp) ((j, k), x) xs (q, y)
      → FoldsTo (λ a b c. c ≡ lower f a b) x xs y
  turns_keyed [] x y k j q d e t = ap (λ (r : (F × ℕ) × ℕ). r.1) t
  turns_keyed (z ∷ xs) x y k j q d e t =
      let w = t.1 in
      let a = keyed z w.0 t.0.0.0 (rw d at w.2) in
      let o : w.1 ≡ nat_cmp (f x) (f z) = sym w.3 ∙ ap₂ nat_cmp e a.1 in
      let b = w.4 ∙ ap₂ (min_by_ordering w.1) e a.1 ∙ key_of w.1 x z ∙ ap f (sym w.5) in
      (t.0.1, w.5 ∙ ap (λ (r : Ordering). min_by_ordering r x z) o, turns_keyed xs t.0.1 y t.0.0.1 t.0.0.0 q a.0 b t.2)

  pub least_in_range :
      {S : Type 0} {steps : S → Option ℕ → S → Type 0} (p : ℕ → Bool) (k : ℕ) (s : S) (r : Option ℕ)
      → PicksByKey steps min_by_ordering min_by_ordering g nat_cmp s h r
      → YieldsList steps (λ x. x) s (filter p (range_with_len 0 k)) → r ≡ least_at k p f
  least_in_range p k s None ran e = reduce_from_yields_List (lower f) s None ran e ∙ least_list p f k
  least_in_range p k s (Some y) ran e =
      let a = keyed ran.0 ran.2 ran.3 ran.6 in
      reduce_from_yields_List (lower f) s (Some y) (ran.0, ran.1, ran.5, turns_keyed ran.1 ran.0 y ran.2 ran.3 ran.4 a.0 a.1 ran.7) e ∙ least_list p f k

-- what is found is one of the numbers
pub lowest_below : (k : ℕ) (p : ℕ → Bool) (f : ℕ → ℕ) (j : ℕ) → least_at k p f ≡ Some j → j < k
lowest_below k p f j e = go (least_at k p f) (least_is k p f) e
  where
    go : (r : Option ℕ) → Least k p f r → r ≡ Some j → j < k
    go None (no_least m) q = absurd (some_none j (sym q))
    go (Some i) (least h o l m) q = let a : i ≡ j = cc in omega arith
