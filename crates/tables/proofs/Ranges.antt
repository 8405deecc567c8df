-- Laws of the calls that go over a range of numbers: what `any`, `all`, `max` and a fold of those below k answer is what the definitions of
-- loops say.
-- Assumes nothing.
use mathlib.Core.Path.{◌≡◌, refl, sym, ap, ◌∙◌}
use mathlib.Core.Bool.{Bool, true, false, ◌&&◌, ◌||◌}
use mathlib.Core.List.{List, map}
use Prim.Native.Nat.{ℕ, zero, suc, ◌+◌, max}
use native.Mathlib.Numerals.{add-one}
use native.Mathlib.Omega.{arith}
use denote.Param.Members.{Mut}
use Rattle.std.specs.declared.ops.Range.{Range}
use Rattle.std.specs.declared.option.Option.{Option}
use Rattle.std.specs.Option.{MatchOption, unwrap_or}
use Rattle.std.specs.Ordering.{nat_cmp, max_by_ordering}
use Rattle.std.specs.List.{FoldsTo, fold, reduce, list_any, list_all, range_with_len}
use Rattle.std.specs.Fn.{Called}
use Rattle.std.specs.Iterator.{YieldsThen}
use Rattle.std.proofs.iter.Yields.{nat_range_steps}
use Rattle.std.proofs.lemmas.Iterator.{YieldsList-from_range}
use Rattle.std.proofs.lemmas.List.Folds.{max_of_map}
use Rattle.std.proofs.lemmas.Iterator.Search.{any_from_yields_List, all_from_yields_List}
use Rattle.tables.specs.Loop.{any, every, turns, largest}

or_none : (b : Bool) → b ≡ (b || false)
or_none true = refl
or_none false = refl

or_more : (b c d : Bool) → ((b || c) || d) ≡ (b || (c || d))
or_more true c d = refl
or_more false c d = refl

and_none : (b : Bool) → b ≡ (b && true)
and_none true = refl
and_none false = refl

and_more : (b c d : Bool) → ((b && c) && d) ≡ (b && (c && d))
and_more true c d = refl
and_more false c d = refl

module _ (p : ℕ → Bool) where
  -- over the numbers below a, and n more from a on
  any_on : (n a k : ℕ) → a + n ≡ k → any k p ≡ (any a p || list_any p (range_with_len a n))
  unfolding any
  any_on zero a k e = let q : k ≡ a = omega arith in ap (λ j. any j p) q ∙ or_none (any a p)
  any_on (suc n) a k e = any_on n (a + 1) k (omega arith) ∙ ap (λ j. any j p || list_any p (range_with_len (a + 1) n)) (add-one a) ∙ or_more (any a p) (p a) (list_any p (range_with_len (a + 1) n))

  every_on : (n a k : ℕ) → a + n ≡ k → every k p ≡ (every a p && list_all p (range_with_len a n))
  unfolding every
  every_on zero a k e = let q : k ≡ a = omega arith in ap (λ j. every j p) q ∙ and_none (every a p)
  every_on (suc n) a k e = every_on n (a + 1) k (omega arith) ∙ ap (λ j. every j p && list_all p (range_with_len (a + 1) n)) (add-one a) ∙ and_more (every a p) (p a) (list_all p (range_with_len (a + 1) n))

  any_list : (k : ℕ) → list_any p (range_with_len 0 k) ≡ any k p
  unfolding any
  any_list k = sym (any_on k 0 k (omega arith))

  every_list : (k : ℕ) → list_all p (range_with_len 0 k) ≡ every k p
  unfolding every
  every_list k = sym (every_on k 0 k (omega arith))

-- a fold over the numbers below k takes their turns
module _ {A : Type 0} (f : ℕ → A → A) (x : A) where
  turns_on : (n a k : ℕ) → a + n ≡ k → turns k f x ≡ fold (λ b i. f i b) (turns a f x) (range_with_len a n)
  unfolding turns
  turns_on zero a k e = let q : k ≡ a = omega arith in ap (λ j. turns j f x) q
  turns_on (suc n) a k e =
      turns_on n (a + 1) k (omega arith) ∙ ap (λ j. fold (λ b i. f i b) (turns j f x) (range_with_len (a + 1) n)) (add-one a)

  pub turns_list : (k : ℕ) → fold (λ b i. f i b) x (range_with_len 0 k) ≡ turns k f x
  unfolding turns
  turns_list k = sym (turns_on k 0 k (omega arith))

-- `(0..k).map(f).max().unwrap_or(0)`
pub largest_list : (f : ℕ → ℕ) (k : ℕ) → unwrap_or (reduce (λ p z. max_by_ordering (nat_cmp p z) p z) (map f (range_with_len 0 k))) 0 ≡ largest k f
unfolding largest
largest_list f k = max_of_map f (range_with_len 0 k) ∙ turns_list (λ i m. max m (f i)) 0 k

-- `(0..k).any(..)` and `(0..k).all(..)` with a closure that computes p
module _ {F : Type 0} {g : Mut F (ℕ × Unit {0}) Bool} {s : Range ℕ} (p : ℕ → Bool) (k : ℕ) (u : Range ℕ) (f : F) (r : Bool) where
  pub any_in_range :
      (xs : List ℕ) × (o : Option ℕ) × (j : F) × YieldsThen nat_range_steps s xs o u × FoldsTo (λ q x t. Called g q (x, tt) false t) f xs j × MatchOption o (r ≡ false) (λ x. (r ≡ true) × ((h : F) × Called g j (x, tt) true h))
      → ((x : ℕ) (b : Bool) (q : F) → Called g f (x, tt) b q → (q ≡ f) × (b ≡ p x)) → s ≡ record { start = 0; end = k } → r ≡ any k p
  any_in_range ran h e = any_from_yields_List p u f r ran (YieldsList-from_range 0 k k e (omega arith)) h ∙ any_list p k

  pub all_in_range :
      (xs : List ℕ) × (o : Option ℕ) × (j : F) × YieldsThen nat_range_steps s xs o u × FoldsTo (λ q x t. Called g q (x, tt) true t) f xs j × MatchOption o (r ≡ true) (λ x. (r ≡ false) × ((h : F) × Called g j (x, tt) false h))
      → ((x : ℕ) (b : Bool) (q : F) → Called g f (x, tt) b q → (q ≡ f) × (b ≡ p x)) → s ≡ record { start = 0; end = k } → r ≡ every k p
  all_in_range ran h e = all_from_yields_List p u f r ran (YieldsList-from_range 0 k k e (omega arith)) h ∙ every_list p k
