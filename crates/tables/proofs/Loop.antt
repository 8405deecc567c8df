-- Laws of loops: for code, what a loop has at its start, after one more turn and at its end; for invariants, what holds at each number below k,
-- and that a loop comes to the same where its turns do.
-- Assumes nothing.
use mathlib.Core.Path.{◌≡◌, refl, sym, ap, ap₂, ◌∙◌}
use mathlib.Core.Logic.{◌≢◌}
use mathlib.Core.Bool.{Bool, true, false, cond, not, ◌&&◌, ◌||◌}
use mathlib.Core.List.{List}
use Rattle.std.specs.Prelude.{Option, None, Some}
use Prim.Native.Nat.{ℕ, zero, suc, ◌+◌, ◌≤◌, ◌<◌, max}
use native.Mathlib.Numerals.{add-one}
use native.Mathlib.Decide.{ℕ_discrete}
use native.Mathlib.Omega.{arith}
use lib.Dec.{ltb}
use lib.ListN.{length}
use borrow.Author.Tests.{ltb-true, ltb-false}
use Rattle.tables.specs.Table.{at, put}
use Rattle.tables.specs.Loop.{any, every, turns, largest, last_at, lesser, least_at, each}
use Rattle.tables.proofs.Choice.{not_both, by_test, not_not, or_false, or_true}
use Rattle.tables.proofs.Table.{put_size, put_same, put_other}

-- what a loop has come to when it ends
pub at_end : {A : Type 0} (g : ℕ → A) (i k : ℕ) {x : A} → i ≤ k → k ≤ i → x ≡ g i → x ≡ g k
at_end g i k h l e = let q : i ≡ k = omega arith in rw q at e

-- the numbers below k + 1 are those below k, and k
pub below_next : {P : ℕ → Type 0} (k : ℕ) → ((i : ℕ) → i < k → P i) → P k → (i : ℕ) → i < suc k → P i
below_next {P} k f p i h = elim (ℕ_discrete i k) [ yes e ↦ rw e p | no e ↦ f i (omega arith) ]

-- ---- turns

module _ {A : Type 0} (f : ℕ → A → A) (x : A) where
  pub turns_none : turns 0 f x ≡ x
  unfolding turns
  turns_none = refl

  pub turns_next : (k : ℕ) → turns (k + 1) f x ≡ f k (turns k f x)
  unfolding turns
  turns_next k = rw add-one

  -- what each turn keeps
  pub turns_keep : (P : A → Type 0) (k : ℕ) → ((i : ℕ) (y : A) → i < k → P y → P (f i y)) → P x → P (turns k f x)
  unfolding turns
  turns_keep P zero h p = p
  turns_keep P (suc k) h p = h k (turns k f x) (omega arith) (turns_keep P k (λ i y l. h i y (omega arith)) p)

  pub turns_same : (g : ℕ → A → A) (k : ℕ) → ((i : ℕ) (y : A) → i < k → f i y ≡ g i y) → turns k f x ≡ turns k g x
  unfolding turns
  turns_same g zero h = refl
  turns_same g (suc k) h = h k (turns k f x) (omega arith) ∙ ap (g k) (turns_same g k (λ i y l. h i y (omega arith)))

-- ---- any and every

module _ (p : ℕ → Bool) where
  pub any_none : any 0 p ≡ false
  unfolding any
  any_none = refl

  pub any_more : (k : ℕ) → any k p ≡ false → p k ≡ false → any (k + 1) p ≡ false
  unfolding any
  any_more k e q = rw (add-one, e, q)

  pub any_end : (i k : ℕ) → i ≤ k → k ≤ i → any i p ≡ false → any k p ≡ false
  any_end i k h l e = sym (at_end (λ j. any j p) i k h l (sym e))

  pub any_has : (k i : ℕ) → i < k → p i ≡ true → any k p ≡ true
  unfolding any
  any_has zero i h e = absurd (omega arith)
  any_has (suc k) i h e = elim (ℕ_discrete i k) [
    | yes q ↦ ap (λ (b : Bool). any k p || b) (ap p (sym q) ∙ e) ∙ or_true (any k p)
    | no q ↦ rw (any_has k i (omega arith) e)
  ]

  pub any_at : (k : ℕ) → any k p ≡ false → (i : ℕ) → i < k → p i ≡ false
  unfolding any
  any_at zero e i h = absurd (omega arith)
  any_at (suc k) e i h = let q = or_false (any k p) (p k) e in below_next k (any_at k q.0) q.1 i h

-- a number below k at which the test has the outcome b
pub data Where (k : ℕ) (p : ℕ → Bool) (b : Bool) : Type 0 where
  found : (i : ℕ) → i < k → p i ≡ b → Where k p b

pub any_where : (k : ℕ) (p : ℕ → Bool) → any k p ≡ true → Where k p true
unfolding any
any_where zero p e = absurd (not_both e refl)
any_where (suc k) p e = by_test (any k p) (λ q. up (any_where k p q)) (λ q. found k (omega arith) (rw q at e))
  where
    up : Where k p true → Where (suc k) p true
    up (found i h q) = found i (omega arith) q

pub any_same : (k : ℕ) (p q : ℕ → Bool) → ((i : ℕ) → i < k → p i ≡ q i) → any k p ≡ any k q
unfolding any
any_same zero p q h = refl
any_same (suc k) p q h = ap₂ ◌||◌ (any_same k p q (λ i l. h i (omega arith))) (h k (omega arith))

-- every number passes where none passes the opposite test
every_any : (k : ℕ) (p : ℕ → Bool) → every k p ≡ not (any k (λ i. not (p i)))
unfolding any every
every_any zero p = refl
every_any (suc k) p = rw (every_any k p) (go (any k (λ i. not (p i))) (p k))
  where
    go : (a b : Bool) → (not a && b) ≡ not (a || not b)
    go true b = refl
    go false b = sym (not_not b)

module _ (p : ℕ → Bool) where
  pub every_none : every 0 p ≡ true
  unfolding every
  every_none = refl

  pub every_more : (k : ℕ) → every k p ≡ true → p k ≡ true → every (k + 1) p ≡ true
  unfolding every
  every_more k e q = rw (add-one, e, q)

  pub every_end : (i k : ℕ) → i ≤ k → k ≤ i → every i p ≡ true → every k p ≡ true
  every_end i k h l e = sym (at_end (λ j. every j p) i k h l (sym e))

  pub every_not : (k i : ℕ) → i < k → p i ≡ false → every k p ≡ false
  every_not k i h e = every_any k p ∙ ap not (any_has (λ j. not (p j)) k i h (ap not e))

  pub every_at : (k : ℕ) → every k p ≡ true → (i : ℕ) → i < k → p i ≡ true
  every_at k e i h =
      let q : any k (λ j. not (p j)) ≡ false = sym (not_not _) ∙ ap not (sym (every_any k p) ∙ e) in
      sym (not_not (p i)) ∙ ap not (any_at (λ j. not (p j)) k q i h)

  pub every_all : (k : ℕ) → ((i : ℕ) → i < k → p i ≡ true) → every k p ≡ true
  unfolding every
  every_all zero h = refl
  every_all (suc k) h = rw (every_all k (λ i l. h i (omega arith)), h k (omega arith))

pub every_same : (k : ℕ) (p q : ℕ → Bool) → ((i : ℕ) → i < k → p i ≡ q i) → every k p ≡ every k q
every_same k p q h = every_any k p ∙ ap not (any_same k _ _ (λ i l. ap not (h i l))) ∙ sym (every_any k q)

-- ---- the largest

module _ (f : ℕ → ℕ) where
  pub largest_none : largest 0 f ≡ 0
  unfolding largest
  largest_none = turns_none _ _

  pub largest_next : (k : ℕ) → largest (k + 1) f ≡ max (largest k f) (f k)
  unfolding largest
  largest_next k = turns_next _ _ k

  pub largest_at : (k i : ℕ) → i < k → f i ≤ largest k f
  unfolding largest turns
  largest_at zero i h = absurd (omega arith)
  largest_at (suc k) i h = elim (ℕ_discrete i k) [ yes q ↦ omega (arith, ap f q) | no q ↦ omega (arith, largest_at k i (omega arith)) ]

-- the largest is 0 or is reached
pub data Reached (k : ℕ) (f : ℕ → ℕ) (m : ℕ) : Type 0 where
  empty : m ≡ 0 → Reached k f m
  reached : (i : ℕ) → i < k → f i ≡ m → Reached k f m

pub largest_reached : (k : ℕ) (f : ℕ → ℕ) → Reached k f (largest k f)
unfolding largest turns
largest_reached zero f = empty refl
largest_reached (suc k) f = go (largest_reached k f)
  where
    go : Reached k f (largest k f) → Reached (suc k) f (max (largest k f) (f k))
    go (empty e) = reached k (omega arith) (omega arith)
    go (reached i h e) = by_test (ltb (largest k f) (f k)) (λ q. reached k (omega arith) (omega (arith, ltb-true))) (λ q. reached i (omega arith) (omega (arith, ltb-false)))

pub largest_same : (k : ℕ) (f g : ℕ → ℕ) → ((i : ℕ) → i < k → f i ≡ g i) → largest k f ≡ largest k g
unfolding largest
largest_same k f g h = turns_same _ _ _ k (λ i m l. ap (max m) (h i l))

-- ---- the last that passes

module _ (p : ℕ → Bool) where
  pub last_at_none : last_at 0 p ≡ None
  unfolding last_at
  last_at_none = turns_none _ _

  pub last_at_next : (k : ℕ) → last_at (k + 1) p ≡ cond (p k) (Some k) (last_at k p)
  unfolding last_at
  last_at_next k = turns_next _ _ k

-- which number is meant
pub data Last (k : ℕ) (p : ℕ → Bool) : Option ℕ → Type 0 where
  no_last : ((i : ℕ) → i < k → p i ≡ false) → Last k p None
  last : {j : ℕ} → j < k → p j ≡ true → ((i : ℕ) → j < i → i < k → p i ≡ false) → Last k p (Some j)

pub last_is : (k : ℕ) (p : ℕ → Bool) → Last k p (last_at k p)
unfolding last_at turns
last_is zero p = no_last (λ i h. absurd (omega arith))
last_is (suc k) p = go (p k) refl (last_at k p) (last_is k p)
  where
    go : (b : Bool) → p k ≡ b → (r : Option ℕ) → Last k p r → Last (suc k) p (cond b (Some k) r)
    go true e r l = last {j = k} (omega arith) e (λ i h m. absurd (omega arith))
    go false e None (no_last n) = no_last (below_next k n e)
    go false e (Some j) (last h q n) = last {j = j} (omega arith) q (λ i a l. below_next {P = λ m. j < m → p m ≡ false} k (λ m b c. n m c b) (λ _. e) i l a)

-- however it is looked for
pub last_only : (k : ℕ) (p : ℕ → Bool) (r : Option ℕ) → Last k p r → r ≡ last_at k p
last_only k p r l = go r (last_at k p) l (last_is k p)
  where
    go : (r s : Option ℕ) → Last k p r → Last k p s → r ≡ s
    go None None (no_last n) (no_last m) = refl
    go None (Some j) (no_last n) (last h q m) = absurd (not_both q (n j h))
    go (Some i) None (last h q n) (no_last m) = absurd (not_both q (m i h))
    go (Some i) (Some j) (last h q n) (last l o m) =
        ap Some (by_test (ltb i j) (λ e. absurd (not_both o (n j (ltb-true i j e) l))) (λ e.
        by_test (ltb j i) (λ e'. absurd (not_both q (m i (ltb-true j i e') h))) (λ e'. omega (arith, ltb-false))))

pub last_at_same : (k : ℕ) (p q : ℕ → Bool) → ((i : ℕ) → i < k → p i ≡ q i) → last_at k p ≡ last_at k q
unfolding last_at
last_at_same k p q h = turns_same _ _ _ k (λ i r l. ap (λ (b : Bool). cond b (Some i) r) (h i l))

-- ---- the least that passes

module _ (p : ℕ → Bool) (f : ℕ → ℕ) where
  pub least_at_none : least_at 0 p f ≡ None
  unfolding least_at
  least_at_none = turns_none _ _

  pub least_at_next : (k : ℕ) → least_at (k + 1) p f ≡ cond (p k) (lesser f k (least_at k p f)) (least_at k p f)
  unfolding least_at
  least_at_next k = turns_next _ _ k

-- which number is meant
pub data Least (k : ℕ) (p : ℕ → Bool) (f : ℕ → ℕ) : Option ℕ → Type 0 where
  no_least : ((i : ℕ) → i < k → p i ≡ false) → Least k p f None
  least :
      {j : ℕ} → j < k → p j ≡ true → ((i : ℕ) → i < k → p i ≡ true → f j ≤ f i) → ((i : ℕ) → i < j → p i ≡ true → f j < f i)
      → Least k p f (Some j)

pub least_is : (k : ℕ) (p : ℕ → Bool) (f : ℕ → ℕ) → Least k p f (least_at k p f)
unfolding least_at turns lesser
least_is zero p f = no_least (λ i h. absurd (omega arith))
least_is (suc k) p f = go (p k) refl (least_at k p f) (least_is k p f)
  where
    arms : (j : ℕ) (b : Bool) → ltb (f k) (f j) ≡ b → p k ≡ true → Least k p f (Some j) → Least (suc k) p f (cond b (Some k) (Some j))
    arms j true e q (least h o l m) =
        least {j = k} (omega arith) q (below_next k (λ i a r. omega (arith, ltb-true, l i a r)) (λ _. omega arith)) (λ i a r. omega (arith, ltb-true, l i a r))
    arms j false e q (least h o l m) = least {j = j} (omega arith) o (below_next k l (λ _. ltb-false (f k) (f j) e)) m

    go : (b : Bool) → p k ≡ b → (r : Option ℕ) → Least k p f r → Least (suc k) p f (cond b (lesser f k r) r)
    go true e None (no_least n) =
        least {j = k} (omega arith) e (below_next k (λ i a r. absurd (not_both r (n i a))) (λ _. omega arith)) (λ i a r. absurd (not_both r (n i a)))
    go true e (Some j) l = arms j (ltb (f k) (f j)) refl e l
    go false e None (no_least n) = no_least (below_next k n e)
    go false e (Some j) (least h o l m) = least {j = j} (omega arith) o (below_next k l (λ r. absurd (not_both r e))) m

-- however it is looked for
pub least_only : (k : ℕ) (p : ℕ → Bool) (f : ℕ → ℕ) (r : Option ℕ) → Least k p f r → r ≡ least_at k p f
least_only k p f r l = go r (least_at k p f) l (least_is k p f)
  where
    go : (r s : Option ℕ) → Least k p f r → Least k p f s → r ≡ s
    go None None (no_least n) (no_least m) = refl
    go None (Some j) (no_least n) (least h q m o) = absurd (not_both q (n j h))
    go (Some i) None (least h q n o) (no_least m) = absurd (not_both q (m i h))
    go (Some i) (Some j) (least h q n o) (least h' q' n' o') =
        ap Some (by_test (ltb i j) (λ e. absurd (omega (arith, o' i (ltb-true i j e) q, n j h' q'))) (λ e.
        by_test (ltb j i) (λ e'. absurd (omega (arith, o j (ltb-true j i e') q', n' i h q))) (λ e'. omega (arith, ltb-false))))

pub least_at_same :
    (k : ℕ) (p q : ℕ → Bool) (f g : ℕ → ℕ) → ((i : ℕ) → i < k → p i ≡ q i) → ((i : ℕ) → i < k → f i ≡ g i) → least_at k p f ≡ least_at k q g
least_at_same k p q f g h e = least_only k q g (least_at k p f) (go (least_at k p f) (least_is k p f))
  where
    go : (r : Option ℕ) → Least k p f r → Least k q g r
    go None (no_least n) = no_least (λ i a. sym (h i a) ∙ n i a)
    go (Some j) (least a o n m) =
        least {j = j} a (sym (h j a) ∙ o) (λ i b c. omega (arith, n i b (h i b ∙ c), e i b, e j a))
        (λ i b c. let l : i < k = omega arith in omega (arith, m i b (h i l ∙ c), e i l, e j a))

-- ---- a table changed by place

module _ {A : Type 0} (d : A) (place : ℕ → ℕ) (f : ℕ → A → A) (l : List A) where
  pub each_none : each d 0 place f l ≡ l
  unfolding each
  each_none = turns_none _ _

  pub each_next : (k : ℕ) → each d (k + 1) place f l ≡ put (each d k place f l) (place k) (f k (at (each d k place f l) (place k) d))
  unfolding each
  each_next k = turns_next _ _ k

  pub each_size : (k : ℕ) → length (each d k place f l) ≡ length l
  unfolding each
  each_size k = turns_keep _ l (λ (t : List A). length t ≡ length l) k (λ i t h e. put_size t _ _ ∙ e) refl

  -- a place that is none of the first k
  pub each_miss : (k j : ℕ) → ((i : ℕ) → i < k → place i ≢ j) → at (each d k place f l) j d ≡ at l j d
  unfolding each
  each_miss k j h = turns_keep _ l (λ (t : List A). at t j d ≡ at l j d) k (λ i t a e. put_other t _ _ j d (λ q. h i a (sym q)) ∙ e) refl

  -- place i, where no two of the first k are one
  pub each_hit :
      (k i : ℕ) → i < k → place i < length l → ((a b : ℕ) → a < b → b < k → place a ≢ place b)
      → at (each d k place f l) (place i) d ≡ f i (at l (place i) d)
  unfolding each turns
  each_hit zero i h b q = absurd (omega arith)
  each_hit (suc k) i h b q = elim (ℕ_discrete i k) [
    | yes e ↦
        let r : place k < length (each d k place f l) = rw (each_size k, ← e) b in
        rw e (put_same _ _ _ d r ∙ ap (f k) (each_miss k (place k) (λ a c. q a k c (omega arith))))
    | no e ↦
        put_other _ _ _ _ d (q i k (omega arith) (omega arith)) ∙ each_hit k i (omega arith) b (λ a c m n. q a c m (omega arith))
  ]
