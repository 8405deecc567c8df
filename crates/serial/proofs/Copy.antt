-- What the one copy holds after writers that were run singly, in ascending number: in each cell what the last of its writers wrote.
-- Assumes nothing.
use mathlib.Core.Path.{◌≡◌, refl, sym, ap, ◌∙◌}
use mathlib.Core.Logic.{◌≢◌, ◌⊎◌, inl, inr, ⊎_elim}
use mathlib.Core.Bool.{Bool, true, false, cond, ◌&&◌}
use mathlib.Core.List.Memᴰ
use mathlib.Core.List.{List, [], ◌∷◌, Memᴰ}
use Prim.Native.Nat.{ℕ, zero, suc, ◌-◌, ◌≤◌, ◌<◌}
use native.Mathlib.Omega.{arith}
use native.Mathlib.Decide.{ℕ_discrete}
use lib.Dec.{leb}
use borrow.Author.Tests.{leb-true, leb-false, ltb-true, ltb-false}
use Rattle.tables.specs.Loop.{turns}
use Rattle.tables.proofs.Choice.{by_test, and_true, not_both}
use Rattle.group.specs.State.{State, noted, has}
use Rattle.serial.specs.Serial.{is_writer, number_of, insert, writers, ran_on, copy_after}

-- of the transactions that pass Q, the last by number that wrote the cell c wrote v; or none did, and v is what was there first
pub data Last (s : State) (Q : ℕ → Type 0) (first : ℕ → ℕ) (c v : ℕ) : Type 0 where
  nobody : ((t : ℕ) → Q t → noted s.writes t c ≡ 0) → v ≡ first c → Last s Q first c v
  wrote :
      (t : ℕ) → Q t → noted s.writes t c ≡ suc v → ((u : ℕ) → Q u → 0 < noted s.writes u c → number_of s u ≤ number_of s t) → Last s Q first c v

-- there is one such value, where numbers are distinct
pub last_unique : (s : State) (Q : ℕ → Type 0) (first : ℕ → ℕ) (c v w : ℕ) → ((t u : ℕ) → Q t → Q u → t ≢ u → number_of s t ≢ number_of s u) → Last s Q first c v → Last s Q first c w → v ≡ w
last_unique s Q first c v w d (nobody f e) (nobody g e') = e ∙ sym e'
last_unique s Q first c v w d (nobody f e) (wrote t q x m) = absurd (omega (arith, f t q))
last_unique s Q first c v w d (wrote t q x m) (nobody f e) = absurd (omega (arith, f t q))
last_unique s Q first c v w d (wrote t q x m) (wrote u r y n) = elim (ℕ_discrete t u) [
  | yes e ↦ let z : noted s.writes t c ≡ noted s.writes u c = ap (λ (i : ℕ). noted s.writes i c) e in omega arith
  | no e ↦ absurd (d t u q r e (omega (arith, m u r (omega arith), n t q (omega arith))))
]

-- the same where the same transactions pass
pub last_same : (s : State) (Q R : ℕ → Type 0) (first : ℕ → ℕ) (c v : ℕ) → ((t : ℕ) → Q t → R t) → ((t : ℕ) → R t → Q t) → Last s Q first c v → Last s R first c v
last_same s Q R first c v to back (nobody f e) = nobody (λ t r. f t (back t r)) e
last_same s Q R first c v to back (wrote t q x m) = wrote t (to t q) x (λ u r. m u (back u r))

-- ---- a list in ascending number

abbrev Ascends : (ℕ → ℕ) → List ℕ → Type 0
Ascends f [] = Unit {0}
Ascends f (t ∷ us) = ((u : ℕ) → Memᴰ u us → f t ≤ f u) × Ascends f us

insert_in : (f : ℕ → ℕ) (t u : ℕ) (us : List ℕ) → Memᴰ u (insert f t us) → (u ≡ t) ⊎ Memᴰ u us
unfolding insert
insert_in f t u [] m = Memᴰ.cases_cons m
insert_in f t u (w ∷ us) m = go (leb (f t) (f w)) m (λ n. insert_in f t u us n)
  where
    go : (b : Bool) → Memᴰ u (cond b (t ∷ w ∷ us) (w ∷ insert f t us)) → (Memᴰ u (insert f t us) → (u ≡ t) ⊎ Memᴰ u us) → (u ≡ t) ⊎ Memᴰ u (w ∷ us)
    go true m r = Memᴰ.cases_cons m
    go false m r = ⊎_elim (λ e. inr (Memᴰ.head e)) (λ n. ⊎_elim (λ e. inl e) (λ k. inr (Memᴰ.tail k)) (r n)) (Memᴰ.cases_cons m)

insert_new : (f : ℕ → ℕ) (t : ℕ) (us : List ℕ) → Memᴰ t (insert f t us)
unfolding insert
insert_new f t [] = Memᴰ.head refl
insert_new f t (w ∷ us) = go (leb (f t) (f w)) (insert_new f t us)
  where
    go : (b : Bool) → Memᴰ t (insert f t us) → Memᴰ t (cond b (t ∷ w ∷ us) (w ∷ insert f t us))
    go true r = Memᴰ.head refl
    go false r = Memᴰ.tail r

insert_old : (f : ℕ → ℕ) (t u : ℕ) (us : List ℕ) → Memᴰ u us → Memᴰ u (insert f t us)
unfolding insert
insert_old f t u [] m = absurd (Memᴰ.not-nil m)
insert_old f t u (w ∷ us) m = go (leb (f t) (f w)) (λ n. insert_old f t u us n)
  where
    go : (b : Bool) → (Memᴰ u us → Memᴰ u (insert f t us)) → Memᴰ u (cond b (t ∷ w ∷ us) (w ∷ insert f t us))
    go true r = Memᴰ.tail m
    go false r = ⊎_elim (λ e. Memᴰ.head e) (λ n. Memᴰ.tail (r n)) (Memᴰ.cases_cons m)

insert_ascends : (f : ℕ → ℕ) (t : ℕ) (us : List ℕ) → Ascends f us → Ascends f (insert f t us)
unfolding insert
insert_ascends f t [] a = (λ u m. absurd (Memᴰ.not-nil m), tt)
insert_ascends f t (w ∷ us) a = go (leb (f t) (f w)) refl (insert_ascends f t us a.1)
  where
    go : (b : Bool) → leb (f t) (f w) ≡ b → Ascends f (insert f t us) → Ascends f (cond b (t ∷ w ∷ us) (w ∷ insert f t us))
    go true e r = (λ u m. ⊎_elim (λ d. omega (arith, leb-true (f t) (f w) e, ap f d)) (λ n. omega (arith, leb-true (f t) (f w) e, a.0 u n)) (Memᴰ.cases_cons m), a)
    go false e r = (λ u m. ⊎_elim (λ d. omega (arith, leb-false (f t) (f w) e, ap f d)) (λ n. a.0 u n) (insert_in f t u us m), r)

-- ---- the copy after a list

copy_last : (s : State) (us : List ℕ) (first : ℕ → ℕ) (c : ℕ) → Ascends (number_of s) us → Last s (λ t. Memᴰ t us) first c (copy_after s first us c)
unfolding copy_after
copy_last s [] first c a = nobody (λ t m. absurd (Memᴰ.not-nil m)) refl
copy_last s (t ∷ us) first c a = go (copy_after s (ran_on s t first) us c) (copy_last s us (ran_on s t first) c a.1)
  where
    go : (v : ℕ) → Last s (λ u. Memᴰ u us) (ran_on s t first) c v → Last s (λ u. Memᴰ u (t ∷ us)) first c v
    go v (nobody f e) = by_test (has s.writes t c)
        (λ b. wrote t (Memᴰ.head refl) (own b) (λ u m l. ⊎_elim (λ d. omega (arith, ap (number_of s) d)) (λ n. absurd (omega (arith, f u n))) (Memᴰ.cases_cons m)))
        (λ b. nobody (λ u m. ⊎_elim (λ d. ap (λ (i : ℕ). noted s.writes i c) d ∙ none b) (λ n. f u n) (Memᴰ.cases_cons m)) (e ∙ rw b))
      where
        own : has s.writes t c ≡ true → noted s.writes t c ≡ suc v
        own b = let z : v ≡ noted s.writes t c - 1 = e ∙ rw b in let l = ltb-true 0 (noted s.writes t c) b in omega arith

        none : has s.writes t c ≡ false → noted s.writes t c ≡ 0
        none b = let l = ltb-false 0 (noted s.writes t c) b in omega arith
    go v (wrote u m x n) = wrote u (Memᴰ.tail m) x (λ w k l. ⊎_elim (λ d. omega (arith, ap (number_of s) d, a.0 u m)) (λ j. n w j l) (Memᴰ.cases_cons k))

-- ---- the writers

-- t is one of the first k slots, a committed writer, and its number passes p
pub record Picked (s : State) (p : ℕ → Bool) (k t : ℕ) : Type 0 where
  pub low : t < k
  pub writer : is_writer s t ≡ true
  pub passes : p (number_of s t) ≡ true

module _ (s : State) (p : ℕ → Bool) where
  abbrev chooses : ℕ → List ℕ → List ℕ
  chooses t us = cond (is_writer s t && p (number_of s t)) (insert (number_of s) t us) us

  picked : (k : ℕ) → Ascends (number_of s) (turns k chooses []) × ((t : ℕ) → Memᴰ t (turns k chooses []) → Picked s p k t) × ((t : ℕ) → Picked s p k t → Memᴰ t (turns k chooses []))
  unfolding turns
  picked zero = (tt, λ t m. absurd (Memᴰ.not-nil m), λ t q. absurd (omega arith))
  picked (suc k) = let r = picked k in by_test (is_writer s k && p (number_of s k)) (λ e. rw e (more e r)) (λ e. rw e (same e r))
    where
      up : (t : ℕ) → Picked s p k t → Picked s p (suc k) t
      up t q = record { low = omega arith; writer = q.writer; passes = q.passes }

      down : (t : ℕ) → t ≢ k → Picked s p (suc k) t → Picked s p k t
      down t d q = record { low = omega arith; writer = q.writer; passes = q.passes }

      Good : List ℕ → ℕ → Type 0
      Good us j = Ascends (number_of s) us × ((t : ℕ) → Memᴰ t us → Picked s p j t) × ((t : ℕ) → Picked s p j t → Memᴰ t us)

      more : (is_writer s k && p (number_of s k)) ≡ true → Good (turns k chooses []) k → Good (insert (number_of s) k (turns k chooses [])) (suc k)
      more e r = let w = and_true (is_writer s k) (p (number_of s k)) e in (
        insert_ascends (number_of s) k _ r.0,
        λ t m. ⊎_elim (λ d. rw d (record { low = omega arith; writer = w.0; passes = w.1 })) (λ n. up t (r.1 t n)) (insert_in (number_of s) k t _ m),
        λ t q. elim (ℕ_discrete t k) [ yes d ↦ rw d (insert_new (number_of s) k _) | no d ↦ insert_old (number_of s) k t _ (r.2 t (down t d q)) ],
      )

      same : (is_writer s k && p (number_of s k)) ≡ false → Good (turns k chooses []) k → Good (turns k chooses []) (suc k)
      same e r = (
        r.0,
        λ t m. up t (r.1 t m),
        λ t q. elim (ℕ_discrete t k) [ yes d ↦ absurd (not_both (out t d q) e) | no d ↦ r.2 t (down t d q) ],
      )
        where
          out : (t : ℕ) → t ≡ k → Picked s p (suc k) t → (is_writer s k && p (number_of s k)) ≡ true
          out t d q = let a : is_writer s k ≡ true = rw d at q.writer in let b : p (number_of s k) ≡ true = rw d at q.passes in rw (a, b)

  -- the copy after the writers that pass holds what the last of them wrote
  pub copy_holds : (first : ℕ → ℕ) (c : ℕ) → Last s (Picked s p 32) first c (copy_after s first (writers s p) c)
  unfolding writers
  copy_holds first c = let r = picked 32 in last_same s _ _ first c _ r.1 r.2 (copy_last s (turns 32 chooses []) first c r.0)
