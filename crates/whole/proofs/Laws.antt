-- Laws for the code: the test of every place of a table, and small facts of tests.
-- Assumes nothing.
use mathlib.Core.Path.{◌≡◌, refl, sym, ap, ◌∙◌}
use mathlib.Core.Bool.{Bool, true, false, ◌&&◌, beq}
use mathlib.Core.List.{List}
use Prim.Native.Nat.{ℕ, zero, suc, ◌/◌, ◌^◌, ◌≤◌, ◌<◌}
use native.Mathlib.Nat.{div-eq_of_lt, div-eq-sub-div, pow-le-pow_right}
use native.Mathlib.Omega.{arith}
use native.Mathlib.Numerals.{add-one}
use lib.Dec.{leb, eqb, ltb}
use lib.ListN.{length, take}
use lib.Pow.{pow_pos}
use borrow.Author.Tests.{leb-true, ltb-true, ltb-false, lt-ltb, ne_eqb}
use Rattle.std.specs.List.{list_all}
use Rattle.std.proofs.lemmas.List.{take_all}
use Rattle.std.proofs.lemmas.List.Folds.{list_all_more}
use Rattle.tables.specs.Table.{at}
use Rattle.tables.specs.Loop.{every}
use Rattle.tables.proofs.Choice.{by_test, and_true}
use Rattle.whole.specs.Whole.{same, counts_sound}

-- the first i elements of a table pass where those at its first i places do
all_first : {A : Type 0} (p : A → Bool) (d : A) (l : List A) (i : ℕ) → i ≤ length l → list_all p (take i l) ≡ every i (λ j. p (at l j d))
unfolding every at
all_first p d l zero h = refl
all_first p d l (suc i) h = rw (← add-one i, list_all_more p l i d (omega arith), all_first p d l i (omega arith))

-- and so all of a table of k places
pub all_places : {A : Type 0} (p : A → Bool) (d : A) (l : List A) (k : ℕ) → length l ≡ k → list_all p l ≡ every k (λ j. p (at l j d))
all_places p d l k e = ap (list_all p) (sym (take_all k l (omega arith))) ∙ all_first p d l k (omega arith)

-- eight bits are below each power of two from the eighth on
pub below_power : (x n : ℕ) → x < 256 → 8 ≤ n → ltb x (2 ^ n) ≡ true
below_power x n h l = let q : 2 ^ 8 ≤ 2 ^ n = pow-le-pow_right {n = 2} (omega arith) {i = 8} {j = n} l in lt-ltb _ _ (omega arith)

-- a number has no bit from place n on
pub shifted_out : (x n : ℕ) → eqb (x / 2 ^ n) 0 ≡ ltb x (2 ^ n)
shifted_out x n =
    by_test (ltb x (2 ^ n)) (λ e. rw (div-eq_of_lt (ltb-true x (2 ^ n) e), e)) (λ e.
    rw e (ne_eqb (x / 2 ^ n) 0 (λ z. omega (arith, z, div-eq-sub-div (pow_pos n) (ltb-false x (2 ^ n) e)))))

-- equal tests are both passed or both failed
pub beq_same : (a b : Bool) → beq a b ≡ same a b
beq_same true true = refl
beq_same true false = refl
beq_same false true = refl
beq_same false false = refl

-- counts in range
pub counts_in : (nodes cells : ℕ) → counts_sound nodes cells ≡ true → (nodes ≤ 8) × (cells ≤ 32)
counts_in nodes cells e =
    let p = and_true (leb 1 nodes && leb nodes 8 && leb 1 cells) (leb cells 32) e in
    let q = and_true (leb 1 nodes && leb nodes 8) (leb 1 cells) p.0 in
    (leb-true _ _ (and_true (leb 1 nodes) (leb nodes 8) q.0).1, leb-true _ _ p.1)
