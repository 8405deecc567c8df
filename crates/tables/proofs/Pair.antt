-- Laws of two numbers in one, over the width.
-- Assumes nothing.
use mathlib.Core.Path.{◌≡◌, sym, ap, ◌∙◌}
use Prim.Native.Nat.{ℕ, ◌+◌, ◌*◌, ◌/◌, ◌%◌, ◌<◌}
use native.Mathlib.Nat.{mul-add-div_right, mul-add-mod_self_right, mod-eq_of_lt, div-eq_of_lt, div-add-mod', add-zero, mul-le-mul_right, suc-mul}
use native.Mathlib.Omega.{arith}
use Rattle.tables.specs.Pair.{pair}

module _ (w : ℕ) where
  pub pair_high : (i j : ℕ) → j < w → pair w i j / w ≡ i
  pair_high i j h = mul-add-div_right (omega arith) i j ∙ ap (λ (k : ℕ). i + k) (div-eq_of_lt h) ∙ add-zero i

  pub pair_low : (i j : ℕ) → j < w → pair w i j % w ≡ j
  pair_low i j h = mul-add-mod_self_right i w j ∙ mod-eq_of_lt h

  pub pair_back : (x : ℕ) → pair w (x / w) (x % w) ≡ x
  pair_back x = div-add-mod' x w

  -- two pairs are one number only where they are one pair
  pub pair_inj : (i j k l : ℕ) → j < w → l < w → pair w i j ≡ pair w k l → (i ≡ k) × (j ≡ l)
  pair_inj i j k l hj hl e =
      (sym (pair_high i j hj) ∙ ap (λ (x : ℕ). x / w) e ∙ pair_high k l hl, sym (pair_low i j hj) ∙ ap (λ (x : ℕ). x % w) e ∙ pair_low k l hl)

  -- the place lies in a table of k rows
  pub pair_fits : (k i j : ℕ) → i < k → j < w → pair w i j < k * w
  pair_fits k i j hi hj = omega (arith, mul-le-mul_right w hi, suc-mul i w)
