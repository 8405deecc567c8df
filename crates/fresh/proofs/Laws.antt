-- Laws for the code: what `map` of an array gives, and a test as a number.
-- Assumes nothing.
use mathlib.Core.Path.{◌≡◌, refl, sym, ◌∙◌}
use mathlib.Core.Bool.{Bool, true, false, cond}
use mathlib.Core.List.{List, map}
use Prim.Native.Nat.{ℕ}
use native.Mathlib.Omega.{arith}
use mir.Val.{bool_byte}
use lib.ListN.{length, length-map, get_or-map}
use denote.Param.Members.{Mut, Called}
use Rattle.std.specs.Array.{IsMapOf}
use Rattle.tables.specs.Table.{at}
use Rattle.tables.proofs.Table.{same_table}

-- where each call computes h
pub map_by :
    {F A B : Type 0} {g : Mut F (A × Unit {0}) B} {f : F} (h : A → B) (d : A) (n : ℕ) (xs : List A) (ys : List B)
    → length xs ≡ n → IsMapOf g f xs ys n → ((p : F) (x : A) (y : B) (q : F) → Called g p (x, tt) y q → y ≡ h x) → ys ≡ map h xs
unfolding at
map_by h d n xs ys l m k =
    same_table (h d) ys (map h xs) (m.long ∙ sym (length-map xs h ∙ l)) (λ i b. let r = m.at i d (h d) (omega (arith, m.long)) in k r.0 _ _ r.1 r.2 ∙ sym (get_or-map h xs i d))

pub byte_of : (b : Bool) → bool_byte b ≡ cond b 1 0
byte_of true = refl
byte_of false = refl
