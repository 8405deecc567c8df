-- Laws of a table that is read and written at a place.
-- Assumes nothing.
use mathlib.Core.Path.{◌≡◌}
use mathlib.Core.Logic.{◌≢◌}
use mathlib.Core.List.{List}
use Prim.Native.Nat.{ℕ, ◌<◌, ◌≤◌}
use lib.ListN.{length, length-set, replicate, get_or-replicate, get_or-eq_default}
use lib.Seq.{get_or-set_same, get_or-set_other, set-get_or, set_out, ext_get_or}
use Rattle.tables.specs.Table.{at, put}

pub put_size : {A : Type 0} (l : List A) (i : ℕ) (v : A) → length (put l i v) ≡ length l
unfolding put
put_size l i v = length-set l i v

pub put_same : {A : Type 0} (l : List A) (i : ℕ) (v d : A) → i < length l → at (put l i v) i d ≡ v
unfolding at put
put_same l i v d h = get_or-set_same l i v d h

pub put_other : {A : Type 0} (l : List A) (i : ℕ) (v : A) (j : ℕ) (d : A) → j ≢ i → at (put l i v) j d ≡ at l j d
unfolding at put
put_other l i v j d h = get_or-set_other l i j v d h

-- what stands there already
pub put_at : {A : Type 0} (l : List A) (i : ℕ) (d : A) → put l i (at l i d) ≡ l
unfolding at put
put_at l i d = set-get_or l i d

-- tables of one length with the same at each place are equal
pub same_table : {A : Type 0} (d : A) (l m : List A) → length l ≡ length m → ((i : ℕ) → i < length l → at l i d ≡ at m i d) → l ≡ m
unfolding at
same_table d l m h f = ext_get_or d l m h f

-- a table of one value
pub at_all : {A : Type 0} (k i : ℕ) (v d : A) → i < k → at (replicate k v) i d ≡ v
unfolding at
at_all k i v d h = get_or-replicate k i v d h

-- past the end
pub put_past : {A : Type 0} (l : List A) (i : ℕ) (v : A) → length l ≤ i → put l i v ≡ l
unfolding put
put_past l i v h = set_out l i v h

pub at_past : {A : Type 0} (l : List A) (i : ℕ) (d : A) → length l ≤ i → at l i d ≡ d
unfolding at
at_past l i d h = get_or-eq_default l d h
