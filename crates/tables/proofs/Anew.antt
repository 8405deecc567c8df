-- Laws of a table of k places that a loop makes anew at every place: what it held before does not matter.
-- Assumes nothing.
use mathlib.Core.Path.{◌≡◌, sym, ◌∙◌}
use mathlib.Core.List.{List}
use Prim.Native.Nat.{ℕ, ◌<◌}
use native.Mathlib.Omega.{arith}
use lib.ListN.{length}
use Rattle.tables.specs.Table.{at}
use Rattle.tables.specs.Loop.{each}
use Rattle.tables.proofs.Table.{same_table}
use Rattle.tables.proofs.Loop.{each_size, each_hit}

module _ {A : Type 0} (d : A) (k : ℕ) (g : ℕ → A) (l : List A) (h : length l ≡ k) where
  pub anew_at : (i : ℕ) → i < k → at (each d k (λ j. j) (λ j e. g j) l) i d ≡ g i
  anew_at i b = each_hit d (λ j. j) (λ j e. g j) l k i b (omega arith) (λ a c q r. omega arith)

  -- it comes to any table that has the same at each place
  pub anew : (m : List A) → length m ≡ k → ((i : ℕ) → i < k → g i ≡ at m i d) → each d k (λ j. j) (λ j e. g j) l ≡ m
  anew m q f = let s = each_size d (λ j. j) (λ j e. g j) l k in same_table d _ m (s ∙ h ∙ sym q) (λ i b. anew_at i (omega arith) ∙ f i (omega arith))

-- two tables made anew by one rule are the same
pub anew_again :
    {A : Type 0} (d : A) (k : ℕ) (g : ℕ → A) (l m : List A) → length l ≡ k → length m ≡ k
    → each d k (λ j. j) (λ j e. g j) l ≡ each d k (λ j. j) (λ j e. g j) m
anew_again d k g l m h q = anew d k g l h _ (each_size d (λ j. j) (λ j e. g j) m k ∙ q) (λ i b. sym (anew_at d k g m q i b))
