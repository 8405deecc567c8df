-- Why rule E and advance are as they are: what every apply and advance leaves behind, said of its outcome and of the tables, and not of how
-- the rule is written.
-- Assumes nothing.
use mathlib.Core.Path.{◌≡◌, refl}
use mathlib.Core.Bool.{true, false}
use mathlib.Core.List.{List}
use Rattle.std.specs.Prelude.{Option, None, Some}
use Prim.Native.Nat.{ℕ, ◌≤◌, ◌<◌}
use native.Mathlib.Omega.{arith}
use lib.ListN.{length}
use borrow.Author.Tests.{ltb-true, eqb-true, not-true}
use Rattle.tables.specs.Pair.{pair}
use Rattle.tables.proofs.Choice.{and_true, not_both}
use Rattle.tables.proofs.Loop.{any_at, Least, least as is_least, least_is}
use Rattle.tables.proofs.Tests.{Passed}
use Rattle.counters.specs.declared.Counters.{Counters}
use Rattle.group.specs.declared.Slot.{Slot}
use Rattle.group.specs.State.{to_apply, tag_at, number_at, unfinished}
use Rattle.group.specs.Answer.{said}
use Rattle.group.proofs.Entries.{dropped}
use Rattle.settle.specs.Settle.{least, is_learned, apply_tests, applied, apply_turn, apply_flight, advance_tests}

-- ---- rule E

-- Apply goes in ascending number: what it answers, and commits to, is at most the number of every unfinished entry here.
pub apply_least :
    (slot : Slot) (c : Counters) (flight : List ℕ) (n u : ℕ) → u < 32 → unfinished flight u n ≡ true
    → ((said (apply_turn slot c flight n).answer).number ≤ number_at flight u n) × ((apply_turn slot c flight n).counters.commit ≤ number_at flight u n)
unfolding least
apply_least slot c flight n u hu p = let l = go (least flight n) (least_is 32 (λ t. unfinished flight t n) (λ t. number_at flight t n)) in (l, l)
  where
    go : (r : Option ℕ) → Least 32 (λ t. unfinished flight t n) (λ t. number_at flight t n) r → applied flight n r ≤ number_at flight u n
    go None f = omega arith
    go (Some t) (is_least ht e m w) = m u hu p

-- What is applied is learned, and has the least number of all that are unfinished here.
pub data First (flight : List ℕ) (n : ℕ) : Option ℕ → Type 0 where
  first :
      {t : ℕ} → t < 32 → tag_at flight t n ≡ to_apply → ((u : ℕ) → u < 32 → unfinished flight u n ≡ true → number_at flight t n ≤ number_at flight u n)
      → First flight n (Some t)

pub apply_first : (flight : List ℕ) (n : ℕ) → Passed (apply_tests flight n) → First flight n (least flight n)
unfolding least
apply_first flight n o = go (least flight n) (least_is 32 (λ t. unfinished flight t n) (λ t. number_at flight t n)) o.0
  where
    go : (r : Option ℕ) → Least 32 (λ t. unfinished flight t n) (λ t. number_at flight t n) r → is_learned flight n r ≡ true → First flight n r
    go None f e = absurd (not_both e refl)
    go (Some t) (is_least ht d m w) e = first ht (eqb-true _ _ e) m

-- Its locks go.
pub apply_unlocks : (flight : List ℕ) (t n : ℕ) → pair 8 t n < length flight → unfinished (apply_flight flight n (Some t)) t n ≡ false
apply_unlocks flight t n l = dropped flight t n l

-- ---- advance

-- Advance is for an idle node: nothing is unfinished here, and the commit number rises.
pub advance_idle :
    (c : Counters) (flight : List ℕ) (n : ℕ) → Passed (advance_tests c flight n)
    → ((t : ℕ) → t < 32 → unfinished flight t n ≡ false) × (c.commit < c.seen)
unfolding advance_tests
advance_idle c flight n o = let r = and_true _ _ o.0 in (λ t ht. any_at (λ i. unfinished flight i n) 32 (not-true _ r.0) t ht, ltb-true _ _ r.1)
