-- Why rule C is as it is: what a yes means, and a no for reason 1; and what a prepare is let in to. Each is said of the outcome and of the
-- tables, and not of how the rule is written.
-- Assumes nothing.
use mathlib.Core.Path.{◌≡◌, refl, sym, ap, ◌∙◌}
use mathlib.Core.Logic.{◌≢◌}
use mathlib.Core.Bool.{Bool, true, false, cond, not, ◌&&◌, ◌||◌}
use mathlib.Core.List.{List}
use Rattle.std.specs.Prelude.{Option, None, Some, Ok, Err}
use Prim.Native.Nat.{ℕ, ◌≤◌, ◌<◌}
use native.Mathlib.Omega.{arith}
use lib.Dec.{ltb}
use borrow.Author.Tests.{ltb-true, ltb-false, eqb-true, eqb-false, ne_eqb, lt-ltb, not-true}
use Rattle.tables.specs.Loop.{any}
use Rattle.tables.specs.Tests.{refusal}
use Rattle.tables.proofs.Choice.{by_test, and_true, or_false, not_both, not_not}
use Rattle.tables.proofs.Loop.{any_at, any_where, Where, found}
use Rattle.tables.proofs.Tests.{Passed}
use Rattle.number.specs.Proposal.{proposal, IsProposal}
use Rattle.number.proofs.Laws.{proposal_is}
use Rattle.counters.specs.declared.Counters.{Counters}
use Rattle.chain.specs.declared.Chains.{Chains}
use Rattle.chain.specs.Chain.{len_at, latest, has_room}
use Rattle.group.specs.declared.Slot.{Slot}
use Rattle.group.specs.declared.Answer.TheVariants.{Yes}
use Rattle.group.specs.State.{holds, tag_at, unfinished, noted, has, committed, aborted, stage_number, snapshot_of}
use Rattle.vote.specs.declared.Reason.{Reason}
use Rattle.vote.specs.declared.Reason.TheVariants.{Conflict, Outdated, Full, NoNumber}
use Rattle.vote.specs.Vote.{prepare_tests, bars, rival, conflict, behind, outdated, crammed, full, exists, reason, Vote, vote_for, vote, prepare_turn}

-- ---- what a prepare is let in to

-- A prepare is let in while nothing is decided and nothing was voted or learned here: it comes neither again nor after its abort was
-- learned, when its locks would never go.
pub prepare_in_time :
    (slot : Slot) (flight : List ℕ) (t n : ℕ) → Passed (prepare_tests slot flight t n)
    → (stage_number slot.stage ≢ committed) × (stage_number slot.stage ≢ aborted) × (0 < tag_at flight t n) × (tag_at flight t n < 2)
unfolding prepare_tests
prepare_in_time slot flight t n o = let e = o.0 in let g = o.1.0 in
    (λ z. omega (arith, eqb-true), λ z. omega (arith, eqb-true), omega (arith, eqb-true), omega (arith, eqb-true))

-- The counter is saved before the vote: whatever is answered yes to is at most the counter.
pub yes_saves : (slot : Slot) (c : Counters) (v : Vote) (k : ℕ) → (prepare_turn slot c v).answer ≡ Yes k → k ≤ (prepare_turn slot c v).counters.counter
yes_saves slot c (Ok j) k e = let z : j ≡ k = cc in omega arith
yes_saves slot c (Err r) k e = cc

-- ---- what the four tests say

-- nothing of what one of two transactions writes in a cell is read or written by the other
abbrev pub Apart : List ℕ → List ℕ → ℕ → ℕ → ℕ → Type 0
Apart writes reads t u c =
    (0 < noted writes t c → (noted reads u c ≡ 0) × (noted writes u c ≡ 0)) × (0 < noted writes u c → (noted reads t c ≡ 0) × (noted writes t c ≡ 0))

nothing_there : (l : List ℕ) (t c : ℕ) → has l t c ≡ false → noted l t c ≡ 0
nothing_there l t c e = omega (arith, ltb-false)

-- the second of two where the first holds
both_not : (b d : Bool) → b ≡ true → (b && d) ≡ false → d ≡ false
both_not true d e z = z
both_not false d e z = absurd (not_both e refl)

-- no bar, either way
apart : (w r : List ℕ) (t u c : ℕ) → (has w t c && (has r u c || has w u c)) ≡ false → (has r t c && has w u c) ≡ false → Apart w r t u c
apart w r t u c a b = (
  λ l. let v = or_false (has r u c) (has w u c) (both_not (has w t c) _ (lt-ltb 0 (noted w t c) l) a) in (nothing_there r u c v.0, nothing_there w u c v.1),
  λ l. (
    by_test (has r t c) (λ v. absurd (not_both (lt-ltb 0 (noted w u c) l) (both_not (has r t c) (has w u c) v b))) (λ v. nothing_there r t c v),
    by_test (has w t c) (λ v. absurd (not_both (lt-ltb 0 (noted w u c) l) (or_false (has r u c) (has w u c) (both_not (has w t c) _ v a)).1)) (λ v. nothing_there w t c v),
  ),
)

module _ (slot : Slot) (c : Counters) (cells : ℕ) (masks flight : List ℕ) (chains : Chains) (writes reads : List ℕ) (t n : ℕ) where
  abbrev voted : Vote
  voted = vote slot c cells masks flight chains writes reads t n

  -- where a test fails the vote is no, so that each has passed where it is yes
  no_yes : (r : Reason) (k : ℕ) → Err r ≡ Ok k → ⊥
  no_yes r k e = cc

  module _ (k : ℕ) (e : voted ≡ Ok k) where
    no_conflict : conflict cells masks flight writes reads t n ≡ false
    unfolding vote reason refusal
    no_conflict = by_test (conflict cells masks flight writes reads t n) (λ z. absurd (no_yes Conflict k (rw z at e))) (λ z. z)

    not_outdated : outdated cells masks chains reads t n (snapshot_of slot.snapshot) ≡ false
    unfolding vote reason refusal
    not_outdated = by_test (outdated cells masks chains reads t n (snapshot_of slot.snapshot)) (λ z. absurd (no_yes Outdated k (rw (no_conflict, z) at e))) (λ z. z)

    not_full : full cells masks chains writes t n ≡ false
    unfolding vote reason refusal
    not_full = by_test (full cells masks chains writes t n) (λ z. absurd (no_yes Full k (rw (no_conflict, not_outdated, z) at e))) (λ z. z)

    its_number : proposal n c.counter ≡ Some k
    unfolding vote reason refusal
    its_number = go (proposal n c.counter) (rw (no_conflict, not_outdated, not_full) at e)
      where
        go : (p : Option ℕ) → vote_for (cond (exists p) None (Some NoNumber)) p ≡ Ok k → p ≡ Some k
        go None d = absurd (no_yes NoNumber k d)
        go (Some j) d = let z : j ≡ k = cc in ap Some z

  -- A yes locks: no other transaction with an unfinished entry here reads or writes, in a cell held here, what t writes, nor writes what
  -- t read.
  pub yes_alone :
      (k : ℕ) → voted ≡ Ok k → (u i : ℕ) → u < 32 → u ≢ t → unfinished flight u n ≡ true → i < cells → holds masks n i ≡ true → Apart writes reads t u i
  unfolding conflict bars
  yes_alone k e u i hu d p hi o =
      let x : any cells (bars masks writes reads t n u) ≡ false = rw (ne_eqb u t d, p) at (any_at (rival cells masks flight writes reads t n) 32 (no_conflict k e) u hu) in
      let y = or_false _ _ (rw o at (any_at (bars masks writes reads t n u) cells x i hi)) in
      apart writes reads t u i y.0 y.1

  -- A yes validates: every read cell held here has its newest version at or below the snapshot.
  pub yes_current :
      (k : ℕ) → voted ≡ Ok k → (i : ℕ) → i < cells → holds masks n i ≡ true → 0 < noted reads t i
      → latest chains.lens chains.versions i n ≤ snapshot_of slot.snapshot
  unfolding outdated
  yes_current k e i hi o l =
      ltb-false _ _ (rw (o, lt-ltb 0 (noted reads t i) l) at (any_at (behind masks chains reads t n (snapshot_of slot.snapshot)) cells (not_outdated k e) i hi))

  -- A yes has room: every written cell held here has at most 7 versions.
  pub yes_room : (k : ℕ) → voted ≡ Ok k → (i : ℕ) → i < cells → holds masks n i ≡ true → 0 < noted writes t i → len_at chains.lens i n ≤ 7
  unfolding full has_room
  yes_room k e i hi o l =
      let z : not (has_room chains.lens i n) ≡ false = rw (o, lt-ltb 0 (noted writes t i) l) at (any_at (crammed masks chains.lens writes t n) cells (not_full k e) i hi) in
      omega (arith, ltb-true (len_at chains.lens i n) 8 (sym (not_not (ltb (len_at chains.lens i n) 8)) ∙ ap not z))

  -- A yes is to the number that the paper's rule gives: the least above the counter that leaves n when divided by 8.
  pub yes_number : (k : ℕ) → voted ≡ Ok k → IsProposal n c.counter (Some k)
  yes_number k e = rw (its_number k e) at (proposal_is n c.counter)

  -- without a conflict, the reason is another
  other_reason : conflict cells masks flight writes reads t n ≡ false → voted ≢ Err Conflict
  unfolding vote reason refusal
  other_reason e d = go (not (outdated cells masks chains reads t n (snapshot_of slot.snapshot))) (not (full cells masks chains writes t n)) (proposal n c.counter) (rw e at d)
    where
      go : (a b : Bool) (p : Option ℕ) → vote_for (cond a (cond b (cond (exists p) None (Some NoNumber)) (Some Full)) (Some Outdated)) p ≢ Err Conflict
      go false b p z = cc
      go true false p z = cc
      go true true None z = cc
      go true true (Some j) z = cc

  -- A no for reason 1 is another's doing: where all other unfinished entries here are of transactions apart from t, that is not the
  -- answer. What t itself reads is no bar to what it writes.
  pub own_is_no_bar :
      ((u i : ℕ) → u < 32 → u ≢ t → unfinished flight u n ≡ true → i < cells → holds masks n i ≡ true → Apart writes reads t u i) → voted ≢ Err Conflict
  unfolding conflict bars
  own_is_no_bar f = other_reason (by_test (conflict cells masks flight writes reads t n) (λ e. absurd (who (any_where 32 (rival cells masks flight writes reads t n) e))) (λ e. e))
    where
      where_both : (u i : ℕ) → (has writes t i && (has reads u i || has writes u i)) ≡ true → Apart writes reads t u i → ⊥
      where_both u i e a = let r = and_true (has writes t i) (has reads u i || has writes u i) e in let l = a.0 (ltb-true _ _ r.0) in
          by_test (has reads u i) (λ z. omega (arith, ltb-true 0 (noted reads u i) z)) (λ z. let w : has writes u i ≡ true = rw z at r.1 in omega (arith, ltb-true 0 (noted writes u i) w))

      where_read : (u i : ℕ) → (has reads t i && has writes u i) ≡ true → Apart writes reads t u i → ⊥
      where_read u i e a = let r = and_true (has reads t i) (has writes u i) e in omega (arith, a.1 (ltb-true _ _ r.1), ltb-true 0 (noted reads t i) r.0)

      what : (u : ℕ) → u < 32 → u ≢ t → unfinished flight u n ≡ true → Where cells (bars masks writes reads t n u) true → ⊥
      what u hu d p (found i hi e) = let r = and_true _ _ e in let a = f u i hu d p hi r.0 in
          by_test (has writes t i && (has reads u i || has writes u i)) (λ z. where_both u i z a) (λ z. where_read u i (rw z at r.1) a)

      who : Where 32 (rival cells masks flight writes reads t n) true → ⊥
      who (found u hu e) = let r = and_true _ _ e in let q = and_true _ _ r.0 in
          what u hu (eqb-false u t (not-true _ q.0)) q.1 (any_where cells (bars masks writes reads t n u) r.1)
