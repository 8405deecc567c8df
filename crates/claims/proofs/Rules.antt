-- Why the rules are as they are, one reason after the other. Each is proved beside its rule; here it stands whole, so that it can neither go
-- nor grow weaker unnoticed.
-- Assumes nothing.
use mathlib.Core.Path.{◌≡◌}
use mathlib.Core.Logic.{◌≢◌}
use mathlib.Core.Bool.{true, false}
use mathlib.Core.List.{List}
use Prim.Native.Nat.{ℕ, ◌≤◌, ◌<◌}
use lib.ListN.{length}
use Rattle.std.specs.Prelude.{Ok, Err, Some}
use Rattle.tables.specs.Pair.{pair}
use Rattle.tables.proofs.Tests.{Passed}
use Rattle.number.specs.Proposal.{IsProposal}
use Rattle.counters.specs.declared.Counters.{Counters}
use Rattle.chain.specs.declared.Chains.{Chains}
use Rattle.chain.specs.Chain.{len_at, latest}
use Rattle.group.specs.declared.Slot.{Slot}
use Rattle.group.specs.declared.Answer.TheVariants.{Done, Yes}
use Rattle.group.specs.State.{holds, voted_yes, tag_at, number_at, unfinished, noted, has, committed, aborted, stage_number, ask_of, note_of, final_of, snapshot_of, in_stage}
use Rattle.group.specs.Answer.{said}
use Rattle.read.specs.Read.{serve_turn, return_turn}
use Rattle.read.proofs.Reasons as Read
use Rattle.vote.specs.declared.Reason.TheVariants.{Conflict}
use Rattle.vote.specs.Vote.{prepare_tests, Vote, vote, prepare_turn}
use Rattle.vote.proofs.Reasons.{Apart}
use Rattle.vote.proofs.Reasons as Voting
use Rattle.decide.specs.Decide.{final}
use Rattle.decide.proofs.Reasons as Deciding
use Rattle.learn.specs.Learn.{learn_turn, learn_flight}
use Rattle.learn.proofs.Reasons as Learning
use Rattle.settle.specs.Settle.{least, apply_tests, apply_turn, apply_flight, advance_tests}
use Rattle.settle.proofs.Reasons.{First}
use Rattle.settle.proofs.Reasons as Settling

-- ---- rules A and B

module _ (slot : Slot) (holder : Counters) (flight writes : List ℕ) (h : Chains) where
  -- A read waits for every number at or below its s: where it is done, nothing at or below s is still to come.
  pub waits_for_all :
      (s : ℕ) → (serve_turn slot holder flight writes h).answer ≡ Done s → (u : ℕ) → u < 32 → unfinished flight u (ask_of slot.stage).node ≡ true
      → has writes u (ask_of slot.stage).cell ≡ true → s < number_at flight u (ask_of slot.stage).node
  waits_for_all = Read.nothing_to_come slot holder flight writes h

  -- The counter is saved before a read is handed out, at the holder ..
  pub serve_saves :
      ((said (serve_turn slot holder flight writes h).answer).number ≤ (serve_turn slot holder flight writes h).counters.counter)
      × ((said (serve_turn slot holder flight writes h).answer).number ≤ (serve_turn slot holder flight writes h).counters.seen)
  serve_saves = Read.serve_saves slot holder flight writes h

  -- The snapshot is what is carried where that is settled, and else no less than that nor than the holder's commit number.
  pub serve_carried :
      ((ask_of slot.stage).exact ≡ true → (said (serve_turn slot holder flight writes h).answer).number ≡ (ask_of slot.stage).carried)
      × ((ask_of slot.stage).exact ≡ false
      → ((ask_of slot.stage).carried ≤ (said (serve_turn slot holder flight writes h).answer).number)
      × (holder.commit ≤ (said (serve_turn slot holder flight writes h).answer).number))
  serve_carried = Read.serve_carried slot holder flight writes h

-- .. and at the origin.
pub return_saves : (slot : Slot) (origin : Counters)
    → ((note_of slot.stage).s ≤ (return_turn slot origin).counters.counter) × ((note_of slot.stage).s ≤ (return_turn slot origin).counters.seen)
return_saves = Read.return_saves

-- ---- rule C

-- A prepare comes neither again nor after its abort was learned.
pub prepare_in_time : (slot : Slot) (flight : List ℕ) (t n : ℕ) → Passed (prepare_tests slot flight t n)
    → (stage_number slot.stage ≢ committed) × (stage_number slot.stage ≢ aborted) × (0 < tag_at flight t n) × (tag_at flight t n < 2)
prepare_in_time = Voting.prepare_in_time

-- The counter is saved before the vote.
pub yes_saves : (slot : Slot) (c : Counters) (v : Vote) (k : ℕ) → (prepare_turn slot c v).answer ≡ Yes k → k ≤ (prepare_turn slot c v).counters.counter
yes_saves = Voting.yes_saves

module _ (slot : Slot) (c : Counters) (cells : ℕ) (masks flight : List ℕ) (chains : Chains) (writes reads : List ℕ) (t n : ℕ) where
  module _ (k : ℕ) (e : vote slot c cells masks flight chains writes reads t n ≡ Ok k) where
    -- A yes locks: whatever else is unfinished here is apart from t.
    pub yes_alone : (u i : ℕ) → u < 32 → u ≢ t → unfinished flight u n ≡ true → i < cells → holds masks n i ≡ true → Apart writes reads t u i
    yes_alone = Voting.yes_alone slot c cells masks flight chains writes reads t n k e

    -- A yes validates: no read cell held here is newer than the snapshot.
    pub yes_current : (i : ℕ) → i < cells → holds masks n i ≡ true → 0 < noted reads t i → latest chains.lens chains.versions i n ≤ snapshot_of slot.snapshot
    yes_current = Voting.yes_current slot c cells masks flight chains writes reads t n k e

    -- A yes has room, and is to the number that the paper's rule gives.
    pub yes_room : (i : ℕ) → i < cells → holds masks n i ≡ true → 0 < noted writes t i → len_at chains.lens i n ≤ 7
    yes_room = Voting.yes_room slot c cells masks flight chains writes reads t n k e

    pub yes_number : IsProposal n c.counter (Some k)
    yes_number = Voting.yes_number slot c cells masks flight chains writes reads t n k e

  -- A no for reason 1 is another's doing: what t itself reads is no bar to what it writes.
  pub own_is_no_bar :
      ((u i : ℕ) → u < 32 → u ≢ t → unfinished flight u n ≡ true → i < cells → holds masks n i ≡ true → Apart writes reads t u i)
      → vote slot c cells masks flight chains writes reads t n ≢ Err Conflict
  own_is_no_bar = Voting.own_is_no_bar slot c cells masks flight chains writes reads t n

-- The final number is no less than any proposal.
pub final_most : (nodes : ℕ) (flight : List ℕ) (t n : ℕ) → n < nodes → tag_at flight t n ≡ voted_yes → number_at flight t n ≤ final nodes flight t
final_most = Deciding.final_most

-- ---- rule D

-- The counter is saved before a commit is entered, to its final number.
pub learn_saves : (slot : Slot) (c : Counters)
    → ((said (learn_turn slot c).answer).number ≤ (learn_turn slot c).counters.counter)
    × (in_stage slot committed ≡ true → (said (learn_turn slot c).answer).number ≡ final_of slot.stage)
learn_saves slot c = (Learning.learn_saves slot c, Learning.learn_answers slot c)

-- An abort's locks go.
pub abort_unlocks : (slot : Slot) (flight : List ℕ) (t n : ℕ) → pair 8 t n < length flight → in_stage slot committed ≡ false → unfinished (learn_flight slot flight t n) t n ≡ false
abort_unlocks = Learning.abort_unlocks

-- ---- rule E and advance

-- Apply goes in ascending number: what it answers, and commits to, is at most every unfinished number here ..
pub apply_least : (slot : Slot) (c : Counters) (flight : List ℕ) (n u : ℕ) → u < 32 → unfinished flight u n ≡ true
    → ((said (apply_turn slot c flight n).answer).number ≤ number_at flight u n) × ((apply_turn slot c flight n).counters.commit ≤ number_at flight u n)
apply_least = Settling.apply_least

-- .. what is applied is learned, and its locks go.
pub apply_first : (flight : List ℕ) (n : ℕ) → Passed (apply_tests flight n) → First flight n (least flight n)
apply_first = Settling.apply_first

pub apply_unlocks : (flight : List ℕ) (t n : ℕ) → pair 8 t n < length flight → unfinished (apply_flight flight n (Some t)) t n ≡ false
apply_unlocks = Settling.apply_unlocks

-- Advance is for an idle node, and its commit number rises.
pub advance_idle : (c : Counters) (flight : List ℕ) (n : ℕ) → Passed (advance_tests c flight n) → ((t : ℕ) → t < 32 → unfinished flight t n ≡ false) × (c.commit < c.seen)
advance_idle = Settling.advance_idle
