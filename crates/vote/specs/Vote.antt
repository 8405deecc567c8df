-- Voting: rule C, prepare.
-- Assumes nothing.
use Rattle.std.specs.Prelude.{Bool, true, false, not, ◌&&◌, ◌||◌, List, [], ◌∷◌, ℕ, ltb, eqb, Option, None, Some, Result, Ok, Err}
use Rattle.tables.specs.Loop.{any}
use Rattle.tables.specs.Tests.{refusal}
use Rattle.number.specs.Proposal.{proposal}
use Rattle.counters.specs.Counters.{counted_to}
use Rattle.chain.specs.declared.Chains.{Chains}
use Rattle.chain.specs.Chain.{latest, has_room}
use Rattle.counters.specs.declared.Counters.{Counters}
use Rattle.group.specs.declared.Slot.{Slot}
use Rattle.group.specs.State.{holds, sent, voted_no, voted_yes, tag_at, entered, unfinished, has, voting, snapshot_of, in_stage}
use Rattle.group.specs.declared.Refusal.{Refusal}
use Rattle.group.specs.declared.Refusal.TheVariants.{WrongStage}
use Rattle.group.specs.declared.Turn.{Turn}
use Rattle.group.specs.declared.Answer.TheVariants.{Yes, No}
use Rattle.group.specs.Answer.{turn}
use Rattle.vote.specs.declared.Reason.{Reason}
use Rattle.vote.specs.declared.Reason.TheVariants.{Conflict, Outdated, Full, NoNumber}

-- ---- rule C, prepare: transaction t at node n, whose counters these are

unfoldable pub prepare_tests : Slot → List ℕ → ℕ → ℕ → List (Bool × Refusal)
prepare_tests slot flight t n = (in_stage slot voting, WrongStage) ∷ (eqb (tag_at flight t n) sent, WrongStage) ∷ []

-- the transaction of another unfinished entry here reads or writes a cell that t writes, or writes one that t read
unfoldable pub bars : List ℕ → List ℕ → List ℕ → ℕ → ℕ → ℕ → ℕ → Bool
bars masks writes reads t n u c =
    holds masks n c && ((has writes t c && (has reads u c || has writes u c)) || (has reads t c && has writes u c))

-- u is another, has an unfinished entry here and bars t at some cell
abbrev pub rival : ℕ → List ℕ → List ℕ → List ℕ → List ℕ → ℕ → ℕ → ℕ → Bool
rival cells masks flight writes reads t n u = not (eqb u t) && unfinished flight u n && any cells (bars masks writes reads t n u)

unfoldable pub conflict : ℕ → List ℕ → List ℕ → List ℕ → List ℕ → ℕ → ℕ → Bool
conflict cells masks flight writes reads t n = any 32 (rival cells masks flight writes reads t n)

-- cell c is held here, t read it, and its newest version is above the snapshot
abbrev pub behind : List ℕ → Chains → List ℕ → ℕ → ℕ → ℕ → ℕ → Bool
behind masks chains reads t n snapshot c =
    holds masks n c && has reads t c && ltb snapshot (latest chains.lens chains.versions c n)

-- a read cell held here has a newest version above the snapshot
unfoldable pub outdated : ℕ → List ℕ → Chains → List ℕ → ℕ → ℕ → ℕ → Bool
outdated cells masks chains reads t n snapshot = any cells (behind masks chains reads t n snapshot)

-- cell c is held here, t writes it, and it has 8 versions
abbrev pub crammed : List ℕ → List ℕ → List ℕ → ℕ → ℕ → ℕ → Bool
crammed masks lens writes t n c = holds masks n c && has writes t c && not (has_room lens c n)

-- a written cell held here has 8 versions
unfoldable pub full : ℕ → List ℕ → Chains → List ℕ → ℕ → ℕ → Bool
full cells masks chains writes t n = any cells (crammed masks chains.lens writes t n)

abbrev pub exists : Option ℕ → Bool
exists None = false
exists (Some k) = true

-- the paper's number of each reason
abbrev pub reason_number : Reason → ℕ
reason_number Conflict = 1
reason_number Outdated = 2
reason_number Full = 3
reason_number NoNumber = 4

-- the reason of a no: the first of four tests that fails
unfoldable pub reason : Slot → Counters → ℕ → List ℕ → List ℕ → Chains → List ℕ → List ℕ → ℕ → ℕ → Option Reason
reason slot c cells masks flight chains writes reads t n =
    refusal
    ((not (conflict cells masks flight writes reads t n), Conflict)
    ∷ (not (outdated cells masks chains reads t n (snapshot_of slot.snapshot)), Outdated)
    ∷ (not (full cells masks chains writes t n), Full)
    ∷ (exists (proposal n c.counter), NoNumber)
    ∷ [])

-- what the vote is: yes with the proposal, or no with the reason
abbrev pub Vote : Type 0
Vote = Result ℕ Reason

abbrev pub vote_for : Option Reason → Option ℕ → Vote
vote_for None None = Err NoNumber
vote_for None (Some k) = Ok k
vote_for (Some r) p = Err r

unfoldable pub vote : Slot → Counters → ℕ → List ℕ → List ℕ → Chains → List ℕ → List ℕ → ℕ → ℕ → Vote
vote slot c cells masks flight chains writes reads t n =
    vote_for (reason slot c cells masks flight chains writes reads t n) (proposal n c.counter)

-- what a vote raises the counter to; 0 for nothing
abbrev pub vote_rise : Vote → ℕ
vote_rise (Ok k) = k
vote_rise (Err r) = 0

-- on yes the counter becomes the proposal
abbrev pub prepare_turn : Slot → Counters → Vote → Turn
prepare_turn slot c (Ok k) = turn (Yes k) slot (counted_to c k)
prepare_turn slot c (Err r) = turn (No (reason_number r)) slot c

abbrev pub prepare_flight : List ℕ → ℕ → ℕ → Vote → List ℕ
prepare_flight flight t n (Ok k) = entered flight t n voted_yes k
prepare_flight flight t n (Err r) = entered flight t n voted_no 0
