-- What the origin does before the votes and after them: step 6, commit; step 8, decide. Neither moves a counter.
-- Assumes nothing.
use Rattle.std.specs.Prelude.{Bool, cond, not, ◌||◌, List, [], ◌∷◌, ℕ, eqb}
use Rattle.tables.specs.Pair.{pair, word}
use Rattle.tables.specs.Loop.{any, largest, each}
use Rattle.counters.specs.declared.Counters.{Counters}
use Rattle.group.specs.declared.Slot.{Slot}
use Rattle.group.specs.declared.Stage.TheVariants.{Voting, Committed, Aborted}
use Rattle.group.specs.declared.Turn.{Turn}
use Rattle.group.specs.declared.Refusal.{Refusal}
use Rattle.group.specs.declared.Refusal.TheVariants.{WrongStage, VoteLacks}
use Rattle.group.specs.declared.Answer.TheVariants.{Done}
use Rattle.group.specs.declared.Answer.TheVariants as Answer
use Rattle.group.specs.State.{sent, voted_no, voted_yes, tag_at, number_at, writer, involved, opened, voting, in_stage, at_stage}
use Rattle.group.specs.Answer.{turn}

-- ---- step 6, commit

abbrev pub commit_tests : Slot → List (Bool × Refusal)
commit_tests slot = (in_stage slot opened, WrongStage) ∷ []

-- no writes: committed, number 0
unfoldable pub commit_turn : Slot → Counters → Bool → Turn
commit_turn slot c writes =
    cond writes (turn (Done 0) (at_stage slot Voting) c) (turn (Answer.Committed 0) (at_stage slot (Committed 0)) c)

-- else prepare is sent to every holder of a read or written cell
unfoldable pub sent_to : ℕ → ℕ → List ℕ → List ℕ → List ℕ → List ℕ → ℕ → List ℕ
sent_to nodes cells masks flight writes reads t =
    each 0 nodes (pair 8 t) (λ n e. cond (involved cells masks writes reads t n) (pair word sent 0) e) flight

unfoldable pub commit_flight : ℕ → ℕ → List ℕ → List ℕ → List ℕ → List ℕ → ℕ → List ℕ
commit_flight nodes cells masks flight writes reads t =
    cond (writer cells writes t) (sent_to nodes cells masks flight writes reads t) flight

-- ---- step 8, decide

-- a node voted no; a vote is lacking
unfoldable pub refused_by : ℕ → List ℕ → ℕ → Bool
refused_by nodes flight t = any nodes (λ n. eqb (tag_at flight t n) voted_no)

unfoldable pub lacking : ℕ → List ℕ → ℕ → Bool
lacking nodes flight t = any nodes (λ n. eqb (tag_at flight t n) sent)

unfoldable pub decide_tests : Slot → ℕ → List ℕ → ℕ → List (Bool × Refusal)
decide_tests slot nodes flight t =
    (in_stage slot voting, WrongStage) ∷ (refused_by nodes flight t || not (lacking nodes flight t), VoteLacks) ∷ []

-- what node n proposed; 0 where it has no yes vote
abbrev pub proposed : List ℕ → ℕ → ℕ → ℕ
proposed flight t n = cond (eqb (tag_at flight t n) voted_yes) (number_at flight t n) 0

-- the largest proposal
unfoldable pub final : ℕ → List ℕ → ℕ → ℕ
final nodes flight t = largest nodes (proposed flight t)

-- a no vote: aborted; all voted yes: committed with the largest proposal
unfoldable pub decide_turn : Slot → Counters → ℕ → List ℕ → ℕ → Turn
decide_turn slot c nodes flight t =
    cond (refused_by nodes flight t) (turn Answer.Aborted (at_stage slot Aborted) c)
    (turn (Answer.Committed (final nodes flight t)) (at_stage slot (Committed (final nodes flight t))) c)
