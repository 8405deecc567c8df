-- The codes that a step of a desk answers: it is refused with one of 16 to 24.
-- Assumes nothing.
use mathlib.Core.Bool.{Bool, cond}
use mathlib.Core.List.{List, [], ◌∷◌}
use Rattle.std.specs.Prelude.{Option, None, Some, Ok, Err}
use Prim.Native.Nat.{◌≤◌}
use native.Mathlib.Omega.{arith}
use lib.Dec.{leb}
use Rattle.tables.specs.Tests.{refusal}
use Rattle.tables.proofs.Choice.{by_test}
use Rattle.tables.proofs.Tests.{Judged, passes, fails, Fails, here, later, judged}
use Rattle.kinds.specs.declared.Step.{Step}
use Rattle.kinds.specs.declared.Kind.{Kind}
use Rattle.kinds.specs.declared.Kind.TheVariants.{Begin as begin, Write as write, Ask as ask, Serve as serve, Return as return, Commit as commit, Prepare as prepare, Decide as decide, GiveUp as give_up, Learn as learn, Apply as apply, Advance as advance, Abandon as abandon}
use Rattle.kinds.specs.Kinds.{named}
use Rattle.group.specs.declared.Refusal.{Refusal}
use Rattle.group.specs.Answer.{code}
use Rattle.group.specs.declared.Answer.{Answer}
use Rattle.group.specs.declared.Answer.TheVariants.{Done, Value, Wait, Yes, No, Committed, Aborted, Cut, Refused}
use Rattle.group.specs.State.{has, writer, committed, ask_of, in_stage}
use Rattle.life.specs.Life.{begin_tests, write_tests, give_up_tests, abandon_tests}
use Rattle.ask.specs.Ask.{ask_tests, ask_turn}
use Rattle.read.specs.Read.{read_at, blocked, serve_turn, spoilt, return_turn}
use Rattle.vote.specs.Vote.{prepare_tests, Vote, prepare_turn}
use Rattle.decide.specs.Decide.{commit_turn, refused_by, decide_tests, decide_turn}
use Rattle.learn.specs.Learn.{learn_tests, learn_turn}
use Rattle.settle.specs.Settle.{advance_tests}
use Rattle.desk.specs.Desk.{Desk}
use Rattle.desk.specs.Acts.{field_tests, needs, does, vote_of, cuts, judge, act}

-- ---- the tests' codes

abbrev Coded : Refusal → Type 0
Coded r = (16 ≤ code r) × (code r ≤ 24)

abbrev Codes : List (Bool × Refusal) → Type 0
Codes [] = Unit {0}
Codes (t ∷ ts) = Coded t.1 × Codes ts

fails_coded : (ts : List (Bool × Refusal)) (c : Refusal) → Codes ts → Fails ts c → Coded c
fails_coded [] c h x = elim x [ ]
fails_coded (t ∷ ts) c h (here e) = h.0
fails_coded (t ∷ ts) c h (later e f) = fails_coded ts c h.1 f

needs_coded : (q : Desk) (x : Step) (k : Kind) → Codes (needs q x k)
unfolding needs begin_tests write_tests give_up_tests abandon_tests ask_tests prepare_tests decide_tests learn_tests advance_tests
needs_coded q x begin = (omega arith, (omega arith, tt))
needs_coded q x write = (omega arith, (omega arith, tt))
needs_coded q x ask = (omega arith, (omega arith, tt))
needs_coded q x serve = (omega arith, tt)
needs_coded q x return = (omega arith, tt)
needs_coded q x commit = (omega arith, tt)
needs_coded q x prepare = (omega arith, (omega arith, tt))
needs_coded q x decide = (omega arith, (omega arith, tt))
needs_coded q x give_up = (omega arith, tt)
needs_coded q x learn = (omega arith, (omega arith, tt))
needs_coded q x apply = (omega arith, tt)
needs_coded q x advance = (omega arith, tt)
needs_coded q x abandon = (omega arith, tt)

-- accepted, or refused with such a code
abbrev pub Accepted : Option Refusal → Type 0
Accepted None = Unit {0}
Accepted (Some r) = (16 ≤ code r) × (code r ≤ 24)

pub refused_coded : (q : Desk) (x : Step) (k : Kind) → Accepted (refusal (field_tests q.nodes q.cells x (needs q x k)))
refused_coded q x k = go _ (judged (field_tests q.nodes q.cells x (needs q x k)))
  where
    go : (r : Option Refusal) → Judged (field_tests q.nodes q.cells x (needs q x k)) r → Accepted r
    go None (passes p) = tt
    go (Some c) (fails f) = fails_coded (field_tests q.nodes q.cells x (needs q x k)) c (omega arith, (omega arith, (omega arith, needs_coded q x k))) f

-- ---- the answers

-- no refusal, or one with such a code
abbrev pub Answered : Answer → Type 0
Answered (Done k) = Unit {0}
Answered (Value s v) = Unit {0}
Answered (Wait s) = Unit {0}
Answered (Yes k) = Unit {0}
Answered (No r) = Unit {0}
Answered (Committed k) = Unit {0}
Answered Aborted = Unit {0}
Answered Cut = Unit {0}
Answered (Refused c) = (16 ≤ c) × (c ≤ 24)

voted : (q : Desk) (v : Vote) → Answered (prepare_turn q.slot q.counters v).answer
voted q (Ok k) = tt
voted q (Err r) = tt

done : (q : Desk) (x : Step) (k : Kind) → Answered (does q x k).answer
unfolding does ask_turn serve_turn return_turn commit_turn decide_turn learn_turn
done q x begin = tt
done q x write = tt
done q x ask = by_test (has q.writes x.slot x.cell) (λ e. rw (e, does, ask_turn) tt) (λ e. rw (e, does, ask_turn) tt)
done q x serve = by_test (blocked q.flight q.writes (ask_of q.slot.stage).node (ask_of q.slot.stage).cell (read_at (ask_of q.slot.stage) q.counters))
    (λ e. rw (e, does, serve_turn) tt) (λ e. rw (e, does, serve_turn) tt)
done q x return = by_test (spoilt q.slot) (λ e. rw (e, does, return_turn) tt) (λ e. rw (e, does, return_turn) tt)
done q x commit = by_test (writer q.cells q.writes x.slot) (λ e. rw (e, does, commit_turn) tt) (λ e. rw (e, does, commit_turn) tt)
done q x prepare = voted q (vote_of q x)
done q x decide = by_test (refused_by q.nodes q.flight x.slot) (λ e. rw (e, does, decide_turn) tt) (λ e. rw (e, does, decide_turn) tt)
done q x give_up = tt
done q x learn = by_test (in_stage q.slot committed) (λ e. rw (e, does, learn_turn) tt) (λ e. rw (e, does, learn_turn) tt)
done q x apply = tt
done q x advance = tt
done q x abandon = tt

-- a step of a whole state
pub answered : (q : Desk) (x : Step) → Answered (act q x).answer
unfolding act cuts
answered q x = go (refusal (field_tests q.nodes q.cells x (needs q x k))) (refused_coded q x k)
  where
    k : Kind
    k = named x.kind

    go : (r : Option Refusal) → Accepted r → Answered (judge r q (cond (leb 128 x.kind) (cuts q x k) (does q x k))).answer
    go None h = by_test (leb 128 x.kind) (λ e. rw (e, cuts) tt) (λ e. rw e (done q x k))
    go (Some c) h = h
