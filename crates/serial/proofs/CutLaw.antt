-- The cut step: "the counter is written as the whole step would write it and nothing else changes", for every kind.
-- Assumes nothing.
use mathlib.Core.Path.{◌≡◌, refl, ap, ◌∙◌}
use mathlib.Core.Bool.{false}
use Prim.Native.Nat.{ℕ, max}
use native.Mathlib.Nat.{max-zero}
use Rattle.std.specs.Prelude.{Ok, Err}
use Rattle.tables.proofs.Choice.{by_test, not_both}
use Rattle.counters.specs.declared.Counters.{Counters}
use Rattle.kinds.specs.declared.Step.{Step}
use Rattle.kinds.specs.declared.Kind.{Kind}
use Rattle.kinds.specs.declared.Kind.TheVariants.{Begin as begin, Write as write, Ask as ask, Serve as serve, Return as return, Commit as commit, Prepare as prepare, Decide as decide, GiveUp as give_up, Learn as learn, Apply as apply, Advance as advance, Abandon as abandon}
use Rattle.group.specs.declared.Slot.{Slot}
use Rattle.group.specs.declared.Stage.{Stage}
use Rattle.group.specs.declared.Stage.TheVariants.{Unused, Open, Asking, Served, Voting, Committed, Aborted}
use Rattle.group.specs.State.{has, writer, ask_of, final_of, committed, in_stage}
use Rattle.ask.specs.Ask.{ask_turn}
use Rattle.read.specs.Read.{read_at, blocked, serve_turn, spoilt, return_turn}
use Rattle.vote.specs.Vote.{Vote, prepare_turn, vote_rise}
use Rattle.decide.specs.Decide.{commit_turn, refused_by, decide_turn}
use Rattle.learn.specs.Learn.{learn_turn}
use Rattle.desk.specs.Desk.{Desk, with_counters}
use Rattle.desk.specs.Acts.{does, vote_of, rise, cuts}

-- the desk with the counter that another has, and nothing else of it
abbrev pub with_counter : Desk → Counters → Desk
with_counter q c = with_counters q (record { counter = c.counter; commit = q.counters.commit; seen = q.counters.seen })

-- a yes raises the counter to the proposal, a no leaves it
voted : (slot : Slot) (c : Counters) (v : Vote) → max c.counter (vote_rise v) ≡ (prepare_turn slot c v).counters.counter
voted slot c (Ok k) = refl
voted slot c (Err r) = max-zero _

-- only a committed transaction has a final number
uncommitted : (slot : Slot) (st : Stage) → slot.stage ≡ st → in_stage slot committed ≡ false → final_of st ≡ 0
uncommitted slot Unused e d = refl
uncommitted slot Open e d = refl
uncommitted slot (Asking a) e d = refl
uncommitted slot (Served v) e d = refl
uncommitted slot Voting e d = refl
uncommitted slot (Committed k) e d = absurd (not_both (rw e) d)
uncommitted slot Aborted e d = refl

-- the counter that the whole step writes
counter_written : (q : Desk) (x : Step) (k : Kind) → max q.counters.counter (rise q x k) ≡ (does q x k).desk.counters.counter
unfolding rise does ask_turn serve_turn return_turn commit_turn decide_turn learn_turn
counter_written q x begin = max-zero _
counter_written q x write = max-zero _
counter_written q x ask = by_test (has q.writes x.slot x.cell) (λ e. rw e (max-zero _)) (λ e. rw e (max-zero _))
counter_written q x serve =
    by_test (blocked q.flight q.writes (ask_of q.slot.stage).node (ask_of q.slot.stage).cell (read_at (ask_of q.slot.stage) q.counters)) (λ e. rw (e, serve_turn)) (λ e. rw (e, serve_turn))
counter_written q x return = by_test (spoilt q.slot) (λ e. rw e) (λ e. rw e)
counter_written q x commit = by_test (writer q.cells q.writes x.slot) (λ e. rw e (max-zero _)) (λ e. rw e (max-zero _))
counter_written q x prepare = voted q.slot q.counters (vote_of q x)
counter_written q x decide = by_test (refused_by q.nodes q.flight x.slot) (λ e. rw e (max-zero _)) (λ e. rw e (max-zero _))
counter_written q x give_up = max-zero _
counter_written q x learn = by_test (in_stage q.slot committed) (λ e. rw e) (λ e. rw e (ap (max q.counters.counter) (uncommitted q.slot q.slot.stage refl e) ∙ max-zero _))
counter_written q x apply = max-zero _
counter_written q x advance = max-zero _
counter_written q x abandon = max-zero _

pub cut_law : (q : Desk) (x : Step) (k : Kind) → (cuts q x k).desk ≡ with_counter q (does q x k).desk.counters
unfolding cuts
cut_law q x k = ap (λ (c : ℕ). with_counters q (record { counter = c; commit = q.counters.commit; seen = q.counters.seen })) (counter_written q x k)
