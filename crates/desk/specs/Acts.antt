-- The thirteen steps of a desk, their refusals, and cut steps.
-- Assumes nothing.
use Rattle.std.specs.Prelude.{Bool, cond, not, ◌&&◌, ◌||◌, List, ◌∷◌, ℕ, leb, ltb, Option, None, Some}
use Rattle.tables.specs.Tests.{refusal}
use Rattle.counters.specs.Counters.{counted_to}
use Rattle.kinds.specs.declared.Step.{Step}
use Rattle.kinds.specs.declared.Kind.{Kind}
use Rattle.kinds.specs.declared.Kind.TheVariants.{Begin as begin, Write as write, Ask as ask, Serve as serve, Return as return, Commit as commit, Prepare as prepare, Decide as decide, GiveUp as give_up, Learn as learn, Apply as apply, Advance as advance, Abandon as abandon}
use Rattle.kinds.specs.Kinds.{named, is_known, uses_of}
use Rattle.group.specs.declared.Refusal.{Refusal}
use Rattle.group.specs.declared.Refusal.TheVariants.{NoKind, NoNode, NoPlace}
use Rattle.group.specs.declared.Answer.TheVariants.{Cut, Refused}
use Rattle.group.specs.State.{writer, ask_of, note_of, final_of}
use Rattle.group.specs.Answer.{code}
use Rattle.life.specs.Life.{begin_tests, begin_turn, cleared, write_tests, write_turn, written, give_up_tests, abandon_tests, end_turn}
use Rattle.ask.specs.Ask.{ask_tests, ask_turn}
use Rattle.read.specs.Read.{serve_tests, read_at, serve_turn, return_tests, return_turn, return_reads}
use Rattle.vote.specs.Vote.{prepare_tests, Vote, vote, vote_rise, prepare_turn, prepare_flight}
use Rattle.decide.specs.Decide.{commit_tests, commit_turn, commit_flight, decide_tests, decide_turn}
use Rattle.learn.specs.Learn.{learn_tests, learn_turn, learn_flight}
use Rattle.settle.specs.Settle.{least, apply_tests, apply_turn, apply_chains, apply_flight, advance_tests, advance_turn}
use Rattle.desk.specs.Desk.{Desk, Outcome, turned, with_flight, with_chains, with_writes, with_reads, with_counters}

-- ---- refusals 16 to 18: by the table of kinds, so that unused fields don't matter

abbrev pub field_tests : ℕ → ℕ → Step → List (Bool × Refusal) → List (Bool × Refusal)
field_tests nodes cells x ts =
    let u = uses_of x.kind in
    (is_known x.kind, NoKind)
    ∷ (not u.node || ltb x.node nodes, NoNode)
    ∷ ((not u.slot || ltb x.slot 32) && (not u.cell || ltb x.cell cells), NoPlace)
    ∷ ts

-- ---- refusals 19 to 24: what each kind needs

unfoldable pub needs : Desk → Step → Kind → List (Bool × Refusal)
needs q x begin = begin_tests q.slot x
needs q x write = write_tests q.slot
needs q x ask = ask_tests q.slot q.masks q.writes x.slot x.node x.cell
needs q x serve = serve_tests q.slot
needs q x return = return_tests q.slot
needs q x commit = commit_tests q.slot
needs q x prepare = prepare_tests q.slot q.flight x.slot x.node
needs q x decide = decide_tests q.slot q.nodes q.flight x.slot
needs q x give_up = give_up_tests q.slot
needs q x learn = learn_tests q.slot q.flight x.slot x.node
needs q x apply = apply_tests q.flight x.node
needs q x advance = advance_tests q.counters q.flight x.node
needs q x abandon = abandon_tests q.slot

-- ---- what each kind does

abbrev pub vote_of : Desk → Step → Vote
vote_of q x = vote q.slot q.counters q.cells q.masks q.flight q.chains q.writes q.reads x.slot x.node

unfoldable pub does : Desk → Step → Kind → Outcome
does q x begin =
    turned (with_reads (with_writes q (cleared q.writes x.slot)) (cleared q.reads x.slot)) (begin_turn q.counters x)
does q x write = turned (with_writes q (written q.writes x)) (write_turn q.slot q.counters)
does q x ask = turned q (ask_turn q.slot q.counters q.writes x.slot x.node x.cell)
does q x serve = turned q (serve_turn q.slot q.counters q.flight q.writes q.chains)
does q x return = turned (with_reads q (return_reads q.slot q.reads x.slot)) (return_turn q.slot q.counters)
does q x commit =
    turned (with_flight q (commit_flight q.nodes q.cells q.masks q.flight q.writes q.reads x.slot))
    (commit_turn q.slot q.counters (writer q.cells q.writes x.slot))
does q x prepare =
    turned (with_flight q (prepare_flight q.flight x.slot x.node (vote_of q x))) (prepare_turn q.slot q.counters (vote_of q x))
does q x decide = turned q (decide_turn q.slot q.counters q.nodes q.flight x.slot)
does q x give_up = turned q (end_turn q.slot q.counters)
does q x learn = turned (with_flight q (learn_flight q.slot q.flight x.slot x.node)) (learn_turn q.slot q.counters)
does q x apply =
    let t = least q.flight x.node in
    turned
    (with_chains (with_flight q (apply_flight q.flight x.node t)) (apply_chains q.cells q.masks q.flight q.chains q.writes x.node t))
    (apply_turn q.slot q.counters q.flight x.node)
does q x advance = turned q (advance_turn q.slot q.counters)
does q x abandon = turned q (end_turn q.slot q.counters)

-- ---- the cut step: the counter is written as the whole step would write it, and nothing else changes

-- what the step raises its node's counter to; 0 where it raises none
unfoldable pub rise : Desk → Step → Kind → ℕ
rise q x begin = 0
rise q x write = 0
rise q x ask = 0
rise q x serve = read_at (ask_of q.slot.stage) q.counters
rise q x return = (note_of q.slot.stage).s
rise q x commit = 0
rise q x prepare = vote_rise (vote_of q x)
rise q x decide = 0
rise q x give_up = 0
rise q x learn = final_of q.slot.stage
rise q x apply = 0
rise q x advance = 0
rise q x abandon = 0

unfoldable pub cuts : Desk → Step → Kind → Outcome
cuts q x k = record { answer = Cut; desk = with_counters q (counted_to q.counters (rise q x k)) }

-- ---- the step

abbrev pub refuses : Desk → ℕ → Outcome
refuses q c = record { answer = Refused c; desk = q }

-- what is judged, and where nothing fails, what is done
abbrev pub judge : Option Refusal → Desk → Outcome → Outcome
judge None q o = o
judge (Some why) q o = refuses q (code why)

unfoldable pub act : Desk → Step → Outcome
act q x =
    let k = named x.kind in
    judge (refusal (field_tests q.nodes q.cells x (needs q x k))) q (cond (leb 128 x.kind) (cuts q x k) (does q x k))
