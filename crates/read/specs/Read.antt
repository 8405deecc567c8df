-- Reading: rule A, serve; rule B, return.
-- Assumes nothing.
use Rattle.std.specs.Prelude.{Bool, true, cond, ◌&&◌, List, [], ◌∷◌, ℕ, ◌+◌, max, leb, ltb, Option, None, Some}
use Rattle.tables.specs.Table.{put}
use Rattle.tables.specs.Pair.{pair}
use Rattle.tables.specs.Loop.{any}
use Rattle.counters.specs.Counters.{risen_to}
use Rattle.chain.specs.Chain.{newest, latest}
use Rattle.chain.specs.declared.Chains.{Chains}
use Rattle.chain.specs.declared.Version.{Version}
use Rattle.counters.specs.declared.Counters.{Counters}
use Rattle.group.specs.declared.Ask.{Ask}
use Rattle.group.specs.declared.Note.{Note}
use Rattle.group.specs.declared.Slot.{Slot}
use Rattle.group.specs.declared.Refusal.{Refusal}
use Rattle.group.specs.declared.Refusal.TheVariants.{WrongStage}
use Rattle.group.specs.declared.Stage.TheVariants.{Open, Asking, Served, Aborted}
use Rattle.group.specs.State.{number_at, unfinished, has, asking, served, ask_of, note_of, in_stage, at_stage}
use Rattle.group.specs.declared.Turn.{Turn}
use Rattle.group.specs.declared.Answer.TheVariants.{Done, Value, Wait}
use Rattle.group.specs.Answer.{turn}
use Rattle.group.specs.declared.Answer.TheVariants as Answer

-- ---- rule A, serve: the counters are the holder's

abbrev pub serve_tests : Slot → List (Bool × Refusal)
serve_tests slot = (in_stage slot asking, WrongStage) ∷ []

-- the read's s: exactly what is carried, where that is settled; else the larger of it and the holder's commit number
unfoldable pub read_at : Ask → Counters → ℕ
read_at a holder = cond a.exact a.carried (max a.carried holder.commit)

-- transaction u has an unfinished entry at node n that writes cell c, with a number at or below s
unfoldable pub blocks : List ℕ → List ℕ → ℕ → ℕ → ℕ → ℕ → Bool
blocks flight writes n c s u = unfinished flight u n && leb (number_at flight u n) s && has writes u c

unfoldable pub blocked : List ℕ → List ℕ → ℕ → ℕ → ℕ → Bool
blocked flight writes n c s = any 32 (blocks flight writes n c s)

abbrev pub value_of : Option Version → ℕ
value_of None = 0
value_of (Some v) = v.value

-- the newest version numbered at or below s, with a mark stale if the chain's newest is above s
unfoldable pub note_for : Chains → Ask → ℕ → Note
note_for chains a s =
    record {
      node = a.node;
      cell = a.cell;
      s = s;
      value = value_of (newest chains.lens chains.versions a.cell a.node s);
      stale = ltb s (latest chains.lens chains.versions a.cell a.node);
    }

-- s stays so through waits
abbrev pub wait_for : Ask → ℕ → Ask
wait_for a s = record { node = a.node; cell = a.cell; carried = s; exact = true }

unfoldable pub serve_turn : Slot → Counters → List ℕ → List ℕ → Chains → Turn
serve_turn slot holder flight writes chains =
    let a = ask_of slot.stage in
    let s = read_at a holder in
    cond (blocked flight writes a.node a.cell s) (turn (Wait s) (at_stage slot (Asking (wait_for a s))) (risen_to holder s))
    (turn (Done s) (at_stage slot (Served (note_for chains a s))) (risen_to holder s))

-- ---- rule B, return: the counters are the origin's

abbrev pub return_tests : Slot → List (Bool × Refusal)
return_tests slot = (in_stage slot served, WrongStage) ∷ []

-- an update transaction with a stale read gets no value
abbrev pub spoilt : Slot → Bool
spoilt slot = slot.update && (note_of slot.stage).stale

unfoldable pub return_turn : Slot → Counters → Turn
return_turn slot origin =
    let v = note_of slot.stage in
    cond (spoilt slot) (turn Answer.Aborted (at_stage slot Aborted) (risen_to origin v.s))
    (turn (Value v.s v.value)
    (record { stage = Open; origin = slot.origin; update = slot.update; snapshot = Some v.s })
    (risen_to origin v.s))

-- the cell joins the read set
unfoldable pub return_reads : Slot → List ℕ → ℕ → List ℕ
return_reads slot reads t =
    let v = note_of slot.stage in
    cond (spoilt slot) reads (put reads (pair 32 t v.cell) (v.value + 1))
