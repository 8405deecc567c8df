-- Laws of the definitions in `specs/`: the two outcomes of a serve, and of a return.
-- Assumes nothing.
use mathlib.Core.Path.{◌≡◌}
use mathlib.Core.Bool.{true, false}
use mathlib.Core.List.{List}
use Prim.Native.Nat.{ℕ, ◌+◌}
use Rattle.std.specs.Prelude.{Some}
use Rattle.tables.specs.Table.{put}
use Rattle.tables.specs.Pair.{pair}
use Rattle.chain.specs.declared.Chains.{Chains}
use Rattle.counters.specs.Counters.{risen_to}
use Rattle.counters.specs.declared.Counters.{Counters}
use Rattle.group.specs.declared.Slot.{Slot}
use Rattle.group.specs.declared.Stage.TheVariants.{Open, Asking, Served, Aborted}
use Rattle.group.specs.declared.Answer.TheVariants.{Done, Value, Wait}
use Rattle.group.specs.declared.Answer.TheVariants as Answer
use Rattle.group.specs.State.{ask_of, note_of, at_stage}
use Rattle.group.specs.Answer.{turn}
use Rattle.read.specs.Read.{read_at, blocked, note_for, wait_for, serve_turn, spoilt, return_turn, return_reads}

-- ---- rule A

module _ (slot : Slot) (holder : Counters) (flight writes : List ℕ) (h : Chains) where
  pub serve_waits :
      let a = ask_of slot.stage in
      let s = read_at a holder in
      blocked flight writes a.node a.cell s ≡ true
      → serve_turn slot holder flight writes h ≡ turn (Wait s) (at_stage slot (Asking (wait_for a s))) (risen_to holder s)
  unfolding serve_turn
  serve_waits e = rw e

  pub serve_notes :
      let a = ask_of slot.stage in
      let s = read_at a holder in
      blocked flight writes a.node a.cell s ≡ false
      → serve_turn slot holder flight writes h ≡ turn (Done s) (at_stage slot (Served (note_for h a s))) (risen_to holder s)
  unfolding serve_turn
  serve_notes e = rw e

-- ---- rule B

module _ (slot : Slot) (origin : Counters) where
  pub return_aborts : spoilt slot ≡ true → return_turn slot origin ≡ turn Answer.Aborted (at_stage slot Aborted) (risen_to origin (note_of slot.stage).s)
  unfolding return_turn
  return_aborts e = rw e

  pub return_hands :
      let v = note_of slot.stage in
      spoilt slot ≡ false
      → return_turn slot origin
      ≡ turn (Value v.s v.value) (record { stage = Open; origin = slot.origin; update = slot.update; snapshot = Some v.s }) (risen_to origin v.s)
  unfolding return_turn
  return_hands e = rw e

module _ (slot : Slot) (reads : List ℕ) (t : ℕ) where
  pub reads_stay : spoilt slot ≡ true → return_reads slot reads t ≡ reads
  unfolding return_reads
  reads_stay e = rw e

  pub reads_join : let v = note_of slot.stage in spoilt slot ≡ false → return_reads slot reads t ≡ put reads (pair 32 t v.cell) (v.value + 1)
  unfolding return_reads
  reads_join e = rw e
