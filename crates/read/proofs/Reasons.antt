-- Why rules A and B are as they are: what every serve and every return leaves behind, said of its answer and not of how the rule is
-- written.
-- Assumes nothing.
use mathlib.Core.Path.{◌≡◌, refl, sym, ap, ◌∙◌}
use mathlib.Core.Bool.{Bool, true, false, ◌&&◌}
use mathlib.Core.List.{List}
use Prim.Native.Nat.{ℕ, ◌≤◌, ◌<◌}
use native.Mathlib.Omega.{arith}
use borrow.Author.Tests.{leb-false, ltb-false}
use Rattle.tables.proofs.Choice.{by_test}
use Rattle.tables.proofs.Loop.{any_at}
use Rattle.chain.specs.declared.Chains.{Chains}
use Rattle.counters.specs.declared.Counters.{Counters}
use Rattle.group.specs.declared.Ask.{Ask}
use Rattle.group.specs.declared.Slot.{Slot}
use Rattle.group.specs.declared.Turn.{Turn}
use Rattle.group.specs.declared.Answer.{Answer}
use Rattle.group.specs.declared.Answer.TheVariants.{Done, Wait}
use Rattle.group.specs.State.{number_at, unfinished, has, ask_of, note_of}
use Rattle.group.specs.Answer.{said}
use Rattle.read.specs.Read.{read_at, blocks, blocked, serve_turn, spoilt, return_turn}

and_yes : (b : Bool) → (b && true) ≡ b
and_yes true = refl
and_yes false = refl

-- ---- rule A

module _ (slot : Slot) (holder : Counters) (flight writes : List ℕ) (h : Chains) where
  abbrev ask : Ask
  ask = ask_of slot.stage

  abbrev served : Turn
  served = serve_turn slot holder flight writes h

  abbrev waits : Bool
  waits = blocked flight writes ask.node ask.cell (read_at ask holder)

  -- waiting or done, it answers its s
  answers_s : (said served.answer).number ≡ read_at ask holder
  unfolding serve_turn
  answers_s = by_test waits (λ b. rw (b, serve_turn)) (λ b. rw (b, serve_turn))

  -- A read waits for every number at or below its s. Where a serve is done at s, each unfinished entry here that writes the cell is above
  -- s: nothing at or below s is still to come.
  pub nothing_to_come :
      (s : ℕ) → served.answer ≡ Done s → (u : ℕ) → u < 32 → unfinished flight u ask.node ≡ true → has writes u ask.cell ≡ true
      → s < number_at flight u ask.node
  unfolding serve_turn blocked blocks
  nothing_to_come s e u hu p w = by_test waits (λ b. absurd (done_is_no_wait (rw (b, serve_turn) at e))) (λ b. above b)
    where
      done_is_no_wait : Wait (read_at ask holder) ≡ Done s → ⊥
      done_is_no_wait d = let z : ◌≡◌ {A = ℕ} 0 1 = cc in omega arith

      same : s ≡ read_at ask holder
      same = ap (λ (r : Answer). (said r).number) (sym e) ∙ answers_s

      above : waits ≡ false → s < number_at flight u ask.node
      above b = let l = rw (p, w, and_yes) at (any_at (blocks flight writes ask.node ask.cell (read_at ask holder)) 32 b u hu) in omega (arith, same, leb-false, ltb-false)

  -- The counter is saved before a read is handed out: waiting or done, counter and seen number are at least the s that it answers.
  pub serve_saves : ((said served.answer).number ≤ served.counters.counter) × ((said served.answer).number ≤ served.counters.seen)
  unfolding serve_turn
  serve_saves = by_test waits (λ b. rw (b, serve_turn) (omega arith)) (λ b. rw (b, serve_turn) (omega arith))

  -- The snapshot is what the ask carries where that is settled, and else no less than that nor than the holder's commit number, which alone
  -- may lie below what is carried.
  pub serve_carried :
      (ask.exact ≡ true → (said served.answer).number ≡ ask.carried)
      × (ask.exact ≡ false → (ask.carried ≤ (said served.answer).number) × (holder.commit ≤ (said served.answer).number))
  unfolding read_at
  serve_carried = (λ b. answers_s ∙ rw b, λ b. rw (answers_s, read_at, b) (omega arith))

-- ---- rule B

module _ (slot : Slot) (origin : Counters) where
  -- The origin's counter is saved too: counter and seen number are at least the s of the read, whether its value is handed or not.
  pub return_saves :
      ((note_of slot.stage).s ≤ (return_turn slot origin).counters.counter) × ((note_of slot.stage).s ≤ (return_turn slot origin).counters.seen)
  unfolding return_turn
  return_saves = by_test (spoilt slot) (λ b. rw (b, return_turn) (omega arith)) (λ b. rw (b, return_turn) (omega arith))
