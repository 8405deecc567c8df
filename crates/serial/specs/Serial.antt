-- The serial statement. A run of a sound group from fresh, by any steps, refused and cut ones among them, is explained by running its
-- committed writers singly, in ascending number, on one copy.
-- Assumes nothing.
use Rattle.std.specs.Prelude.{◌≡◌, ◌≢◌, Bool, true, false, cond, ◌&&◌, ℕ, ◌-◌, ◌^◌, ◌≤◌, ◌<◌, leb, ltb, eqb, length}
use mathlib.Core.List.{List, [], ◌∷◌, ◌++◌, Memᴰ}
use Rattle.tables.specs.Table.{at}
use Rattle.tables.specs.Pair.{word}
use Rattle.tables.specs.Loop.{any, turns}
use Rattle.chain.specs.Chain.{size, version_at}
use Rattle.kinds.specs.declared.Step.{Step}
use Rattle.group.specs.declared.Answer.{Answer}
use Rattle.group.specs.State.{State, holds, unfinished, noted, has, writer, committed, in_stage, note_of, final_of, slot_at}
use Rattle.group.specs.Answer.{said}
use Rattle.fresh.specs.Fresh.{fresh}
use Rattle.score.specs.Steps.{step_of}

-- a sound group: 1 to 8 nodes with their counters, 1 to 32 cells with masks of the run's nodes, all numbers and values of 32 bits
pub record Sound (nodes cells : ℕ) (counters masks values : List ℕ) : Type 0 where
  pub nodes_in : (1 ≤ nodes) × (nodes ≤ 8)
  pub cells_in : (1 ≤ cells) × (cells ≤ 32)
  pub lengths : (length counters ≡ 8) × (length masks ≡ 32) × (length values ≡ 32)
  pub counters_fit : (n : ℕ) → at counters n 0 < word
  pub values_fit : (c : ℕ) → at values c 0 < word
  pub masks_in : (c : ℕ) → c < cells → (0 < at masks c 0) × (at masks c 0 < 2 ^ nodes)
  pub masks_out : (c : ℕ) → cells ≤ c → at masks c 0 ≡ 0

-- any steps: their fields are any numbers, their values of 32 bits
abbrev pub Steps32 : List Step → Type 0
Steps32 xs = (x : Step) → Memᴰ x xs → x.value < word

-- ---- a run, and the values it hands out

-- a value handed out of the store: to which transaction, by which node, of which cell, at which snapshot
pub record Handed : Type 0 where
  pub slot : ℕ
  pub node : ℕ
  pub cell : ℕ
  pub s : ℕ
  pub value : ℕ

pub record Run : Type 0 where
  pub state : State
  pub handed : List Handed

-- only a whole return that answers code 1 hands out of the store: the snapshot and the value that it answers, of the cell that was noted
abbrev pub handed_by : State → Step → Answer → List Handed
handed_by s x a =
    let note = note_of (slot_at s x.slot).stage in
    let h : Handed = record { slot = x.slot; node = note.node; cell = note.cell; s = (said a).number; value = (said a).value } in
    cond (eqb (said a).code 1 && eqb x.kind 5) (h ∷ []) []

unfoldable pub next : Run → Step → Run
next r x = let o = step_of r.state x in record { state = o.state; handed = handed_by r.state x o.answer ++ r.handed }

unfoldable pub run_of : Run → List Step → Run
run_of r [] = r
run_of r (x ∷ xs) = run_of (next r x) xs

abbrev pub start : ℕ → ℕ → List ℕ → List ℕ → List ℕ → Run
start nodes cells counters masks values = record { state = fresh nodes cells counters masks values; handed = [] }

-- ---- the committed writers, and the one copy

unfoldable pub is_writer : State → ℕ → Bool
is_writer s t = in_stage (slot_at s t) committed && writer s.group.cells s.writes t

abbrev pub number_of : State → ℕ → ℕ
number_of s t = final_of (slot_at s t).stage

-- t put into a list that ascends by number
unfoldable pub insert : (ℕ → ℕ) → ℕ → List ℕ → List ℕ
insert f t [] = t ∷ []
insert f t (u ∷ us) = cond (leb (f t) (f u)) (t ∷ u ∷ us) (u ∷ insert f t us)

-- the committed writers whose number passes p, in ascending number
unfoldable pub writers : State → (ℕ → Bool) → List ℕ
writers s p = turns 32 (λ t us. cond (is_writer s t && p (number_of s t)) (insert (number_of s) t us) us) []

-- one transaction run on the copy: each cell that it wrote takes its value
abbrev pub ran_on : State → ℕ → (ℕ → ℕ) → ℕ → ℕ
ran_on s t copy c = cond (has s.writes t c) (noted s.writes t c - 1) (copy c)

-- transactions run singly, one after the other
unfoldable pub copy_after : State → (ℕ → ℕ) → List ℕ → ℕ → ℕ
copy_after s copy [] = copy
copy_after s copy (t ∷ ts) = copy_after s (ran_on s t copy) ts

-- the copy after the committed writers whose number passes p
abbrev pub copy_of : (ℕ → ℕ) → State → (ℕ → Bool) → ℕ → ℕ
copy_of first s p = copy_after s first (writers s p)

-- ---- the claim

pub record Serial (first : ℕ → ℕ) (r : Run) : Type 0 where
  -- the committed writers have distinct numbers
  pub distinct :
      (t u : ℕ) → t < 32 → u < 32 → t ≢ u → is_writer r.state t ≡ true → is_writer r.state u ≡ true
      → number_of r.state t ≢ number_of r.state u
  -- every value ever handed out is the copy's after all numbers up to the reader's snapshot
  pub explained : (h : Handed) → Memᴰ h r.handed → h.value ≡ copy_of first r.state (λ k. leb k h.s) h.cell
  -- for a committed writer it is also the value just before its own turn
  pub own_turn :
      (h : Handed) → Memᴰ h r.handed → is_writer r.state h.slot ≡ true
      → h.value ≡ copy_of first r.state (λ k. ltb k (number_of r.state h.slot)) h.cell
  -- a holder with no unfinished write of a cell holds the copy's end value as its newest
  pub newest :
      (n c : ℕ) → n < 8 → c < 32 → holds r.state.group.masks n c ≡ true
      → any 32 (λ t. unfinished r.state.flight t n && has r.state.writes t c) ≡ false
      → (version_at r.state.chains.versions c n (size r.state.chains.lens c n - 1)).value ≡ copy_of first r.state (λ k. true) c
