-- The state of a group.
-- Assumes nothing.
use Rattle.std.specs.Prelude.{Bool, true, false, ◌&&◌, ◌||◌, List, ℕ, ◌/◌, ◌%◌, ◌^◌, ltb, leb, eqb, Option, None, Some}
use Rattle.tables.specs.Table.{at, put}
use Rattle.tables.specs.Pair.{pair, word}
use Rattle.tables.specs.Loop.{any}
use Rattle.counters.specs.Counters.{zeroed}
use Rattle.chain.specs.declared.Chains.{Chains}
use Rattle.counters.specs.declared.Counters.{Counters}
use Rattle.group.specs.declared.Ask.{Ask}
use Rattle.group.specs.declared.Note.{Note}
use Rattle.group.specs.declared.Stage.{Stage}
use Rattle.group.specs.declared.Stage.TheVariants.{Unused, Open, Asking, Served, Voting, Committed, Aborted}
use Rattle.group.specs.declared.Slot.{Slot}
use Rattle.group.specs.declared.Group.{Group}
use Rattle.group.specs.declared.Tables.{Tables}

-- the typed part and the tables: what stands between each transaction and node, the chains, and what each transaction wrote and read
pub record State : Type 0 where
  pub group : Group
  pub flight : List ℕ
  pub chains : Chains
  pub writes : List ℕ
  pub reads : List ℕ

-- a state from its two parts
abbrev pub state_of : Group → Tables → State
state_of g t = record { group = g; flight = t.flight; chains = t.chains; writes = t.writes; reads = t.reads }

-- tables of which one is another
abbrev pub with_flight : Tables → List ℕ → Tables
with_flight t flight = record { flight = flight; chains = t.chains; writes = t.writes; reads = t.reads }

abbrev pub with_chains : Tables → Chains → Tables
with_chains t chains = record { flight = t.flight; chains = chains; writes = t.writes; reads = t.reads }

abbrev pub with_writes : Tables → List ℕ → Tables
with_writes t writes = record { flight = t.flight; chains = t.chains; writes = writes; reads = t.reads }

abbrev pub with_reads : Tables → List ℕ → Tables
with_reads t reads = record { flight = t.flight; chains = t.chains; writes = t.writes; reads = reads }

-- ---- holders

-- does node n hold cell c
abbrev pub holds : List ℕ → ℕ → ℕ → Bool
holds masks n c = eqb (at masks c 0 / 2 ^ n % 2) 1

-- ---- the flight table: what stands between transaction t and node n is a tag above a number

-- nothing, prepare sent, voted no, voted yes with its number, to apply with the final number, finished
abbrev pub idle : ℕ
idle = 0

abbrev pub sent : ℕ
sent = 1

abbrev pub voted_no : ℕ
voted_no = 2

abbrev pub voted_yes : ℕ
voted_yes = 3

abbrev pub to_apply : ℕ
to_apply = 4

abbrev pub finished : ℕ
finished = 5

abbrev pub tag_at : List ℕ → ℕ → ℕ → ℕ
tag_at flight t n = at flight (pair 8 t n) 0 / word

abbrev pub number_at : List ℕ → ℕ → ℕ → ℕ
number_at flight t n = at flight (pair 8 t n) 0 % word

abbrev pub entered : List ℕ → ℕ → ℕ → ℕ → ℕ → List ℕ
entered flight t n tag number = put flight (pair 8 t n) (pair word tag number)

-- an unfinished entry: a yes vote not yet applied or dropped
unfoldable pub unfinished : List ℕ → ℕ → ℕ → Bool
unfinished flight t n = leb voted_yes (tag_at flight t n) && leb (tag_at flight t n) to_apply

-- ---- what transaction t wrote to cell c, and what it read of it: 0 for nothing, else one more than the value

abbrev pub noted : List ℕ → ℕ → ℕ → ℕ
noted table t c = at table (pair 32 t c) 0

abbrev pub has : List ℕ → ℕ → ℕ → Bool
has table t c = ltb 0 (noted table t c)

-- does it write any of the cells
unfoldable pub writer : ℕ → List ℕ → ℕ → Bool
writer cells writes t = any cells (has writes t)

-- is node n a holder of a cell that it read or wrote
abbrev pub touched : List ℕ → List ℕ → List ℕ → ℕ → ℕ → ℕ → Bool
touched masks writes reads t n c = holds masks n c && (has reads t c || has writes t c)

unfoldable pub involved : ℕ → List ℕ → List ℕ → List ℕ → ℕ → ℕ → Bool
involved cells masks writes reads t n = any cells (touched masks writes reads t n)

-- ---- slots

abbrev pub unused : ℕ
unused = 0

abbrev pub opened : ℕ
opened = 1

abbrev pub asking : ℕ
asking = 2

abbrev pub served : ℕ
served = 3

abbrev pub voting : ℕ
voting = 4

abbrev pub committed : ℕ
committed = 5

abbrev pub aborted : ℕ
aborted = 6

abbrev pub stage_number : Stage → ℕ
stage_number Unused = unused
stage_number Open = opened
stage_number (Asking a) = asking
stage_number (Served v) = served
stage_number Voting = voting
stage_number (Committed k) = committed
stage_number Aborted = aborted

-- what a stage carries; zeros where it carries no such thing
abbrev pub no_ask : Ask
no_ask = record { node = 0; cell = 0; carried = 0; exact = false }

abbrev pub no_note : Note
no_note = record { node = 0; cell = 0; s = 0; value = 0; stale = false }

abbrev pub ask_of : Stage → Ask
ask_of Unused = no_ask
ask_of Open = no_ask
ask_of (Asking a) = a
ask_of (Served v) = no_ask
ask_of Voting = no_ask
ask_of (Committed k) = no_ask
ask_of Aborted = no_ask

abbrev pub note_of : Stage → Note
note_of Unused = no_note
note_of Open = no_note
note_of (Asking a) = no_note
note_of (Served v) = v
note_of Voting = no_note
note_of (Committed k) = no_note
note_of Aborted = no_note

abbrev pub final_of : Stage → ℕ
final_of Unused = 0
final_of Open = 0
final_of (Asking a) = 0
final_of (Served v) = 0
final_of Voting = 0
final_of (Committed k) = k
final_of Aborted = 0

-- a snapshot as a number; 0 where none is fixed
abbrev pub snapshot_of : Option ℕ → ℕ
snapshot_of None = 0
snapshot_of (Some s) = s

abbrev pub is_fixed : Option ℕ → Bool
is_fixed None = false
is_fixed (Some s) = true

-- is the slot in the stage of that number
abbrev pub in_stage : Slot → ℕ → Bool
in_stage slot k = eqb (stage_number slot.stage) k

-- the slot at another stage
abbrev pub at_stage : Slot → Stage → Slot
at_stage slot st = record { stage = st; origin = slot.origin; update = slot.update; snapshot = slot.snapshot }

-- a slot that was never used
abbrev pub no_slot : Slot
no_slot = record { stage = Unused; origin = 0; update = false; snapshot = None }

abbrev pub slot_at : State → ℕ → Slot
slot_at s t = at s.group.slots t no_slot

abbrev pub counters_at : State → ℕ → Counters
counters_at s n = at s.group.counters n (zeroed 0)
