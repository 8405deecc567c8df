-- What a step answers, and what it makes of the one slot and the one node's counters that it moves.
-- Assumes nothing.
use Rattle.std.specs.Prelude.{Bool, cond, ℕ, Option, None, Some, Result, Ok, Err}
use Rattle.counters.specs.Counters.{counted_to}
use Rattle.counters.specs.declared.Counters.{Counters}
use Rattle.group.specs.declared.Slot.{Slot}
use Rattle.group.specs.declared.Refusal.{Refusal}
use Rattle.group.specs.declared.Refusal.TheVariants.{NotWhole, NoKind, NoNode, NoPlace, WrongStage, WrongValue, ReadOnly, NotAskable, Unsettled, VoteLacks}
use Rattle.group.specs.declared.Answer.{Answer}
use Rattle.group.specs.declared.Answer.TheVariants.{Done, Value, Wait, Yes, No, Committed, Aborted, Cut, Refused}
use Rattle.group.specs.declared.Turn.{Turn}

-- the paper's code of each refusal
abbrev pub code : Refusal → ℕ
code NotWhole = 15
code NoKind = 16
code NoNode = 17
code NoPlace = 18
code WrongStage = 19
code WrongValue = 20
code ReadOnly = 21
code NotAskable = 22
code Unsettled = 23
code VoteLacks = 24

-- the paper's code, number and value
pub record Said : Type 0 where
  pub code : ℕ
  pub number : ℕ
  pub value : ℕ

abbrev pub says : ℕ → ℕ → ℕ → Said
says c n v = record { code = c; number = n; value = v }

abbrev pub said : Answer → Said
said (Done k) = says 0 k 0
said (Value s v) = says 1 s v
said (Wait s) = says 2 s 0
said (Yes k) = says 3 k 0
said (No reason) = says 4 reason 0
said (Committed k) = says 5 k 0
said Aborted = says 6 0 0
said Cut = says 7 0 0
said (Refused c) = says c 0 0

abbrev pub turn : Answer → Slot → Counters → Turn
turn a x c = record { answer = a; slot = x; counters = c }

-- a refusal moves nothing
abbrev pub refused_turn : ℕ → Slot → Counters → Turn
refused_turn c x k = turn (Refused c) x k

-- the step cut by power loss: the counter is written as the whole step would write it, to k at least, and nothing else changes
abbrev pub cut_turn : Slot → Counters → ℕ → Turn
cut_turn x c k = turn Cut x (counted_to c k)

-- what a step comes to: refused as given, cut, or whole
abbrev pub stepped : Option Refusal → Bool → Slot → Counters → ℕ → Turn → Result Turn Refusal
stepped None cut x c k t = Ok (cond cut (cut_turn x c k) t)
stepped (Some r) cut x c k t = Err r

-- the same as a turn, where a refusal is an answer: its code
abbrev pub told : Result Turn Refusal → Slot → Counters → Turn
told (Ok t) x k = t
told (Err r) x k = refused_turn (code r) x k

-- a table after it: changed by a whole step that is not refused
abbrev pub changed : {A : Type 0} → Option Refusal → Bool → A → A → A
changed None cut old new = cond cut old new
changed (Some r) cut old new = old
