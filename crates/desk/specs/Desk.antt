-- What a step has before it: one transaction's slot, one node's counters, and the tables. No step looks at another slot or moves
-- another node's counters.
-- Assumes nothing.
use Rattle.std.specs.Prelude.{List, ℕ}
use Rattle.counters.specs.declared.Counters.{Counters}
use Rattle.chain.specs.declared.Chains.{Chains}
use Rattle.group.specs.declared.Slot.{Slot}
use Rattle.group.specs.declared.Group.{Group}
use Rattle.group.specs.declared.Tables.{Tables}
use Rattle.group.specs.declared.Answer.{Answer}
use Rattle.group.specs.declared.Turn.{Turn}

pub record Desk : Type 0 where
  pub nodes : ℕ
  pub cells : ℕ
  pub masks : List ℕ
  pub slot : Slot
  pub counters : Counters
  pub flight : List ℕ
  pub chains : Chains
  pub writes : List ℕ
  pub reads : List ℕ

-- a desk from its parts
abbrev pub desk : ℕ → ℕ → List ℕ → Slot → Counters → List ℕ → Chains → List ℕ → List ℕ → Desk
desk nodes cells masks slot counters flight chains writes reads =
    record { nodes = nodes; cells = cells; masks = masks; slot = slot; counters = counters; flight = flight; chains = chains; writes = writes; reads = reads }

-- the desk of a slot and one node's counters, over a group and its tables
abbrev pub desk_on : Group → Tables → Slot → Counters → Desk
desk_on g t slot counters = desk g.nodes g.cells g.masks slot counters t.flight t.chains t.writes t.reads

-- an answer, and the desk after it
pub record Outcome : Type 0 where
  pub answer : Answer
  pub desk : Desk

-- the desk with another slot and other counters; with other tables
abbrev pub turned : Desk → Turn → Outcome
turned q t =
    record {
      answer = t.answer;
      desk = record { nodes = q.nodes; cells = q.cells; masks = q.masks; slot = t.slot; counters = t.counters; flight = q.flight; chains = q.chains; writes = q.writes; reads = q.reads };
    }

abbrev pub with_flight : Desk → List ℕ → Desk
with_flight q f = record { nodes = q.nodes; cells = q.cells; masks = q.masks; slot = q.slot; counters = q.counters; flight = f; chains = q.chains; writes = q.writes; reads = q.reads }

abbrev pub with_chains : Desk → Chains → Desk
with_chains q h = record { nodes = q.nodes; cells = q.cells; masks = q.masks; slot = q.slot; counters = q.counters; flight = q.flight; chains = h; writes = q.writes; reads = q.reads }

abbrev pub with_writes : Desk → List ℕ → Desk
with_writes q w = record { nodes = q.nodes; cells = q.cells; masks = q.masks; slot = q.slot; counters = q.counters; flight = q.flight; chains = q.chains; writes = w; reads = q.reads }

abbrev pub with_reads : Desk → List ℕ → Desk
with_reads q r = record { nodes = q.nodes; cells = q.cells; masks = q.masks; slot = q.slot; counters = q.counters; flight = q.flight; chains = q.chains; writes = q.writes; reads = r }

abbrev pub with_counters : Desk → Counters → Desk
with_counters q c = record { nodes = q.nodes; cells = q.cells; masks = q.masks; slot = q.slot; counters = c; flight = q.flight; chains = q.chains; writes = q.writes; reads = q.reads }
