-- Where a step's desk is taken from the state, and put back.
-- Assumes nothing.
use Rattle.std.specs.Prelude.{ℕ}
use Rattle.tables.specs.Table.{put}
use Rattle.kinds.specs.declared.Step.{Step}
use Rattle.kinds.specs.declared.Kind.{Kind}
use Rattle.kinds.specs.declared.Kind.TheVariants.{Begin as begin, Write as write, Ask as ask, Serve as serve, Return as return, Commit as commit, Prepare as prepare, Decide as decide, GiveUp as give_up, Learn as learn, Apply as apply, Advance as advance, Abandon as abandon}
use Rattle.kinds.specs.Kinds.{named}
use Rattle.group.specs.declared.Slot.{Slot}
use Rattle.group.specs.State.{State, ask_of, slot_at, counters_at}
use Rattle.desk.specs.Desk.{Desk}

-- the node whose counters a step reads and may move: the origin's for ask and return, the holder's for serve, else that of its node field
abbrev pub node_of : Kind → Slot → ℕ → ℕ
node_of begin slot n = n
node_of write slot n = n
node_of ask slot n = slot.origin
node_of serve slot n = (ask_of slot.stage).node
node_of return slot n = slot.origin
node_of commit slot n = n
node_of prepare slot n = n
node_of decide slot n = n
node_of give_up slot n = n
node_of learn slot n = n
node_of apply slot n = n
node_of advance slot n = n
node_of abandon slot n = n

abbrev pub place_of : State → Step → ℕ
place_of s x = node_of (named x.kind) (slot_at s x.slot) x.node

unfoldable pub desk_of : State → Step → Desk
desk_of s x =
    record {
      nodes = s.group.nodes;
      cells = s.group.cells;
      masks = s.group.masks;
      slot = slot_at s x.slot;
      counters = counters_at s (place_of s x);
      flight = s.flight;
      chains = s.chains;
      writes = s.writes;
      reads = s.reads;
    }

-- the state with what lies on the desk put back
unfoldable pub put_back : State → Step → Desk → State
put_back s x q =
    record {
      group = record {
        nodes = s.group.nodes;
        cells = s.group.cells;
        counters = put s.group.counters (place_of s x) q.counters;
        masks = s.group.masks;
        slots = put s.group.slots x.slot q.slot;
      };
      flight = q.flight;
      chains = q.chains;
      writes = q.writes;
      reads = q.reads;
    }
