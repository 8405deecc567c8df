-- Is a state whole? The paper's paragraph, sentence by sentence. What belongs to nothing (an unused slot, the chain of a node that does not
-- hold the cell, versions past a chain's length) is not judged.
-- Assumes nothing.
use Rattle.std.specs.Prelude.{Bool, cond, not, ◌&&◌, ◌||◌, List, ℕ, ◌+◌, ◌-◌, ◌^◌, leb, ltb, eqb}
use Rattle.tables.specs.Table.{at}
use Rattle.tables.specs.Pair.{word}
use Rattle.tables.specs.Loop.{every}
use Rattle.chain.specs.declared.Chains.{Chains}
use Rattle.chain.specs.Chain.{len_at, version_at, latest, has_room}
use Rattle.group.specs.declared.Slot.{Slot}
use Rattle.group.specs.State.{State, holds, idle, sent, voted_yes, to_apply, finished, tag_at, number_at, unfinished, has, writer, involved, unused, asking, served, voting, committed, aborted, stage_number, ask_of, note_of, final_of, is_fixed, in_stage, no_slot, slot_at}

-- b, where a
abbrev pub implies : Bool → Bool → Bool
implies a b = not a || b

-- both or neither
abbrev pub same : Bool → Bool → Bool
same a b = cond a b (not b)

-- ---- "All counts, masks, stages and numbers lie in the ranges above."

abbrev pub counts_sound : ℕ → ℕ → Bool
counts_sound nodes cells = leb 1 nodes && leb nodes 8 && leb 1 cells && leb cells 32

-- of one cell
abbrev pub mask_sound : ℕ → List ℕ → ℕ → Bool
mask_sound nodes masks c = ltb 0 (at masks c 0) && ltb (at masks c 0) (2 ^ nodes)

unfoldable pub masks_sound : ℕ → ℕ → List ℕ → Bool
masks_sound nodes cells masks = every cells (mask_sound nodes masks)

-- an entry of the flight table; where its meaning has no number it carries 0, and a node outside the run has none
unfoldable pub entry_sound : ℕ → List ℕ → ℕ → ℕ → Bool
entry_sound nodes flight t n =
    leb (tag_at flight t n) finished && (unfinished flight t n || eqb (number_at flight t n) 0) && implies (leb nodes n) (eqb (tag_at flight t n) idle)

-- of one transaction
abbrev pub row_sound : ℕ → List ℕ → ℕ → Bool
row_sound nodes flight t = every 8 (entry_sound nodes flight t)

unfoldable pub flight_sound : ℕ → List ℕ → Bool
flight_sound nodes flight = every 32 (row_sound nodes flight)

-- what was written or read is nothing or a value
abbrev pub note_sound : List ℕ → ℕ → Bool
note_sound table i = leb (at table i 0) word

unfoldable pub notes_sound : List ℕ → Bool
notes_sound table = every 1024 (note_sound table)

-- ---- "Origins and asked nodes are in the run, and an asked node holds its cell."

abbrev pub asked_sound : ℕ → ℕ → List ℕ → ℕ → ℕ → Bool
asked_sound nodes cells masks n c = ltb n nodes && ltb c cells && holds masks n c

unfoldable pub places_sound : ℕ → ℕ → List ℕ → Slot → Bool
places_sound nodes cells masks slot =
    ltb slot.origin nodes
    && implies (in_stage slot asking) (asked_sound nodes cells masks (ask_of slot.stage).node (ask_of slot.stage).cell)
    && implies (in_stage slot served) (asked_sound nodes cells masks (note_of slot.stage).node (note_of slot.stage).cell)

-- ---- "Only update transactions have writes. Served reads have an s, read cells a fixed snapshot." No cell outside the run is written or read.

-- of one cell
abbrev pub set_sound : ℕ → Bool → Bool → List ℕ → List ℕ → ℕ → ℕ → Bool
set_sound cells update fixed writes reads t c =
    implies (has writes t c) (update && ltb c cells) && implies (has reads t c) (fixed && ltb c cells)

unfoldable pub sets_sound : ℕ → Slot → List ℕ → List ℕ → ℕ → Bool
sets_sound cells slot writes reads t = every 32 (set_sound cells slot.update (is_fixed slot.snapshot) writes reads t)

unfoldable pub slot_sound : ℕ → ℕ → List ℕ → Slot → List ℕ → List ℕ → ℕ → Bool
slot_sound nodes cells masks slot writes reads t =
    in_stage slot unused || (places_sound nodes cells masks slot && sets_sound cells slot writes reads t)

-- ---- "A voting or committed writer has flight entries other than nothing at exactly the holders of its read and written cells; an aborted
-- transaction has these or none; all others have none."

-- at one node
abbrev pub spread_at : ℕ → List ℕ → List ℕ → List ℕ → List ℕ → ℕ → ℕ → Bool
spread_at cells masks flight writes reads t n = same (leb sent (tag_at flight t n)) (involved cells masks writes reads t n)

unfoldable pub spread : ℕ → ℕ → List ℕ → List ℕ → List ℕ → List ℕ → ℕ → Bool
spread nodes cells masks flight writes reads t = every nodes (spread_at cells masks flight writes reads t)

-- at one node
abbrev pub empty_at : List ℕ → ℕ → ℕ → Bool
empty_at flight t n = eqb (tag_at flight t n) idle

unfoldable pub empty : ℕ → List ℕ → ℕ → Bool
empty nodes flight t = every nodes (empty_at flight t)

abbrev pub spread_sound : ℕ → Bool → Bool → Bool → Bool
spread_sound stage writes spreads none =
    cond (eqb stage voting || (eqb stage committed && writes)) spreads (cond (eqb stage aborted) (spreads || none) none)

-- ---- "A voting transaction has a write and nothing learned."

-- nothing learned at one node
abbrev pub unlearned_at : List ℕ → ℕ → ℕ → Bool
unlearned_at flight t n = ltb (tag_at flight t n) to_apply

unfoldable pub voting_sound : ℕ → ℕ → Slot → List ℕ → List ℕ → ℕ → Bool
voting_sound nodes cells slot flight writes t =
    implies (in_stage slot voting) (writer cells writes t && every nodes (unlearned_at flight t))

-- ---- "A committed writer has no prepare sent, no no-vote and no unfinished number above its final one; only it has entries to apply, with
-- that number."

-- a committed writer's entry at one node, with the final number
abbrev pub final_at : ℕ → List ℕ → ℕ → ℕ → Bool
final_at final flight t n =
    implies (leb sent (tag_at flight t n)) (leb voted_yes (tag_at flight t n))
    && implies (unfinished flight t n) (leb (number_at flight t n) final)
    && implies (eqb (tag_at flight t n) to_apply) (eqb (number_at flight t n) final)

-- any other's
abbrev pub unapplying_at : List ℕ → ℕ → ℕ → Bool
unapplying_at flight t n = not (eqb (tag_at flight t n) to_apply)

unfoldable pub committed_sound : ℕ → ℕ → Slot → List ℕ → List ℕ → ℕ → Bool
committed_sound nodes cells slot flight writes t =
    cond (in_stage slot committed && writer cells writes t) (every nodes (final_at (final_of slot.stage) flight t)) (every nodes (unapplying_at flight t))

-- all that is said of one transaction, with its slot
abbrev pub slot_whole : ℕ → ℕ → List ℕ → Slot → List ℕ → List ℕ → List ℕ → ℕ → Bool
slot_whole nodes cells masks slot flight writes reads t =
    slot_sound nodes cells masks slot writes reads t
    && spread_sound (stage_number slot.stage) (writer cells writes t) (spread nodes cells masks flight writes reads t) (empty nodes flight t)
    && voting_sound nodes cells slot flight writes t
    && committed_sound nodes cells slot flight writes t

-- of every transaction, with all slots
abbrev pub slots_whole : ℕ → ℕ → List ℕ → List Slot → List ℕ → List ℕ → List ℕ → Bool
slots_whole nodes cells masks slots flight writes reads = every 32 (λ t. slot_whole nodes cells masks (at slots t no_slot) flight writes reads t)

unfoldable pub transaction_sound : State → ℕ → Bool
transaction_sound s t =
    let g = s.group in
    slot_whole g.nodes g.cells g.masks (slot_at s t) s.flight s.writes s.reads t

-- ---- "Chains ascend from number 0."

-- from version i to the next
abbrev pub ascends_at : List ℕ → ℕ → ℕ → ℕ → Bool
ascends_at versions c n i = ltb (version_at versions c n i).number (version_at versions c n (i + 1)).number

unfoldable pub chain_sound : Chains → ℕ → ℕ → Bool
chain_sound h c n =
    leb 1 (len_at h.lens c n)
    && leb (len_at h.lens c n) 8
    && eqb (version_at h.versions c n 0).number 0
    && every (len_at h.lens c n - 1) (ascends_at h.versions c n)

-- at one node, if it holds the cell
abbrev pub chain_at : List ℕ → Chains → ℕ → ℕ → Bool
chain_at masks h c n = implies (holds masks n c) (chain_sound h c n)

-- of one cell
abbrev pub cell_sound : ℕ → List ℕ → Chains → ℕ → Bool
cell_sound nodes masks h c = every nodes (chain_at masks h c)

unfoldable pub chains_sound : ℕ → ℕ → List ℕ → Chains → Bool
chains_sound nodes cells masks h = every cells (cell_sound nodes masks h)

-- ---- "At one node no two unfinished entries share a number, and each is above the newest version of every cell it will write there, whose
-- chain has room."

-- the numbers of t and u at a node
abbrev pub differ_at : List ℕ → ℕ → ℕ → ℕ → Bool
differ_at flight n t u = implies (unfinished flight u n) (not (eqb (number_at flight u n) (number_at flight t n)))

-- one cell that t will write there with its number
abbrev pub fits_at : List ℕ → Chains → List ℕ → ℕ → ℕ → ℕ → ℕ → Bool
fits_at masks h writes n t number c =
    implies (holds masks n c && has writes t c) (ltb (latest h.lens h.versions c n) number && has_room h.lens c n)

unfoldable pub pending_sound : ℕ → List ℕ → List ℕ → Chains → List ℕ → ℕ → ℕ → Bool
pending_sound cells masks flight h writes n t =
    implies (unfinished flight t n) (every t (differ_at flight n t) && every cells (fits_at masks h writes n t (number_at flight t n)))

-- all entries at one node
abbrev pub node_sound : ℕ → List ℕ → List ℕ → Chains → List ℕ → ℕ → Bool
node_sound cells masks flight h writes n = every 32 (pending_sound cells masks flight h writes n)

unfoldable pub whole : State → Bool
whole s =
    let g = s.group in
    counts_sound g.nodes g.cells
    && masks_sound g.nodes g.cells g.masks
    && flight_sound g.nodes s.flight
    && notes_sound s.writes
    && notes_sound s.reads
    && every 32 (transaction_sound s)
    && chains_sound g.nodes g.cells g.masks s.chains
    && every g.nodes (node_sound g.cells g.masks s.flight s.chains s.writes)
