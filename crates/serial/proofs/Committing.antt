-- Commit keeps what holds: with no writes it is done, else a prepare is sent to every holder of a read or written cell.
-- Assumes nothing.
use mathlib.Core.Path.{◌≡◌, refl, sym, ap, subst, ◌∙◌}
use mathlib.Core.Bool.{Bool, true, false, cond}
use mathlib.Core.List.{List}
use Prim.Native.Nat.{ℕ, ◌+◌, ◌/◌, ◌≤◌, ◌<◌}
use native.Mathlib.Omega.{arith}
use lib.Dec.{ltb}
use borrow.Author.Tests.{ltb-true, ltb-false, eqb-true}
use Rattle.tables.specs.Pair.{word}
use Rattle.tables.proofs.Choice.{by_test, not_both}
use Rattle.tables.proofs.Pair.{pair_high}
use Rattle.tables.proofs.Loop.{any_at, any_where, Where, found}
use Rattle.tables.proofs.Tests.{Passed}
use Rattle.kinds.specs.declared.Step.{Step}
use Rattle.kinds.specs.declared.Kind.TheVariants.{Commit as commit}
use Rattle.group.specs.declared.Slot.{Slot}
use Rattle.group.specs.declared.Stage.{Stage}
use Rattle.group.specs.declared.Stage.TheVariants.{Voting, Committed}
use Rattle.group.specs.State.{State, holds, has, writer, involved, stage_number, final_of, at_stage, slot_at, counters_at}
use Rattle.decide.specs.Decide.{commit_turn, sent_to, commit_flight}
use Rattle.desk.specs.Desk.{turned, with_flight}
use Rattle.score.specs.Place.{place_of, desk_of, put_back}
use Rattle.desk.specs.Acts.{needs, does}
use Rattle.serial.specs.Serial.{Handed}
use Rattle.serial.proofs.Inv.{Ground, Nodes, Slots, Transaction, Writes, writes}
use Rattle.serial.proofs.Views.{All, fixed_at, ground_of, nodes_of, same_counters, set_slot, set_tables, slots_of}
use Rattle.serial.proofs.Rows.{Rows, involves, sent_away, sent_here, sent_not, sent_rows}
use Rattle.serial.proofs.Change.{moved, no_read, no_writer, nothing_new, quietly, slot_here}
use Rattle.serial.proofs.Stages.{final_here, free, restaged, snap_here, stage_here, undecided}

module _ (first : ℕ → ℕ) (s : State) (H : List Handed) (a : All first s H) (x : Step) (ht : x.slot < 32) where
  abbrev t : ℕ
  t = x.slot

  abbrev G : Ground
  G = ground_of s first

  abbrev C : Nodes
  C = nodes_of s

  abbrev S : Slots
  S = slots_of s

  commits_plain : S.stg t ≡ 1 → writer s.group.cells s.writes t ≡ false → All first (set_slot s t (at_stage (slot_at s t) (Committed 0))) H
  unfolding writer
  commits_plain e b = restaged first s H a x ht st (undecided first s H a x ht 1 e (λ z. omega arith)) refl
      (no_writer G C S' t (final_here first s H a x ht st) (λ c hc l w. d.in_run c hc (omega (arith, e)) w) d.values (λ n hn. omega (arith, idle n hn)) (λ n hn o. idle n hn) (λ n hn z. omega (arith, idle n hn))
      (λ n hn z. idle n hn) (λ n hn z. idle n hn) (λ n hn z. omega (arith, idle n hn)) (λ c hc z. none_written c hc) (λ z. absurd (omega (arith, stage))) (λ n c hn hc z. absurd (omega (arith, stage))))
      (no_read G C S' t _ _ (λ z. omega (arith, stage)) (λ z. omega (arith, stage)) (λ z. absurd (omega (arith, stage))) (omega (arith, snap_here first s H a x ht st, (a.inv.reading t ht).bounded)))
    where
      st : Stage
      st = Committed 0

      S' : Slots
      S' = slots_of (set_slot s t (at_stage (slot_at s t) st))

      d : Transaction G C S t
      d = a.inv.deciding t ht

      idle : (n : ℕ) → n < 8 → S.tag t n ≡ 0
      idle n hn = d.early n hn (omega (arith, e))

      stage : S'.stg t ≡ 5
      stage = stage_here first s H a x ht st

      none_written : (c : ℕ) → c < 32 → S.wr t c ≡ 0
      none_written c hc = by_test (has s.writes t c)
          (λ z. absurd (not_both z (any_at (has s.writes t) s.group.cells b c (d.in_run c hc (omega (arith, e)) (ltb-true _ _ z)))))
          (λ z. omega (arith, ltb-false))

  commits_voting : S.stg t ≡ 1 → writer s.group.cells s.writes t ≡ true
      → All first (moved s t (at_stage (slot_at s t) Voting) (sent_to s.group.nodes s.group.cells s.group.masks s.flight s.writes s.reads t) s.writes s.reads) H
  unfolding writer
  commits_voting e b = quietly s t y f s.writes s.reads first H H ht rows
      (free S S' t (undecided first s H a x ht 1 e (λ z. omega arith)) (ap (λ (z : Slot). final_of z.stage) now) low (λ l. ap (λ (z : Slot). fixed_at z.snapshot) now) (λ c hc l r. r))
      (no_writer G C S' t (ap (λ (z : Slot). final_of z.stage) now) (λ c hc l w. d.in_run c hc (omega (arith, e)) w) d.values (λ n hn. omega (arith, low n hn)) outside (λ n hn z. omega (arith, low n hn))
      (λ n hn z. absurd (omega (arith, stage))) (λ n hn z. absurd (omega (arith, stage))) (λ n hn z. omega (arith, low n hn)) (λ c hc z. absurd (omega (arith, stage))) (λ z. votes (any_where s.group.cells (has s.writes t) b)) (λ n c hn hc z. goes n c hn hc))
      (no_read G C S' t _ _ (λ z. omega (arith, stage)) (λ z. omega (arith, stage)) (λ z. absurd (omega (arith, stage))) (omega (arith, ap (λ (z : Slot). fixed_at z.snapshot) now, (a.inv.reading t ht).bounded)))
      (nothing_new G C S' H) a
    where
      y : Slot
      y = at_stage (slot_at s t) Voting

      f : List ℕ
      f = sent_to s.group.nodes s.group.cells s.group.masks s.flight s.writes s.reads t

      S' : Slots
      S' = slots_of (moved s t y f s.writes s.reads)

      d : Transaction G C S t
      d = a.inv.deciding t ht

      now : slot_at (moved s t y f s.writes s.reads) t ≡ y
      now = slot_here s t y f s.writes s.reads a.sizes ht

      stage : S'.stg t ≡ 4
      stage = ap (λ (z : Slot). stage_number z.stage) now

      idle : (n : ℕ) → n < 8 → S.tag t n ≡ 0
      idle n hn = d.early n hn (omega (arith, e))

      outside : (n : ℕ) → n < 8 → s.group.nodes ≤ n → S'.tag t n ≡ 0
      outside n hn o = ap (◌/ word) (sent_away s.group.nodes s.group.cells s.group.masks s.flight s.writes s.reads t t n a.sizes.nodes_high hn (λ z. o)) ∙ idle n hn

      goes_to : (n : ℕ) → n < s.group.nodes → involved s.group.cells s.group.masks s.writes s.reads t n ≡ true → S'.tag t n ≡ 1
      goes_to n hn i = ap (◌/ word) (sent_here s.group.nodes s.group.cells s.group.masks s.flight s.writes s.reads t n a.sizes.flight256 ht a.sizes.nodes_high hn i) ∙ pair_high word 1 0 (omega arith)

      low : (n : ℕ) → n < 8 → S'.tag t n ≤ 2
      low n hn = by_test (ltb n s.group.nodes)
          (λ z. by_test (involved s.group.cells s.group.masks s.writes s.reads t n) (λ i. omega (arith, goes_to n (ltb-true _ _ z) i))
          (λ i. omega (arith, ap (◌/ word) (sent_not s.group.nodes s.group.cells s.group.masks s.flight s.writes s.reads t n a.sizes.flight256 ht a.sizes.nodes_high (ltb-true _ _ z) i), idle n hn)))
          (λ z. omega (arith, outside n hn (ltb-false _ _ z)))

      votes : Where s.group.cells (has s.writes t) true → Writes G S' t
      votes (found c hc w) = writes c (omega (arith, a.sizes.cells_high)) hc (ltb-true _ _ w)

      goes : (n c : ℕ) → n < 8 → c < 32 → holds s.group.masks n c ≡ true → 0 < S'.rd t c + S'.wr t c → 1 ≤ S'.tag t n
      goes n c hn hc o w = let r = a.sizes.in_run_lem n c hn hc o in omega (arith, goes_to n r.0 (involves s.group.cells s.group.masks s.writes s.reads t n c r.1 o w))

      rows : Rows s t f s.writes s.reads
      rows = sent_rows s t a.sizes

  commits : S.stg t ≡ 1 → (b : Bool) → writer s.group.cells s.writes t ≡ b
      → All first (put_back s x (turned (with_flight (desk_of s x) (cond b (sent_to s.group.nodes s.group.cells s.group.masks s.flight s.writes s.reads t) s.flight)) (commit_turn (slot_at s t) (counters_at s (place_of s x)) b)).desk) H
  unfolding desk_of put_back commit_turn
  commits e true b = subst (λ (z : State). All first (set_tables (set_slot z t (at_stage (slot_at s t) Voting)) (sent_to s.group.nodes s.group.cells s.group.masks s.flight s.writes s.reads t) s.chains s.writes s.reads) H) (sym (same_counters s (place_of s x))) (commits_voting e b)
  commits e false b = subst (λ (z : State). All first (set_tables (set_slot z t (at_stage (slot_at s t) (Committed 0))) s.flight s.chains s.writes s.reads) H) (sym (same_counters s (place_of s x))) (commits_plain e b)

  pub commit_keeps : Passed (needs (desk_of s x) x commit) → All first (put_back s x (does (desk_of s x) x commit).desk) H
  unfolding needs does desk_of commit_flight
  commit_keeps o = commits (eqb-true _ _ o.0) (writer s.group.cells s.writes t) refl
