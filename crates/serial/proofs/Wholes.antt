-- A state of which all is known, and that has its shape, is whole: sentence by sentence of the definition.
-- Assumes nothing.
use mathlib.Core.Path.{◌≡◌, refl, ap, ◌∙◌}
use mathlib.Core.Logic.{◌≢◌}
use mathlib.Core.Bool.{Bool, true, false, not, ◌&&◌, ◌||◌}
use mathlib.Core.List.{List}
use Prim.Native.Nat.{ℕ, ◌+◌, ◌-◌, ◌/◌, ◌%◌, ◌≤◌, ◌<◌}
use native.Mathlib.Omega.{arith}
use lib.Dec.{leb, ltb, eqb}
use borrow.Author.Tests.{ltb-true, ltb-false, leb-true, leb-false, eqb-true, eqb-false, lt-ltb, le-leb, eq-eqb, ne_eqb}
use Rattle.std.specs.Prelude.{None, Option, Some}
use Rattle.tables.specs.Pair.{word}
use Rattle.tables.proofs.Choice.{by_test, and_true, or_true, not_both}
use Rattle.tables.proofs.Pair.{pair_back}
use Rattle.tables.proofs.Loop.{any_has, any_where, Where, found, every_all}
use Rattle.chain.specs.Chain.{latest, has_room}
use Rattle.chain.proofs.Laws.{size_in, latest_some}
use Rattle.group.specs.declared.Slot.{Slot}
use Rattle.group.specs.declared.Stage.{Stage}
use Rattle.group.specs.declared.Stage.TheVariants.{Unused, Open, Asking, Served, Voting, Committed, Aborted}
use Rattle.group.specs.State.{State, holds, tag_at, unfinished, noted, has, writer, involved, unused, committed, stage_number, is_fixed, in_stage, slot_at}
use Rattle.whole.specs.Whole.{implies, same, counts_sound, mask_sound, masks_sound, entry_sound, row_sound, flight_sound, note_sound, notes_sound, asked_sound, places_sound, set_sound, sets_sound, slot_sound, spread_at, spread, empty_at, empty, spread_sound, unlearned_at, voting_sound, final_at, unapplying_at, committed_sound, transaction_sound, ascends_at, chain_sound, chain_at, cell_sound, chains_sound, differ_at, fits_at, pending_sound, node_sound, whole}
use Rattle.serial.specs.Serial.{Handed}
use Rattle.serial.proofs.Inv.{Slots, Links, Ground, Writes, writes, Transaction}
use Rattle.serial.proofs.Views.{fixed_at, ground_of, nodes_of, slots_of, links_of, All}
use Rattle.serial.proofs.Shape.{Touches, touches, Spread, nowhere, everywhere, ShapedAt, Shape}
use Rattle.serial.proofs.Rows.{involves}
use Rattle.serial.proofs.ShapeTurns.{involved_touches}

-- ---- tests

both : (a b : Bool) → a ≡ true → b ≡ true → (a && b) ≡ true
both a b d e = rw (d, e)

implied : (a b : Bool) → (a ≡ true → b ≡ true) → implies a b ≡ true
implied true b f = f refl
implied false b f = refl

agree : (a b : Bool) → (a ≡ true → b ≡ true) → (b ≡ true → a ≡ true) → same a b ≡ true
agree true b f g = f refl
agree false true f g = absurd (not_both (g refl) refl)
agree false false f g = refl

-- ---- parts of a slot

is_fixed_lem : (p : Option ℕ) → 0 < fixed_at p → is_fixed p ≡ true
is_fixed_lem None l = absurd (omega arith)
is_fixed_lem (Some s) l = refl

stage_low : (st : Stage) → stage_number st ≤ 6
stage_low Unused = omega arith
stage_low Open = omega arith
stage_low (Asking q) = omega arith
stage_low (Served v) = omega arith
stage_low Voting = omega arith
stage_low (Committed f) = omega arith
stage_low Aborted = omega arith

-- an unfinished entry's tag
pending_tag : (f : List ℕ) (t n : ℕ) → unfinished f t n ≡ true → (3 ≤ tag_at f t n) × (tag_at f t n ≤ 4)
unfolding unfinished
pending_tag f t n e = let r = and_true (leb 3 (tag_at f t n)) (leb (tag_at f t n) 4) e in (leb-true _ _ r.0, leb-true _ _ r.1)

ended_tag : (f : List ℕ) (t n : ℕ) → unfinished f t n ≡ false → 3 ≤ tag_at f t n → 4 < tag_at f t n
unfolding unfinished
ended_tag f t n e l = by_test (leb (tag_at f t n) 4) (λ d. absurd (not_both (rw (le-leb 3 (tag_at f t n) l, d)) e)) (λ d. leb-false _ _ d)

module _ (first : ℕ → ℕ) (s : State) (H : List Handed) (a : All first s H) (b : Shape s) where
  abbrev S : Slots
  S = slots_of s

  abbrev K : Links
  K = links_of s

  abbrev G : Ground
  G = ground_of s first

  abbrev nodes : ℕ
  nodes = s.group.nodes

  abbrev cells : ℕ
  cells = s.group.cells

  abbrev masks : List ℕ
  masks = s.group.masks

  node_low : (n : ℕ) → n < nodes → n < 8
  node_low n h = omega (arith, a.sizes.nodes_high)

  cell_low : (c : ℕ) → c < cells → c < 32
  cell_low c h = omega (arith, a.sizes.cells_high)

  -- ---- ranges

  counts : counts_sound nodes cells ≡ true
  counts = rw (le-leb 1 nodes b.nodes_low, le-leb nodes 8 a.sizes.nodes_high, le-leb 1 cells b.cells_low, le-leb cells 32 a.sizes.cells_high)

  masks_are : masks_sound nodes cells masks ≡ true
  unfolding masks_sound
  masks_are = every_all (mask_sound nodes masks) cells (λ c h. let r = b.masks c h in both _ _ (lt-ltb _ _ r.0) (lt-ltb _ _ r.1))

  entry_is : (t n : ℕ) → t < 32 → n < 8 → entry_sound nodes s.flight t n ≡ true
  unfolding entry_sound
  entry_is t n ht hn = both _ _ (both _ _ (le-leb (S.tag t n) 5 (d.low n hn)) number) (implied _ _ (λ e. eq-eqb _ _ (d.outside n hn (leb-true _ _ e))))
    where
      d : Transaction G (nodes_of s) S t
      d = a.inv.deciding t ht

      number : (unfinished s.flight t n || eqb (S.num t n) 0) ≡ true
      number = by_test (unfinished s.flight t n) (λ e. rw e) (λ e. rw e (eq-eqb (S.num t n) 0 (by_test (leb 3 (S.tag t n))
          (λ l. (b.slots t ht).late n hn (omega (arith, d.low n hn, ended_tag s.flight t n e (leb-true _ _ l)))) (λ l. (b.slots t ht).early n hn (leb-false _ _ l)))))

  flight_is : flight_sound nodes s.flight ≡ true
  unfolding flight_sound
  flight_is = every_all (row_sound nodes s.flight) 32 (λ t ht. every_all (entry_sound nodes s.flight t) 8 (λ n hn. entry_is t n ht hn))

  notes_are : (table : List ℕ) → ((t c : ℕ) → t < 32 → c < 32 → noted table t c ≤ word) → notes_sound table ≡ true
  unfolding notes_sound
  notes_are table f = every_all (note_sound table) 1024 (λ i h. le-leb _ _ (rw (pair_back 32 i) at (f (i / 32) (i % 32) (omega arith) (omega arith))))

  -- ---- one transaction

  module _ (t : ℕ) (ht : t < 32) where
    d : Transaction G (nodes_of s) S t
    d = a.inv.deciding t ht

    k : ShapedAt s t
    k = b.slots t ht

    x : Slot
    x = slot_at s t

    asked_is : (n c : ℕ) → n < 8 → c < 32 → holds masks n c ≡ true → asked_sound nodes cells masks n c ≡ true
    asked_is n c hn hc o = let r = a.sizes.in_run_lem n c hn hc o in both _ _ (both _ _ (lt-ltb _ _ r.0) (lt-ltb _ _ r.1)) o

    places : 0 < S.stg t → places_sound nodes cells masks (slot_at s t) ≡ true
    unfolding places_sound
    places l = both _ _
        (both _ _ (lt-ltb _ _ (k.origin l)) (implied _ _ (λ e. let r = (a.inv.reading t ht).asked (eqb-true _ _ e) in asked_is _ _ r.0 r.1 r.2)))
        (implied _ _ (λ e. let r = (a.inv.reading t ht).served (eqb-true _ _ e) in asked_is _ _ r.node_low r.cell_low r.holder))

    sets : 0 < S.stg t → sets_sound cells (slot_at s t) s.writes s.reads t ≡ true
    unfolding sets_sound
    sets l = every_all (set_sound cells (slot_at s t).update (is_fixed (slot_at s t).snapshot) s.writes s.reads t) 32 (λ c hc. both _ _
        (implied _ _ (λ e. both _ _ (k.updates c hc l (ltb-true _ _ e)) (lt-ltb _ _ (d.in_run c hc l (ltb-true _ _ e)))))
        (implied _ _ (λ e. let r = k.fixed c hc l (ltb-true _ _ e) in both _ _ (is_fixed_lem (slot_at s t).snapshot r.0) (lt-ltb _ _ r.1))))

    slot_is : slot_sound nodes cells masks (slot_at s t) s.writes s.reads t ≡ true
    unfolding slot_sound
    slot_is = by_test (in_stage (slot_at s t) unused) (λ e. rw e) (λ e. let l : 0 < S.stg t = omega (arith, eqb-false (S.stg t) 0 e) in rw e (both _ _ (places l) (sets l)))

    -- ---- entries at the holders of the read and written cells

    spreads : ((n c : ℕ) → n < 8 → c < 32 → holds masks n c ≡ true → 0 < S.rd t c + S.wr t c → 1 ≤ S.tag t n) → spread nodes cells masks s.flight s.writes s.reads t ≡ true
    unfolding spread
    spreads f = every_all (spread_at cells masks s.flight s.writes s.reads t) nodes (λ n h. agree _ _
        (λ e. there n (node_low n h) (k.spread n (node_low n h) (leb-true _ _ e))) (λ e. le-leb _ _ (back n (node_low n h) (involved_touches s t n a.sizes.cells_high e))))
      where
        there : (n : ℕ) → n < 8 → Touches (ground_of s (λ c. 0)) S t n → involved cells masks s.writes s.reads t n ≡ true
        there n hn (touches c hc o l) = involves cells masks s.writes s.reads t n c (a.sizes.in_run_lem n c hn hc o).1 o l

        back : (n : ℕ) → n < 8 → Touches (ground_of s (λ c. 0)) S t n → 1 ≤ S.tag t n
        back n hn (touches c hc o l) = f n c hn hc o l

    nowhere_is : ((n : ℕ) → n < 8 → S.tag t n ≡ 0) → empty nodes s.flight t ≡ true
    unfolding empty
    nowhere_is f = every_all (empty_at s.flight t) nodes (λ n h. eq-eqb _ _ (f n (node_low n h)))

    -- a committed writer is one that has a number
    numbered : S.stg t ≡ 5 → writer cells s.writes t ≡ true → 0 < S.fin t
    unfolding writer
    numbered e w = go (any_where cells (has s.writes t) w)
      where
        go : Where cells (has s.writes t) true → 0 < S.fin t
        go (found c hc y) = d.wrote c (cell_low c hc) e (ltb-true _ _ y)

    wrote_some : Writes G S t → writer cells s.writes t ≡ true
    unfolding writer
    wrote_some (writes c hc i w) = any_has (has s.writes t) cells c i (lt-ltb _ _ w)

    again : Writes (ground_of s (λ c. 0)) S t → Writes G S t
    again (writes c hc i w) = writes c hc i w

    unnumbered : writer cells s.writes t ≡ false → S.fin t ≡ 0
    unnumbered w = by_test (ltb 0 (S.fin t)) (λ e. absurd (not_both (wrote_some (again (k.author (ltb-true _ _ e)))) w)) (λ e. omega (arith, ltb-false (0) (S.fin t) e))

    spread_is : spread_sound (S.stg t) (writer cells s.writes t) (spread nodes cells masks s.flight s.writes s.reads t) (empty nodes s.flight t) ≡ true
    spread_is = by_test (eqb (S.stg t) 4) (λ e. rw e (spreads (λ n c hn hc o l. d.sent n c hn hc (eqb-true _ _ e) o l)))
        (λ e₄. by_test (eqb (S.stg t) 5)
        (λ e. by_test (writer cells s.writes t)
        (λ w. rw (e₄, e, w) (spreads (λ n c hn hc o l. d.entered n c hn hc (numbered (eqb-true _ _ e) w) o l)))
        (λ w. let i : eqb (S.stg t) 6 ≡ false = ne_eqb (S.stg t) 6 (λ z. omega (arith, eqb-true (S.stg t) 5 e)) in rw (e₄, e, w, i) (nowhere_is (λ n hn. d.plain n hn (eqb-true _ _ e) (unnumbered w)))))
        (λ e₅. by_test (eqb (S.stg t) 6)
        (λ e. rw (e₄, e₅, e) (either (k.aborted (eqb-true _ _ e))))
        (λ e. rw (e₄, e₅, e) (nowhere_is (λ n hn. d.early n hn (omega (arith, stage_low (slot_at s t).stage, eqb-false (S.stg t) 4 e₄, eqb-false (S.stg t) 5 e₅, eqb-false (S.stg t) 6 e)))))))
      where
        either : Spread (ground_of s (λ c. 0)) S t → (spread nodes cells masks s.flight s.writes s.reads t || empty nodes s.flight t) ≡ true
        either (nowhere f) = rw (nowhere_is f) (or_true (spread nodes cells masks s.flight s.writes s.reads t))
        either (everywhere f) = rw (spreads f)

    voting_is : voting_sound nodes cells (slot_at s t) s.flight s.writes t ≡ true
    unfolding voting_sound
    voting_is = implied _ _ (λ e. both _ _ (wrote_some (d.votes (eqb-true _ _ e))) (every_all (unlearned_at s.flight t) nodes (λ n h. lt-ltb (S.tag t n) 4 (omega (arith, d.voting n (node_low n h) (eqb-true (S.stg t) 4 e))))))

    final_is : (n : ℕ) → n < 8 → 0 < S.fin t → final_at (S.fin t) s.flight t n ≡ true
    final_is n hn l = both _ _
        (both _ _ (implied _ _ (λ e. le-leb _ _ (d.voted n hn l (leb-true _ _ e)))) (implied _ _ (λ e. le-leb _ _ (under (pending_tag s.flight t n e)))))
        (implied _ _ (λ e. eq-eqb _ _ (d.learned n hn (eqb-true _ _ e)).1))
      where
        under : (3 ≤ S.tag t n) × (S.tag t n ≤ 4) → S.num t n ≤ S.fin t
        under r = by_test (eqb (S.tag t n) 3) (λ e. d.below n hn l (eqb-true _ _ e)) (λ e. omega (arith, d.learned n hn (omega (arith, r, eqb-false (S.tag t n) 3 e))))

    committed_is : committed_sound nodes cells (slot_at s t) s.flight s.writes t ≡ true
    unfolding committed_sound
    committed_is = by_test (in_stage (slot_at s t) committed && writer cells s.writes t)
        (λ e. let r = and_true _ _ e in rw e (every_all (final_at (S.fin t) s.flight t) nodes (λ n h. final_is n (node_low n h) (numbered (eqb-true _ _ r.0) r.1))))
        (λ e. rw e (every_all (unapplying_at s.flight t) nodes (λ n h. ap not (ne_eqb _ _ (λ z. no_number e (d.learned n (node_low n h) z).0)))))
      where
        no_number : (in_stage (slot_at s t) committed && writer cells s.writes t) ≡ false → 0 < S.fin t → ⊥
        no_number e l = not_both (both _ _ (eq-eqb (S.stg t) 5 (d.stage l)) (wrote_some (again (k.author l)))) e

    transaction_is : transaction_sound s t ≡ true
    unfolding transaction_sound
    transaction_is = both _ _ (both _ _ (both _ _ slot_is spread_is) voting_is) committed_is

  -- ---- chains

  chain_is : (c n : ℕ) → c < 32 → n < 8 → holds masks n c ≡ true → chain_sound s.chains c n ≡ true
  unfolding chain_sound
  chain_is c n hc hn o = let r = a.inv.chaining.some n c hn hc o in
      both _ _ (both _ _ (both _ _ (le-leb _ _ r.0) (le-leb _ _ r.1)) (eq-eqb _ _ (a.inv.chaining.zero n c hn hc o).0))
      (every_all (ascends_at s.chains.versions c n) (K.len c n - 1) (λ i h. lt-ltb _ _ (a.inv.chaining.up n c i (i + 1) hn hc o (omega arith) (omega arith))))

  chains_are : chains_sound nodes cells masks s.chains ≡ true
  unfolding chains_sound
  chains_are = every_all (cell_sound nodes masks s.chains) cells (λ c hc. every_all (chain_at masks s.chains c) nodes (λ n hn. implied _ _ (λ o. chain_is c n (cell_low c hc) (node_low n hn) o)))

  -- ---- what is unfinished

  pending_is : (n t : ℕ) → n < 8 → t < 32 → pending_sound cells masks s.flight s.chains s.writes n t ≡ true
  unfolding pending_sound has_room
  pending_is n t hn ht = implied _ _ (λ e. both _ _
      (every_all (differ_at s.flight n t) t (λ u h. implied _ _ (λ i. ap not (ne_eqb _ _ (apart e u h i)))))
      (every_all (fits_at masks s.chains s.writes n t (S.num t n)) cells (λ c hc. implied _ _ (λ y. let r = and_true (holds masks n c) (has s.writes t c) y in
      both _ _ (lt-ltb _ _ (above e c (cell_low c hc) r.0)) (lt-ltb (K.len c n) 8 (omega (arith, a.inv.locking.room t n c ht hn (cell_low c hc) (tag e).0 (tag e).1 r.0 (ltb-true _ _ r.1))))))))
    where
      tag : unfinished s.flight t n ≡ true → (3 ≤ S.tag t n) × (S.tag t n ≤ 4)
      tag e = pending_tag s.flight t n e

      apart : unfinished s.flight t n ≡ true → (u : ℕ) → u < t → unfinished s.flight u n ≡ true → S.num u n ≢ S.num t n
      apart e u h i = let r = pending_tag s.flight u n i in a.inv.numbering.apart u t n (omega arith) ht hn (λ z. omega arith) r.0 r.1 (tag e).0 (tag e).1

      above : unfinished s.flight t n ≡ true → (c : ℕ) → c < 32 → holds masks n c ≡ true → latest s.chains.lens s.chains.versions c n < S.num t n
      above e c hc o = omega (arith, newest, a.inv.chaining.under n c (K.len c n - 1) hn hc o (omega (arith, r)), (a.inv.counting.pending t n ht hn (tag e).0 (tag e).1).0)
        where
          r : (1 ≤ K.len c n) × (K.len c n ≤ 8)
          r = a.inv.chaining.some n c hn hc o

          newest : latest s.chains.lens s.chains.versions c n ≡ K.vnum c n (K.len c n - 1)
          newest = latest_some _ _ _ _ (λ z. omega (arith, r, size_in s.chains.lens c n r.1)) ∙ ap (λ (m : ℕ). K.vnum c n (m - 1)) (size_in s.chains.lens c n r.1)

  -- ---- all of it

  pub whole_is : whole s ≡ true
  unfolding whole
  whole_is = both _ _ (both _ _ (both _ _ (both _ _ (both _ _ (both _ _ (both _ _ counts masks_are) flight_is) (notes_are s.writes (λ t c ht hc. (a.inv.deciding t ht).values c hc)))
      (notes_are s.reads (λ t c ht hc. (b.slots t ht).reads c hc))) (every_all (transaction_sound s) 32 transaction_is)) chains_are)
      (every_all (node_sound cells masks s.flight s.chains s.writes) nodes (λ n hn. every_all (pending_sound cells masks s.flight s.chains s.writes n) 32 (λ t ht. pending_is n t (node_low n hn) ht)))
