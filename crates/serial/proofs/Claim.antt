-- From what holds of every state that is reached to the claim.
-- Assumes nothing.
use mathlib.Core.Path.{◌≡◌, refl, ap, ◌∙◌}
use mathlib.Core.Logic.{◌≢◌}
use mathlib.Core.Bool.{Bool, true, false, ◌&&◌}
use mathlib.Core.List.{List, Memᴰ}
use Prim.Native.Nat.{ℕ, ◌-◌, ◌≤◌, ◌<◌}
use native.Mathlib.Omega.{arith}
use native.Mathlib.Decide.{ℕ_discrete}
use lib.Dec.{leb, ltb, eqb}
use borrow.Author.Tests.{leb-true, leb-false, le-leb, ltb-true, lt-ltb, ltb-false, eqb-true, eq-eqb}
use Rattle.tables.specs.Loop.{any}
use Rattle.tables.proofs.Choice.{by_test, and_true, not_both}
use Rattle.tables.proofs.Loop.{any_at, any_has, any_where, Where, found}
use Rattle.chain.proofs.Laws.{size_in}
use Rattle.group.specs.State.{State, holds, unfinished, has, writer, committed}
use Rattle.serial.specs.Serial.{Handed, is_writer, number_of, writers, copy_after, Serial}
use Rattle.serial.proofs.Inv.{Slots, Links, Transaction, From, from, Into, into, Latest, untouched, last, Given, Took}
use Rattle.serial.proofs.Views.{ground_of, nodes_of, slots_of, links_of, All, pends}
use Rattle.serial.proofs.Copy.{Last, nobody, wrote, last_unique, Picked, copy_holds}

module _ (first : ℕ → ℕ) (s : State) (H : List Handed) (a : All first s H) where
  abbrev S : Slots
  S = slots_of s

  abbrev K : Links
  K = links_of s

  -- a committed writer has a number above 0
  numbered : (t : ℕ) → t < 32 → is_writer s t ≡ true → 0 < S.fin t
  unfolding is_writer writer
  numbered t ht e = go (any_where s.group.cells (has s.writes t) r.1)
    where
      r : (eqb (S.stg t) committed ≡ true) × (any s.group.cells (has s.writes t) ≡ true)
      r = and_true _ _ e

      go : Where s.group.cells (has s.writes t) true → 0 < S.fin t
      go (found c hc w) = (a.inv.deciding t ht).wrote c (omega (arith, a.sizes.cells_high)) (eqb-true _ _ r.0) (ltb-true _ _ w)

  -- and who has one and wrote a cell is a committed writer
  counts : (t c : ℕ) → t < 32 → c < 32 → 0 < S.fin t → 0 < S.wr t c → is_writer s t ≡ true
  unfolding is_writer writer
  counts t c ht hc f w = let d = a.inv.deciding t ht in let e = d.stage f in
      rw (eq-eqb (S.stg t) 5 e) (any_has (has s.writes t) s.group.cells c (d.in_run c hc (omega arith) w) (lt-ltb 0 (S.wr t c) w))

  distinct : (t u : ℕ) → t < 32 → u < 32 → t ≢ u → is_writer s t ≡ true → is_writer s u ≡ true → number_of s t ≢ number_of s u
  distinct t u ht hu d e f = a.inv.numbering.finals t u ht hu d (numbered t ht e) (numbered u hu f)

  -- whatever is the last that was written, the copy holds it
  holds_it : (p : ℕ → Bool) (c v : ℕ) → Last s (Picked s p 32) first c v → v ≡ copy_after s first (writers s p) c
  holds_it p c v l = last_unique s (Picked s p 32) first c v _ (λ t u q r d. distinct t u q.low r.low d q.writer r.writer) l (copy_holds s p first c)

  -- ---- every value handed out

  module _ (h : Handed) (m : Memᴰ h H) where
    g : Given (ground_of s first) (nodes_of s) S h.node h.cell h.s h.value
    g = a.inv.handing.given h m

    k : Took S h
    k = a.inv.handing.took h m

    hc : h.cell < 32
    hc = g.cell_low

    up_to : Last s (Picked s (λ j. leb j h.s) 32) first h.cell h.value
    up_to = go g.latest
      where
        go : Latest (ground_of s first) S h.cell h.s h.value → Last s (Picked s (λ j. leb j h.s) 32) first h.cell h.value
        go (untouched f e) = nobody (λ t q. by_test (ltb 0 (S.wr t h.cell))
            (λ z. absurd (omega (arith, f t q.low (numbered t q.low q.writer) (ltb-true 0 (S.wr t h.cell) z), leb-true (S.fin t) h.s q.passes))) (λ z. omega (arith, ltb-false))) e
        go (last t ht f w l n) = wrote t (record { low = ht; writer = counts t h.cell ht hc f (omega arith); passes = le-leb _ _ l }) w
            (λ u q z. n u q.low (numbered u q.low q.writer) z (leb-true (S.fin u) h.s q.passes))

    -- no other writer of the cell comes between the snapshot and the reader's own turn
    between : 0 < S.fin h.slot → (u : ℕ) → u < 32 → u ≢ h.slot → 0 < S.fin u → 0 < S.wr u h.cell → S.fin u < S.fin h.slot → S.fin u ≤ h.s
    between f u hu d f' w l = elim (ℕ_discrete (S.tag t n) 5) [
      | yes e ↦ elim (ℕ_discrete (S.tag u n) 5) [
        | yes e' ↦ by_test (leb (S.snap t) (S.fin u)) (λ z. absurd (omega (arith, a.inv.locking.valid t u n c k.slot_low hu hn hc d f e g.holder k.joined f' w e' (leb-true _ _ z)))) (λ z. omega (arith, leb-false (S.snap t) (S.fin u) z, k.fixed))
        | no e' ↦ absurd (omega (arith, a.inv.counting.pending u n hu hn vu (omega (arith, bu.low n hn)), under e', bt.past n hn f e))
      ]
      | no e ↦ elim (ℕ_discrete (S.tag u n) 5) [
        | yes e' ↦ omega (arith, a.inv.locking.current t u n c k.slot_low hu hn hc d vt (omega (arith, bt.low n hn)) g.holder k.joined f' w e', k.fixed)
        | no e' ↦ absurd (omega (arith, a.inv.locking.alone u t n c hu k.slot_low hn hc d vu (omega (arith, bu.low n hn)) vt (omega (arith, bt.low n hn)) g.holder w, k.joined))
      ]
    ]
      where
        t : ℕ
        t = h.slot

        n : ℕ
        n = h.node

        c : ℕ
        c = h.cell

        hn : n < 8
        hn = g.node_low

        bt : Transaction (ground_of s first) (nodes_of s) S t
        bt = a.inv.deciding t k.slot_low

        bu : Transaction (ground_of s first) (nodes_of s) S u
        bu = a.inv.deciding u hu

        vt : 3 ≤ S.tag t n
        vt = bt.voted n hn f (bt.entered n c hn hc f g.holder (omega (arith, k.joined)))

        vu : 3 ≤ S.tag u n
        vu = bu.voted n hn f' (bu.entered n c hn hc f' g.holder (omega arith))

        under : S.tag u n ≢ 5 → S.num u n ≤ S.fin u
        under e = elim (ℕ_discrete (S.tag u n) 3) [ yes z ↦ bu.below n hn f' z | no z ↦ omega (arith, bu.learned n hn (omega (arith, bu.low n hn, vu))) ]

    before_turn : is_writer s h.slot ≡ true → Last s (Picked s (λ j. ltb j (number_of s h.slot)) 32) first h.cell h.value
    before_turn e = go g.latest
      where
        f : 0 < S.fin h.slot
        f = numbered h.slot k.slot_low e

        earlier : (u : ℕ) → Picked s (λ j. ltb j (number_of s h.slot)) 32 u → 0 < S.wr u h.cell → S.fin u ≤ h.s
        earlier u q w = let l = ltb-true (S.fin u) (S.fin h.slot) q.passes in between f u q.low (λ z. omega (arith, ap S.fin z)) (numbered u q.low q.writer) w l

        go : Latest (ground_of s first) S h.cell h.s h.value → Last s (Picked s (λ j. ltb j (number_of s h.slot)) 32) first h.cell h.value
        go (untouched b x) = nobody (λ t q. by_test (ltb 0 (S.wr t h.cell))
            (λ z. let w = ltb-true 0 (S.wr t h.cell) z in absurd (omega (arith, b t q.low (numbered t q.low q.writer) w, earlier t q w))) (λ z. omega (arith, ltb-false))) x
        go (last t ht b w l n) = wrote t (record { low = ht; writer = counts t h.cell ht hc b (omega arith); passes = lt-ltb (S.fin t) (S.fin h.slot) (omega (arith, k.after f)) }) w
            (λ u q z. n u q.low (numbered u q.low q.writer) z (earlier u q z))

  -- ---- a holder's newest version

  module _ (n c : ℕ) (hn : n < 8) (hc : c < 32) (o : holds s.group.masks n c ≡ true) (e : any 32 (λ t. unfinished s.flight t n && has s.writes t c) ≡ false) where
    -- every writer of the cell is finished here
    done : (u : ℕ) → u < 32 → 0 < S.fin u → 0 < S.wr u c → S.tag u n ≡ 5
    done u hu f w = let b = a.inv.deciding u hu in let v = b.voted n hn f (b.entered n c hn hc f o (omega arith)) in
        elim (ℕ_discrete (S.tag u n) 5) [
          | yes z ↦ z
          | no z ↦ absurd (not_both (both u (pends s.flight u n v (omega (arith, b.low n hn))) (lt-ltb 0 (S.wr u c) w)) (any_at (λ t. unfinished s.flight t n && has s.writes t c) 32 e u hu))
        ]
      where
        both : (u : ℕ) → unfinished s.flight u n ≡ true → has s.writes u c ≡ true → (unfinished s.flight u n && has s.writes u c) ≡ true
        both u p q = rw (p, q)

    abbrev i : ℕ
    i = K.len c n - 1

    some₁ : (1 ≤ K.len c n) × (K.len c n ≤ 8)
    some₁ = a.inv.chaining.some n c hn hc o

    -- it stands in the chain, so it is no newer than the last
    in_chain : (u : ℕ) → u < 32 → is_writer s u ≡ true → 0 < S.wr u c → Into K n c (S.fin u) (S.wr u c)
    in_chain u hu q w = let f = numbered u hu q in a.inv.chaining.kept n c u hn hc hu o f w (done u hu f w)

    at_end : Last s (Picked s (λ j. true) 32) first c (K.vval c n i)
    at_end = elim (ℕ_discrete i 0) [
      | yes z ↦ nobody (λ t q. by_test (ltb 0 (S.wr t c)) (λ w. absurd (alone z (in_chain t q.low q.writer (ltb-true 0 (S.wr t c) w)))) (λ w. omega (arith, ltb-false)))
          (ap (K.vval c n) z ∙ (a.inv.chaining.zero n c hn hc o).1)
      | no z ↦ go (a.inv.chaining.made n c i hn hc o (omega arith) (omega (arith, some₁)))
    ]
      where
        alone : {x y : ℕ} → i ≡ 0 → Into K n c x y → ⊥
        alone z (into j p b x y) = omega (arith, some₁)

        most : (u t : ℕ) → K.vnum c n i ≡ S.fin t → Into K n c (S.fin u) (S.wr u c) → S.fin u ≤ S.fin t
        most u t z (into j p b x y) = elim (ℕ_discrete j i) [ yes d ↦ omega (arith, ap (K.vnum c n) d) | no d ↦ omega (arith, a.inv.chaining.up n c j i hn hc o (omega arith) (omega (arith, some₁))) ]

        go : From S n c (K.vnum c n i) (K.vval c n i) → Last s (Picked s (λ j. true) 32) first c (K.vval c n i)
        go (from t ht f w x y) = wrote t (record { low = ht; writer = counts t c ht hc f (omega arith); passes = refl }) w (λ u q b. most u t y (in_chain u q.low q.writer b))

  pub claimed : Serial first (record { state = s; handed = H })
  claimed = record {
    distinct = distinct;
    explained = λ h m. holds_it (λ j. leb j h.s) h.cell h.value (up_to h m);
    own_turn = λ h m e. holds_it (λ j. ltb j (number_of s h.slot)) h.cell h.value (before_turn h m e);
    newest = λ n c hn hc o e. ap (λ (j : ℕ). K.vval c n (j - 1)) (size_in s.chains.lens c n (some₁ n c hn hc o e).1) ∙ holds_it (λ j. true) c (K.vval c n (i n c hn hc o e)) (at_end n c hn hc o e);
  }
