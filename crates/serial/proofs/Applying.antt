-- Rule E and advance keep what holds: versions are added in ascending number, and the commit number passes nothing that is pending.
-- Assumes nothing.
use mathlib.Core.Path.{◌≡◌, refl, sym, ap, subst, subst₂, fun_ext, ◌∙◌}
use mathlib.Core.Logic.{◌≢◌}
use mathlib.Core.Bool.{true, false, ◌&&◌}
use mathlib.Core.List.{List}
use Prim.Native.Nat.{ℕ, ◌-◌, ◌≤◌, ◌<◌}
use native.Mathlib.Omega.{arith}
use native.Mathlib.Decide.{ℕ_discrete}
use borrow.Author.Tests.{ltb-true, ltb-false}
use Rattle.std.specs.Prelude.{Option, None, Some}
use Rattle.tables.specs.Pair.{word}
use Rattle.tables.proofs.Choice.{by_test, not_both}
use Rattle.tables.proofs.Table.{put_size}
use Rattle.tables.proofs.Tests.{Passed}
use Rattle.counters.specs.Counters.{committed_at}
use Rattle.counters.specs.declared.Counters.{Counters}
use Rattle.kinds.specs.declared.Step.{Step}
use Rattle.kinds.specs.declared.Kind.TheVariants.{Apply as apply, Advance as advance}
use Rattle.chain.specs.declared.Chains.{Chains}
use Rattle.chain.specs.Chain.{len_at, version_at}
use Rattle.chain.specs.declared.Version.{Version}
use Rattle.group.specs.State.{State, holds, finished, tag_at, number_at, entered, unfinished, noted, has, slot_at, counters_at}
use Rattle.settle.specs.Settle.{stored, applied, apply_chains, apply_flight}
use Rattle.settle.specs.Settle as Settle
use Rattle.score.specs.Place.{place_of, desk_of, put_back}
use Rattle.desk.specs.Acts.{needs, does}
use Rattle.serial.specs.Serial.{Handed}
use Rattle.serial.proofs.Applied as Applied
use Rattle.settle.proofs.Reasons.{First, first as first_of, apply_first, advance_idle}
use Rattle.serial.proofs.Inv.{Ground, Inv, Nodes, Slots}
use Rattle.serial.proofs.Applied.{AppliesAt, Grown, grown, same}
use Rattle.serial.proofs.Views.{All, asks_of, entry, ground_of, links_of, nodes_of, notes_of, pends, same_slot, set_counters, set_slot, set_tables, slots_of}
use Rattle.serial.proofs.Change.{any_counters, counters_away, counters_here, raised}
use Rattle.serial.proofs.Entries.{slot_kept}
use Rattle.serial.proofs.Stored.{Piece, UpTo, asis, more, stored_some}

module _ (first : ℕ → ℕ) (s : State) (H : List Handed) (a : All first s H) (x : Step) where
  abbrev n : ℕ
  n = x.node

  abbrev G : Ground
  G = ground_of s first

  abbrev C : Nodes
  C = nodes_of s

  abbrev S : Slots
  S = slots_of s

  module _ (hn : x.node < s.group.nodes) (t : ℕ) (ht : t < 32) (e : S.tag t x.node ≡ 4)
      (first_one : (u : ℕ) → u < 32 → 3 ≤ S.tag u x.node → S.tag u x.node ≤ 4 → S.num t x.node ≤ S.num u x.node) where
    hn₈ : n < 8
    hn₈ = omega (arith, a.sizes.nodes_high)

    abbrev k : ℕ
    k = S.num t n

    abbrev c : Counters
    c = committed_at (counters_at s n) k

    abbrev f : List ℕ
    f = entered s.flight t n finished 0

    abbrev h : Chains
    h = stored s.group.cells s.group.masks s.chains s.writes t n k

    abbrev s₁ : State
    s₁ = set_tables (set_counters s n c) f h s.writes s.reads

    pending : (3 ≤ S.tag t n) × (S.tag t n ≤ 4)
    pending = (omega (arith, e), omega (arith, e))

    room : (i : ℕ) → i < 32 → holds s.group.masks n i ≡ true → has s.writes t i ≡ true → len_at s.chains.lens i n ≤ 7
    room i hi o w = a.inv.locking.room t n i ht hn₈ hi pending.0 pending.1 o (ltb-true _ _ w)

    fits : (i : ℕ) → i < 32 → noted s.writes t i - 1 < word
    fits i hi = omega (arith, (a.inv.deciding t ht).values i hi)

    after : UpTo s.group.masks s.writes t n k s.chains a.sizes.lens256 a.sizes.versions2048 hn₈ room fits s.group.cells h
    after = stored_some s.group.masks s.writes t n k s.chains a.sizes.lens256 a.sizes.versions2048 hn₈ room fits s.group.cells a.sizes.cells_high

    -- each chain of a holder: with one version more, or as it was
    grow : (i m : ℕ) → i < 32 → m < 8 → holds s.group.masks m i ≡ true → Grown G S (links_of s) (links_of s₁) t n i m
    grow i m hi hm o = elim (ℕ_discrete m n) [
      | yes d ↦ rw d (by_test (has s.writes t i) (λ w. added_one (rw d at o) w) (λ w. plain_one (rw d at o) w))
      | no d ↦ other d (after.away i m hi hm (a.inv.chaining.some m i hm hi o).1 (λ z. absurd (d z)))
    ]
      where
        some₁ : (j : ℕ) → j < 8 → holds s.group.masks j i ≡ true → len_at s.chains.lens i j ≤ 8
        some₁ j hj g = (a.inv.chaining.some j i hj hi g).1

        piece : holds s.group.masks n i ≡ true → Piece s.chains h i n k (noted s.writes t i - 1) (holds s.group.masks n i && has s.writes t i)
        piece g = after.here i hi (a.sizes.in_run_lem n i hn₈ hi g).1 (some₁ n hn₈ g)

        older : (j l : ℕ) → ((z : ℕ) → z < l → version_at h.versions i j z ≡ version_at s.chains.versions i j z) → (z : ℕ) → z < l
            → ((links_of s₁).vnum i j z ≡ (links_of s).vnum i j z) × ((links_of s₁).vval i j z ≡ (links_of s).vval i j z)
        older j l g z b = (ap (λ (y : Version). y.number) (g z b), ap (λ (y : Version). y.value) (g z b))

        added_one : holds s.group.masks n i ≡ true → has s.writes t i ≡ true → Grown G S (links_of s) (links_of s₁) t n i n
        added_one g w = go (rw (g, w) at (piece g))
          where
            go : Piece s.chains h i n k (noted s.writes t i - 1) true → Grown G S (links_of s) (links_of s₁) t n i n
            go (more l y z) = let p : 0 < noted s.writes t i = ltb-true 0 (noted s.writes t i) w in
                grown refl g p l (ap (λ (j : Version). j.number) y) (omega (arith, ap (λ (j : Version). j.value) y)) (older n (len_at s.chains.lens i n) z)

        plain_one : holds s.group.masks n i ≡ true → has s.writes t i ≡ false → Grown G S (links_of s) (links_of s₁) t n i n
        plain_one g w = go (rw (g, w) at (piece g))
          where
            go : Piece s.chains h i n k (noted s.writes t i - 1) false → Grown G S (links_of s) (links_of s₁) t n i n
            go (asis l z) = same (λ d o'. omega (arith, ltb-false 0 (noted s.writes t i) w)) l (older n (len_at s.chains.lens i n) z)

        other : m ≢ n → Piece s.chains h i m k 0 false → Grown G S (links_of s) (links_of s₁) t n i m
        other d (asis l z) = same (λ y. absurd (d y)) l (older m (len_at s.chains.lens i m) z)

    applies : All first s₁ H
    applies = record {
      sizes = record { counters8 = put_size _ _ _ ∙ a.sizes.counters8; slots32 = a.sizes.slots32; flight256 = put_size _ _ _ ∙ a.sizes.flight256; lens256 = after.lens256; versions2048 = after.versions2048; writes1024 = a.sizes.writes1024; reads1024 = a.sizes.reads1024; nodes_high = a.sizes.nodes_high; cells_high = a.sizes.cells_high; in_run_lem = a.sizes.in_run_lem; held = a.sizes.held };
      inv = subst₂ (λ (y z : ℕ → ℕ). Inv G (record { cnt = y; cmt = (nodes_of s₁).cmt; see = z }) (slots_of s₁) (links_of s₁) (asks_of s) (notes_of s) H) (fun_ext cnt) (fun_ext see)
          (Applied.applied G C S (links_of s) (links_of s₁) (nodes_of s₁).cmt (tag_at f) (number_at f) (asks_of s) (notes_of s) H t n (entry s t n 5 0 a.sizes.flight256 ht hn₈ (omega arith)) grow q a.inv);
    }
      where
        at_n : counters_at s₁ n ≡ c
        at_n = counters_here first s H n c n a.sizes.counters8 hn₈ refl

        cnt : (m : ℕ) → C.cnt m ≡ (nodes_of s₁).cnt m
        cnt m = elim (ℕ_discrete m n) [ yes d ↦ rw d (sym (ap (λ (y : Counters). y.counter) at_n)) | no d ↦ sym (ap (λ (y : Counters). y.counter) (counters_away first s H n c m d)) ]

        see : (m : ℕ) → C.see m ≡ (nodes_of s₁).see m
        see m = elim (ℕ_discrete m n) [ yes d ↦ rw d (sym (ap (λ (y : Counters). y.seen) at_n)) | no d ↦ sym (ap (λ (y : Counters). y.seen) (counters_away first s H n c m d)) ]

        q : AppliesAt G C S (nodes_of s₁).cmt t n
        q = record {
          slot_low = ht;
          node_low = hn₈;
          learned = e;
          least = λ u hu d l b. omega (arith, first_one u hu l b, a.inv.numbering.apart t u n ht hu hn₈ (λ z. d (sym z)) pending.0 pending.1 l b);
          cmt_here = ap (λ (y : Counters). y.commit) at_n;
          cmt_away = λ m d. ap (λ (y : Counters). y.commit) (counters_away first s H n c m d);
        }

  pub apply_keeps : x.node < s.group.nodes → place_of s x ≡ x.node → Passed (needs (desk_of s x) x apply) → All first (put_back s x (does (desk_of s x) x apply).desk) H
  unfolding needs does desk_of put_back
  apply_keeps hn p o = goes (Settle.least s.flight n) (apply_first s.flight n o)
    where
      after_apply : Option ℕ → State
      after_apply r = set_tables (set_slot (set_counters s (place_of s x) (committed_at (counters_at s (place_of s x)) (applied s.flight n r))) x.slot (slot_at s x.slot))
          (apply_flight s.flight n r) (apply_chains s.group.cells s.group.masks s.flight s.chains s.writes n r) s.writes s.reads

      goes : (r : Option ℕ) → First s.flight n r → All first (after_apply r) H
      goes None x = elim x [ ]
      goes (Some t) (first_of ht e m) = slot_kept first s H x.slot (place_of s x) (committed_at (counters_at s (place_of s x)) (S.num t n)) (entered s.flight t n finished 0) (h hn t ht e least₁)
          (subst (λ (j : ℕ). All first (set_tables (set_counters s j (committed_at (counters_at s j) (S.num t n))) (entered s.flight t n finished 0) (h hn t ht e least₁) s.writes s.reads) H) (sym p) (applies hn t ht e least₁))
        where
          least₁ : (i : ℕ) → i < 32 → 3 ≤ S.tag i n → S.tag i n ≤ 4 → S.num t n ≤ S.num i n
          least₁ i hi l g = m i hi (pends s.flight i n l g)

  -- ---- advance

  pub advance_keeps : x.node < s.group.nodes → place_of s x ≡ x.node → Passed (needs (desk_of s x) x advance) → All first (put_back s x (does (desk_of s x) x advance).desk) H
  unfolding needs does desk_of put_back
  advance_keeps hn p o = subst (λ (z : State). All first z H) (sym (same_slot (set_counters s m c) x.slot))
      (raised first s H m c a (record { cnt = omega arith; cmt = omega (arith, r.1); fits = b.0; commit = b.2; seen = b.2; pending = λ t ht hm l h. absurd (not_both (pends s.flight t m l h) (none_there t ht)) }))
    where
      m : ℕ
      m = place_of s x

      c : Counters
      c = committed_at (counters_at s m) (counters_at s m).seen

      b : ((counters_at s m).counter < word) × ((counters_at s m).commit ≤ (counters_at s m).counter) × ((counters_at s m).seen ≤ (counters_at s m).counter)
      b = any_counters first s H a m

      r : ((t : ℕ) → t < 32 → unfinished s.flight t n ≡ false) × ((counters_at s m).commit < (counters_at s m).seen)
      r = advance_idle (counters_at s m) s.flight n o

      none_there : (t : ℕ) → t < 32 → unfinished s.flight t m ≡ false
      none_there t ht = ap (unfinished s.flight t) p ∙ r.0 t ht
