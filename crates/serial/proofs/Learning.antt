-- Rule D keeps what holds: an abort drops the entry, a commit gives it the final number.
-- Assumes nothing.
use mathlib.Core.Path.{◌≡◌, refl, sym, ap, subst, ◌∙◌}
use mathlib.Core.Logic.{◌≢◌}
use mathlib.Core.Bool.{true, false}
use mathlib.Core.List.{List}
use Prim.Native.Nat.{ℕ, ◌%◌, ◌≤◌, ◌<◌}
use native.Mathlib.Omega.{arith}
use native.Mathlib.Decide.{ℕ_discrete}
use borrow.Author.Tests.{leb-true, eqb-true}
use Rattle.tables.specs.Pair.{word}
use Rattle.tables.proofs.Choice.{by_test, and_true}
use Rattle.tables.proofs.Tests.{Passed}
use Rattle.counters.specs.Counters.{counted_to}
use Rattle.kinds.specs.declared.Step.{Step}
use Rattle.kinds.specs.declared.Kind.TheVariants.{Learn as learn}
use Rattle.group.specs.State.{State, to_apply, finished, tag_at, number_at, entered, committed, in_stage, slot_at, counters_at}
use Rattle.learn.specs.Learn.{learn_tests, learn_turn, learn_flight}
use Rattle.score.specs.Place.{place_of, desk_of, put_back}
use Rattle.desk.specs.Acts.{needs, does}
use Rattle.serial.specs.Serial.{Handed}
use Rattle.serial.proofs.Inv.{Ground, Nodes, Slots, Took, Transaction}
use Rattle.serial.proofs.Joins.{Entry, JoinsAt, away, here, with_entries}
use Rattle.serial.proofs.Views.{All, ground_of, links_of, nodes_of, same_counters, set_counters, set_tables, slots_of}
use Rattle.serial.proofs.Change.{aborted_one}
use Rattle.serial.proofs.Stages.{no_final}
use Rattle.serial.proofs.Entries.{commits_stay, is_counted, looks, pends_now, slot_kept, unpends}

module _ (first : ℕ → ℕ) (s : State) (H : List Handed) (a : All first s H) (x : Step) where
  abbrev n : ℕ
  n = x.node

  abbrev G : Ground
  G = ground_of s first

  abbrev C : Nodes
  C = nodes_of s

  abbrev S : Slots
  S = slots_of s

  module _ (ht : x.slot < 32) (hn : x.node < s.group.nodes) (low : 1 ≤ S.tag x.slot x.node) (high : S.tag x.slot x.node ≤ 3) where
    abbrev t : ℕ
    t = x.slot

    hn8 : n < 8
    hn8 = omega (arith, a.sizes.nodes_high)

    d : Transaction G C S t
    d = a.inv.deciding t ht

    look : (b k : ℕ) → k < word → (u m : ℕ) → u < 32 → m < 8 → Entry S (tag_at (entered s.flight t n b k)) (number_at (entered s.flight t n b k)) t n b k u m
    look b k l = looks first s H a t n b k ht hn8 l

    -- ---- an abort: the entry is dropped

    drops : S.stg t ≡ 6 → S.fin t ≡ 0 → All first (set_tables s (entered s.flight t n finished 0) s.chains s.writes s.reads) H
    drops e void = unpends first s H a t n finished 0 ht hn8 (omega arith) (λ l h. omega arith) (omega (arith, e)) void (aborted_one G C S' t void d.in_run d.values e below outside four)
      where
        S' : Slots
        S' = with_entries S (tag_at (entered s.flight t n finished 0)) (number_at (entered s.flight t n finished 0))

        below : (m : ℕ) → m < 8 → S'.tag t m ≤ 5
        below m hm = elim (look finished 0 (omega arith) t m ht hm) [ here i j z y ↦ omega arith | away i z y ↦ rw z (d.low m hm) ]

        outside : (m : ℕ) → m < 8 → s.group.nodes ≤ m → S'.tag t m ≡ 0
        outside m hm o = elim (look finished 0 (omega arith) t m ht hm) [ here i j z y ↦ absurd (omega arith) | away i z y ↦ z ∙ d.outside m hm o ]

        four : (m : ℕ) → m < 8 → S'.tag t m ≢ 4
        four m hm w = elim (look finished 0 (omega arith) t m ht hm) [ here i j z y ↦ absurd (omega arith) | away i z y ↦ absurd (omega (arith, d.learned m hm (sym z ∙ w))) ]

    -- ---- a commit: the entry takes the final number, and the counter rises to it
    learns : S.stg t ≡ 5 → All first (set_tables (set_counters s n (counted_to (counters_at s n) (S.fin t))) (entered s.flight t n to_apply (S.fin t)) s.chains s.writes s.reads) H
    learns e = pends_now first s H a t n 4 k ht hn8 lw q own_one
      where
        k : ℕ
        k = S.fin t

        positive : 0 < k
        positive = elim (ℕ_discrete (S.fin t) 0) [ yes y ↦ absurd (omega (arith, d.plain n hn8 e y)) | no y ↦ omega arith ]

        -- it voted yes here, with a number that is at most the final one
        yes₁ : S.tag t n ≡ 3
        yes₁ = omega (arith, d.voted n hn8 positive low)

        under : S.num t n ≤ k
        under = d.below n hn8 positive yes₁

        lw : k < word
        lw = omega (arith, a.inv.numbering.given t ht positive, a.inv.counting.fits (k % 8) (omega arith))

        C' : Nodes
        C' = nodes_of (set_counters s n (counted_to (counters_at s n) k))

        f : List ℕ
        f = entered s.flight t n to_apply k

        was : (3 ≤ S.tag t n) × (S.tag t n ≤ 4)
        was = (omega (arith, yes₁), omega (arith, yes₁))

        apart₁ : (u : ℕ) → u < 32 → u ≢ t → 3 ≤ S.tag u n → S.tag u n ≤ 4 → S.num u n ≢ k
        apart₁ u hu y l h w = elim (ℕ_discrete (S.tag u n) 3) [
          | yes o ↦ let r : k % 8 ≡ n = ap (◌% 8) (sym w) ∙ a.inv.numbering.own u n hu hn8 o in
              a.inv.numbering.once t u ht hu y positive (ap (S.tag u) r ∙ o) (ap (S.num u) r ∙ w)
          | no o ↦ let r = (a.inv.deciding u hu).learned n hn8 (omega arith) in a.inv.numbering.finals u t hu ht y r.0 positive (sym r.1 ∙ w)
        ]

        q : JoinsAt G C C' S (links_of s) t n 4 k
        q = record {
          slot_low = ht;
          node_low = hn8;
          pending = (omega arith, omega arith);
          before = λ y. omega (arith, yes₁);
          above = omega (arith, under, a.inv.counting.pending t n ht hn8 was.0 was.1);
          counted = is_counted first s H a t n 4 k ht hn8 lw;
          stays = commits_stay first s H a t n 4 k ht hn8 lw;
          own = λ y. absurd (omega arith);
          apart = apart₁;
          once = λ u hu y w o i. absurd (omega arith);
          alone = λ u i hu hi y l h o. (λ w. a.inv.locking.alone t u n i ht hu hn8 hi (λ v. y (sym v)) was.0 was.1 l h o w, λ w. a.inv.locking.alone u t n i hu ht hn8 hi y l h was.0 was.1 o w);
          room = λ i hi o w. a.inv.locking.room t n i ht hn8 hi was.0 was.1 o w;
          current = λ u i hu hi y o r w v j. a.inv.locking.current t u n i ht hu hn8 hi y was.0 was.1 o r w v j;
          over = λ i j v y w. omega (arith, under, y.later t ht was.0 was.1 w);
          ahead = λ h y w i j. omega (arith, under, took h w i j);
        }
          where
            took : (h : Handed) → Took S h → h.slot ≡ t → h.node ≡ n → h.s < S.num t n
            took h w i j = let r : (S.tag h.slot h.node ≡ S.tag t n) × (S.num h.slot h.node ≡ S.num t n) = rw (i, j) (refl, refl) in
                omega (arith, r.1, w.ahead (omega (arith, r.0, yes₁)) (omega (arith, r.0, yes₁)))

        own_one : Transaction G C' (with_entries S (tag_at f) (number_at f)) t
        own_one = record {
          low = λ m hm. elim (look 4 k lw t m ht hm) [ here i j y w ↦ omega arith | away i y w ↦ rw y (d.low m hm) ];
          outside = λ m hm o. elim (look 4 k lw t m ht hm) [ here i j y w ↦ absurd (omega arith) | away i y w ↦ y ∙ d.outside m hm o ];
          early = λ m hm y. absurd (omega (arith, e));
          plain = λ m hm y v. absurd (omega (arith, positive));
          voting = λ m hm y. absurd (omega (arith, e));
          voted = λ m hm v o. elim (look 4 k lw t m ht hm) [ here i j y w ↦ omega arith | away i y w ↦ rw y (d.voted m hm v (rw y at o)) ];
          below = λ m hm v o. elim (look 4 k lw t m ht hm) [ here i j y w ↦ absurd (omega arith) | away i y w ↦ rw w (d.below m hm v (sym y ∙ o)) ];
          learned = λ m hm o. elim (look 4 k lw t m ht hm) [ here i j y w ↦ (positive, w) | away i y w ↦ rw w (d.learned m hm (sym y ∙ o)) ];
          past = λ m hm v o. elim (look 4 k lw t m ht hm) [ here i j y w ↦ absurd (omega arith) | away i y w ↦ rw (q.stays m hm) (d.past m hm v (sym y ∙ o)) ];
          stage = d.stage;
          wrote = d.wrote;
          votes = λ y. absurd (omega (arith, e));
          in_run = d.in_run;
          values = d.values;
          sent = λ m i hm hi y. absurd (omega (arith, e));
          entered = λ m i hm hi v o r. elim (look 4 k lw t m ht hm) [ here i₁ j y w ↦ omega arith | away i₁ y w ↦ rw y (d.entered m i hm hi v o r) ];
        }

  pub learn_keeps : x.slot < 32 → x.node < s.group.nodes → place_of s x ≡ x.node → Passed (needs (desk_of s x) x learn) → All first (put_back s x (does (desk_of s x) x learn).desk) H
  unfolding needs does desk_of put_back learn_tests learn_turn learn_flight
  learn_keeps ht hn p o = by_test (in_stage (slot_at s x.slot) committed) commits aborts
    where
      r : (1 ≤ S.tag x.slot n) × (S.tag x.slot n ≤ 3)
      r = let w = and_true _ _ o.1.0 in (leb-true _ _ w.0, leb-true _ _ w.1)

      commits : in_stage (slot_at s x.slot) committed ≡ true → All first (put_back s x (does (desk_of s x) x learn).desk) H
      commits e = rw (e, learn_turn, learn_flight) (slot_kept first s H x.slot (place_of s x) _ _ s.chains (subst (λ (m : ℕ). All first (set_tables (set_counters s m (counted_to (counters_at s m) (S.fin x.slot))) (entered s.flight x.slot n to_apply (S.fin x.slot)) s.chains s.writes s.reads) H) (sym p) (learns ht hn r.0 r.1 (eqb-true _ _ e))))

      aborts : in_stage (slot_at s x.slot) committed ≡ false → All first (put_back s x (does (desk_of s x) x learn).desk) H
      aborts e = let z : S.stg x.slot ≡ 6 = eqb-true _ _ (rw e at o.0) in rw (e, learn_turn, learn_flight) (slot_kept first s H x.slot (place_of s x) _ _ s.chains (subst (λ (w : State). All first (set_tables w (entered s.flight x.slot n finished 0) s.chains s.writes s.reads) H) (sym (same_counters s (place_of s x))) (drops ht hn r.0 r.1 z (no_final (slot_at s x.slot).stage (λ w. omega (arith, z))))))
