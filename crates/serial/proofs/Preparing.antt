-- Rule C keeps what holds: a yes is a lock with a number of its own, a no leaves nothing pending.
-- Assumes nothing.
use mathlib.Core.Path.{◌≡◌, sym, ap, subst, ◌∙◌}
use mathlib.Core.Logic.{◌≢◌}
use mathlib.Core.Bool.{true}
use mathlib.Core.List.{List}
use Prim.Native.Nat.{ℕ, ◌+◌, ◌-◌, ◌≤◌, ◌<◌}
use native.Mathlib.Omega.{arith}
use native.Mathlib.Decide.{ℕ_discrete}
use borrow.Author.Tests.{eqb-true}
use Rattle.std.specs.Prelude.{Some, None, Option, Ok, Err}
use Rattle.tables.specs.Pair.{word}
use Rattle.tables.proofs.Tests.{Passed}
use Rattle.number.specs.Proposal.{IsProposal, number}
use Rattle.counters.specs.Counters.{counted_to}
use Rattle.kinds.specs.declared.Step.{Step}
use Rattle.kinds.specs.declared.Kind.TheVariants.{Prepare as prepare}
use Rattle.chain.specs.Chain.{len_at, latest}
use Rattle.chain.proofs.Laws.{size_in, latest_some}
use Rattle.group.specs.State.{State, holds, voted_no, voted_yes, tag_at, number_at, entered, snapshot_of, slot_at, counters_at}
use Rattle.vote.specs.declared.Reason.{Reason}
use Rattle.vote.specs.Vote.{prepare_tests, vote, prepare_turn, prepare_flight, Vote}
use Rattle.desk.specs.Desk.{turned, with_flight}
use Rattle.score.specs.Place.{place_of, desk_of, put_back}
use Rattle.desk.specs.Acts.{needs, does, vote_of}
use Rattle.serial.specs.Serial.{Handed}
use Rattle.vote.proofs.Reasons.{yes_alone, yes_room, yes_current, yes_number}
use Rattle.serial.proofs.Inv.{Ground, Into, Nodes, Slots, Transaction, Writes, into, writes}
use Rattle.serial.proofs.Joins.{Entry, JoinsAt, away, here, with_entries}
use Rattle.serial.proofs.Views.{All, fixed_at, ground_of, links_of, nodes_of, pends, same_counters, set_counters, set_tables, slots_of}
use Rattle.serial.proofs.Change.{any_counters, no_writer}
use Rattle.serial.proofs.Stages.{undecided}
use Rattle.serial.proofs.Entries.{commits_stay, is_counted, looks, pends_now, slot_kept, unpends}

module _ (first : ℕ → ℕ) (s : State) (H : List Handed) (a : All first s H) (x : Step) (ht : x.slot < 32) where
  abbrev t : ℕ
  t = x.slot

  abbrev G : Ground
  G = ground_of s first

  abbrev C : Nodes
  C = nodes_of s

  abbrev S : Slots
  S = slots_of s

  module _ (hn : x.node < s.group.nodes) (e : S.stg t ≡ 4) (g : S.tag t x.node ≡ 1) where
    abbrev n : ℕ
    n = x.node

    hn8 : n < 8
    hn8 = omega (arith, a.sizes.nodes_high)

    d : Transaction G C S t
    d = a.inv.deciding t ht

    undecided₁ : S.fin t ≡ 0
    undecided₁ = undecided first s H a x ht 4 e (λ z. omega arith)

    -- the entry of t at n, or another
    look : (b k : ℕ) → k < word → (u m : ℕ) → u < 32 → m < 8 → Entry S (tag_at (entered s.flight t n b k)) (number_at (entered s.flight t n b k)) t n b k u m
    look b k l = looks first s H a t n b k ht hn8 l

    -- ---- a no vote

    prepares_no : All first (set_tables s (entered s.flight t n voted_no 0) s.chains s.writes s.reads) H
    prepares_no = unpends first s H a t n voted_no 0 ht hn8 (omega arith) (λ l h. omega arith) (omega (arith, e)) undecided₁
        (no_writer G C S' t undecided₁ d.in_run d.values (λ m hm. omega (arith, low m hm)) outside (λ m hm z. omega (arith, low m hm))
        (λ m hm z. absurd (omega (arith, e))) (λ m hm z. absurd (omega (arith, e))) (λ m hm z. low m hm) (λ c hc z. absurd (omega (arith, e))) (λ z. again (d.votes e)) goes)
      where
        S' : Slots
        S' = with_entries S (tag_at (entered s.flight t n voted_no 0)) (number_at (entered s.flight t n voted_no 0))

        low : (m : ℕ) → m < 8 → S'.tag t m ≤ 3
        low m hm = elim (look voted_no 0 (omega arith) t m ht hm) [ here i j z y ↦ omega arith | away i z y ↦ rw z (d.voting m hm e) ]

        outside : (m : ℕ) → m < 8 → s.group.nodes ≤ m → S'.tag t m ≡ 0
        outside m hm o = elim (look voted_no 0 (omega arith) t m ht hm) [ here i j z y ↦ absurd (omega arith) | away i z y ↦ z ∙ d.outside m hm o ]

        again : Writes G S t → Writes G S' t
        again (writes c hc l w) = writes c hc l w

        goes : (m c : ℕ) → m < 8 → c < 32 → S'.stg t ≡ 4 → holds s.group.masks m c ≡ true → 0 < S'.rd t c + S'.wr t c → 1 ≤ S'.tag t m
        goes m c hm hc z o w = elim (look voted_no 0 (omega arith) t m ht hm) [ here i j y b ↦ omega arith | away i y b ↦ rw y (d.sent m c hm hc e o w) ]

    -- ---- a yes vote

    abbrev Voted : ℕ → Type 0
    Voted k = vote (slot_at s t) (counters_at s n) s.group.cells s.group.masks s.flight s.chains s.writes s.reads t n ≡ Ok k

    prepares_yes : (k : ℕ) → Voted k → IsProposal n (counters_at s n).counter (Some k)
        → All first (set_tables (set_counters s n (counted_to (counters_at s n) k)) (entered s.flight t n voted_yes k) s.chains s.writes s.reads) H
    prepares_yes k v (number above own small least) = pends_now first s H a t n 3 k ht hn8 lw q own_one
      where
        lw : k < word
        lw = omega arith

        C' : Nodes
        C' = nodes_of (set_counters s n (counted_to (counters_at s n) k))

        f : List ℕ
        f = entered s.flight t n voted_yes k

        -- where n holds a cell, it is a cell of the run
        cell : (i : ℕ) → i < 32 → holds s.group.masks n i ≡ true → i < s.group.cells
        cell i hi o = (a.sizes.in_run_lem n i hn8 hi o).1

        q : JoinsAt G C C' S (links_of s) t n 3 k
        q = record {
          slot_low = ht;
          node_low = hn8;
          pending = (omega arith, omega arith);
          before = λ y. omega (arith, g);
          above = omega (arith, any_counters first s H a n);
          counted = is_counted first s H a t n 3 k ht hn8 lw;
          stays = commits_stay first s H a t n 3 k ht hn8 lw;
          own = λ y. own;
          apart = λ u hu y l h o. omega (arith, a.inv.counting.pending u n hu hn8 l h);
          once = λ u hu y w o i v. omega (arith, a.inv.numbering.given u hu w, ap C.cnt o);
          alone = λ u i hu hi y l h o. yes_alone (slot_at s t) (counters_at s n) s.group.cells s.group.masks s.flight s.chains s.writes s.reads t n k v u i hu y (pends s.flight u n l h) (cell i hi o) o;
          room = λ i hi o w. yes_room (slot_at s t) (counters_at s n) s.group.cells s.group.masks s.flight s.chains s.writes s.reads t n k v i (cell i hi o) o w;
          current = current₁;
          over = λ i j v y w. omega (arith, y.counted);
          ahead = λ h y w i j. omega (arith, y.counted, ap C.cnt j);
        }
          where
            current₁ : (u i : ℕ) → u < 32 → i < 32 → u ≢ t → holds s.group.masks n i ≡ true → 0 < S.rd t i → 0 < S.fin u → 0 < S.wr u i → S.tag u n ≡ 5 → S.fin u < S.snap t
            current₁ u i hu hi y o r w w' j = within (slot_at s t).snapshot (in_chain (a.inv.chaining.kept n i u hn8 hi hu o w w' j)) w
              where
                some₁ : (1 ≤ len_at s.chains.lens i n) × (len_at s.chains.lens i n ≤ 8)
                some₁ = a.inv.chaining.some n i hn8 hi o

                newest₁ : latest s.chains.lens s.chains.versions i n ≡ (links_of s).vnum i n (len_at s.chains.lens i n - 1)
                newest₁ = latest_some _ _ _ _ (λ d₁. omega (arith, some₁, size_in s.chains.lens i n some₁.1)) ∙ ap (λ (m : ℕ). (links_of s).vnum i n (m - 1)) (size_in s.chains.lens i n some₁.1)

                in_chain : Into (links_of s) n i (S.fin u) (S.wr u i) → S.fin u ≤ snapshot_of (slot_at s t).snapshot
                in_chain (into m pos l₁ eq₁ w₁) = let bound = yes_current (slot_at s t) (counters_at s n) s.group.cells s.group.masks s.flight s.chains s.writes s.reads t n k v i (cell i hi o) o r in
                    elim (ℕ_discrete m (len_at s.chains.lens i n - 1)) [
                      | yes d₁ ↦ omega (arith, bound, newest₁, ap ((links_of s).vnum i n) d₁)
                      | no d₁ ↦ omega (arith, bound, newest₁, a.inv.chaining.up n i m (len_at s.chains.lens i n - 1) hn8 hi o (omega arith) (omega (arith, some₁)))
                    ]

                within : (b₁ : Option ℕ) → S.fin u ≤ snapshot_of b₁ → 0 < S.fin u → S.fin u < fixed_at b₁
                within None l₁ pos = absurd (omega arith)
                within (Some v₁) l₁ pos = omega arith

        own_one : Transaction G C' (with_entries S (tag_at f) (number_at f)) t
        own_one = record {
          low = λ m hm. elim (look 3 k lw t m ht hm) [ here i j y w ↦ omega arith | away i y w ↦ rw y (d.low m hm) ];
          outside = λ m hm o. elim (look 3 k lw t m ht hm) [ here i j y w ↦ absurd (omega arith) | away i y w ↦ y ∙ d.outside m hm o ];
          early = λ m hm y. absurd (omega (arith, e));
          plain = λ m hm y. absurd (omega (arith, e));
          voting = λ m hm v. elim (look 3 k lw t m ht hm) [ here i j y w ↦ omega arith | away i y w ↦ rw y (d.voting m hm e) ];
          voted = λ m hm y. absurd (omega (arith, undecided₁));
          below = λ m hm y. absurd (omega (arith, undecided₁));
          learned = λ m hm v. elim (look 3 k lw t m ht hm) [ here i j y w ↦ absurd (omega arith) | away i y w ↦ rw w (d.learned m hm (sym y ∙ v)) ];
          past = λ m hm y. absurd (omega (arith, undecided₁));
          stage = d.stage;
          wrote = d.wrote;
          votes = λ y. again (d.votes y);
          in_run = d.in_run;
          values = d.values;
          sent = λ m i hm hi v o r. elim (look 3 k lw t m ht hm) [ here i₁ j y w ↦ omega arith | away i₁ y w ↦ rw y (d.sent m i hm hi v o r) ];
          entered = λ m i hm hi y. absurd (omega (arith, undecided₁));
        }
          where
            again : Writes G S t → Writes G (with_entries S (tag_at f) (number_at f)) t
            again (writes i hi l w) = writes i hi l w

    says_no : (i : Reason) → All first (put_back s x (turned (with_flight (desk_of s x) (prepare_flight s.flight t n (Err i))) (prepare_turn (slot_at s t) (counters_at s (place_of s x)) (Err i))).desk) H
    unfolding desk_of put_back
    says_no i = slot_kept first s H t (place_of s x) (counters_at s (place_of s x)) (entered s.flight t n voted_no 0) s.chains
        (subst (λ (z : State). All first (set_tables z (entered s.flight t n voted_no 0) s.chains s.writes s.reads) H) (sym (same_counters s (place_of s x))) prepares_no)

    says_yes : (k : ℕ) → place_of s x ≡ n → Voted k
        → All first (put_back s x (turned (with_flight (desk_of s x) (prepare_flight s.flight t n (Ok k))) (prepare_turn (slot_at s t) (counters_at s (place_of s x)) (Ok k))).desk) H
    unfolding desk_of put_back
    says_yes k p v = slot_kept first s H t (place_of s x) (counted_to (counters_at s (place_of s x)) k) (entered s.flight t n voted_yes k) s.chains
        (subst (λ (m : ℕ). All first (set_tables (set_counters s m (counted_to (counters_at s m) k)) (entered s.flight t n voted_yes k) s.chains s.writes s.reads) H) (sym p)
        (prepares_yes k v (yes_number (slot_at s t) (counters_at s n) s.group.cells s.group.masks s.flight s.chains s.writes s.reads t n k v)))

    votes_either : place_of s x ≡ n → (v : Vote) → vote (slot_at s t) (counters_at s n) s.group.cells s.group.masks s.flight s.chains s.writes s.reads t n ≡ v
        → All first (put_back s x (turned (with_flight (desk_of s x) (prepare_flight s.flight t n v)) (prepare_turn (slot_at s t) (counters_at s (place_of s x)) v)).desk) H
    votes_either p (Err i) v = says_no i
    votes_either p (Ok k) v = says_yes k p v

  pub prepare_keeps : x.node < s.group.nodes → place_of s x ≡ x.node → Passed (needs (desk_of s x) x prepare) → All first (put_back s x (does (desk_of s x) x prepare).desk) H
  unfolding needs does desk_of prepare_tests
  prepare_keeps hn p o = votes_either hn (eqb-true _ _ o.0) (eqb-true _ _ o.1.0) p (vote_of (desk_of s x) x) (ap (λ (m : ℕ). vote (slot_at s t) (counters_at s m) s.group.cells s.group.masks s.flight s.chains s.writes s.reads t x.node) (sym p))
