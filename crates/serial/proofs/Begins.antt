-- What holds of a fresh run.
-- Assumes nothing.
use mathlib.Core.Path.{◌≡◌, ap, ◌∙◌}
use mathlib.Core.Bool.{true, false, cond}
use mathlib.Core.List.Memᴰ
use mathlib.Core.List.{List, []}
use Prim.Native.Nat.{ℕ, zero, suc, ◌/◌, ◌%◌, ◌^◌, ◌≤◌, ◌<◌}
use native.Mathlib.Nat.{div-eq_of_lt, div-eq_of_lt-le, mod-eq_of_lt}
use native.Mathlib.Omega.{arith}
use lib.Dec.{ltb, eqb}
use lib.ListN.{replicate, length-replicate, length-map, get_or-map}
use lib.Pow.{pow_mono}
use borrow.Author.Tests.{ltb-true, ltb-false}
use Rattle.tables.specs.Table.{at}
use Rattle.tables.specs.Pair.{pair, word}
use Rattle.tables.proofs.Choice.{by_test, not_both}
use Rattle.tables.proofs.Table.{at_all}
use Rattle.tables.proofs.Pair.{pair_high, pair_low}
use Rattle.tables.proofs.Loop.{each_size, each_hit}
use Rattle.counters.specs.Counters.{zeroed}
use Rattle.chain.specs.Chain.{len_at, version_at}
use Rattle.chain.proofs.Laws.{len_in}
use Rattle.group.specs.declared.Slot.{Slot}
use Rattle.group.specs.State.{State, holds, stage_number, note_of, final_of, no_slot, slot_at, counters_at}
use Rattle.fresh.specs.Fresh.{fresh_lens, fresh_versions, fresh}
use Rattle.serial.specs.Serial.{Sound}
use Rattle.serial.proofs.Inv.{Chaining}
use Rattle.serial.proofs.Views.{fixed_at, ground_of, nodes_of, slots_of, links_of, Sizes, All}
use Rattle.serial.proofs.Change.{early_one, no_read}
use Rattle.serial.proofs.Shape.{Shape}

-- ---- masks

-- a mask of nodes below k names no node from k on
none_above : (k m n : ℕ) → m < 2 ^ k → k ≤ n → eqb (m / 2 ^ n % 2) 1 ≡ false
none_above k m n l h = let e : m / 2 ^ n ≡ 0 = div-eq_of_lt (below (pow_mono h)) in rw e
  where
    below : 2 ^ k ≤ 2 ^ n → m < 2 ^ n
    below b = omega arith

-- and, if it isn't 0, names one
names_one : (k m : ℕ) → 0 < m → m < 2 ^ k → (n : ℕ) × (n < k) × (eqb (m / 2 ^ n % 2) 1 ≡ true)
names_one zero m p l = absurd (omega arith)
names_one (suc k) m p l = by_test (ltb m (2 ^ k)) (λ e. let r = names_one k m p (ltb-true _ _ e) in (r.0, omega (arith, r.1), r.2))
    (λ e. let d : m / 2 ^ k ≡ 1 = div-eq_of_lt-le (2 ^ k) (omega (arith, ltb-false m (2 ^ k) e)) (omega arith) in (k, omega arith, rw d))

-- ---- the chains

fresh_len : (masks : List ℕ) (c n : ℕ) → c < 32 → n < 8 → holds masks n c ≡ true → len_at (fresh_lens masks) c n ≡ 1
unfolding fresh_lens
fresh_len masks c n hc hn o = len_in _ c n hc hn ∙ each_hit 0 (λ i. i) (λ i e. cond (holds masks (i % 8) (i / 8)) 1 0) (replicate 256 0) 256 (pair 8 c n) (omega arith) (omega (arith, length-replicate {A = ℕ} 256 0)) (λ i j l h z. omega arith)
    ∙ rw (pair_low 8 c n hn, pair_high 8 c n hn, o)

fresh_version : (values : List ℕ) (c n : ℕ) → c < 32 → n < 8 → at values c 0 < word → ((version_at (fresh_versions values) c n 0).number ≡ 0) × ((version_at (fresh_versions values) c n 0).value ≡ at values c 0)
unfolding fresh_versions version_at
fresh_version values c n hc hn l = let e : at (fresh_versions values) (pair 8 (pair 8 c n) 0) 0 ≡ at values c 0 =
    each_hit 0 (λ i. pair 8 i 0) (λ i z. at values (i / 8) 0) (replicate 2048 0) 256 (pair 8 c n) (omega arith) (omega (arith, length-replicate {A = ℕ} 2048 0)) (λ i j b h z. omega arith) ∙ ap (λ (i : ℕ). at values i 0) (pair_high 8 c n hn) in
    (ap (◌/ word) e ∙ div-eq_of_lt l, ap (◌% word) e ∙ mod-eq_of_lt l)

module _ (nodes cells : ℕ) (counters masks values : List ℕ) (q : Sound nodes cells counters masks values) where
  abbrev s : State
  s = fresh nodes cells counters masks values

  abbrev first : ℕ → ℕ
  first c = at values c 0

  zeros : (k i : ℕ) → i < k → at {A = ℕ} (replicate k 0) i 0 ≡ 0
  zeros k i h = at_all k i 0 0 h

  slot₀ : (t : ℕ) → t < 32 → slot_at s t ≡ no_slot
  unfolding fresh
  slot₀ t h = at_all 32 t no_slot no_slot h

  counters₀ : (n : ℕ) → counters_at s n ≡ zeroed (at counters n 0)
  unfolding fresh at
  counters₀ n = get_or-map zeroed counters n 0

  tag₀ : (t n : ℕ) → t < 32 → n < 8 → (slots_of s).tag t n ≡ 0
  unfolding fresh
  tag₀ t n ht hn = ap (◌/ word) (zeros 256 (pair 8 t n) (omega arith))

  wr₀ : (t c : ℕ) → t < 32 → c < 32 → (slots_of s).wr t c ≡ 0
  unfolding fresh
  wr₀ t c ht hc = zeros 1024 (pair 32 t c) (omega arith)

  stg₀ : (t : ℕ) → t < 32 → (slots_of s).stg t ≡ 0
  stg₀ t h = ap (λ (y : Slot). stage_number y.stage) (slot₀ t h)

  fin₀ : (t : ℕ) → t < 32 → (slots_of s).fin t ≡ 0
  fin₀ t h = ap (λ (y : Slot). final_of y.stage) (slot₀ t h)

  snap₀ : (t : ℕ) → t < 32 → (slots_of s).snap t ≡ 0
  snap₀ t h = ap (λ (y : Slot). fixed_at y.snapshot) (slot₀ t h)

  sizes₀ : Sizes s
  unfolding fresh fresh_lens fresh_versions
  sizes₀ = record {
    counters8 = length-map counters zeroed ∙ q.lengths.0;
    slots32 = length-replicate 32 no_slot;
    flight256 = length-replicate {A = ℕ} 256 0;
    lens256 = each_size 0 _ _ (replicate 256 0) 256 ∙ length-replicate {A = ℕ} 256 0;
    versions2048 = each_size 0 _ _ (replicate 2048 0) 256 ∙ length-replicate {A = ℕ} 2048 0;
    writes1024 = length-replicate {A = ℕ} 1024 0;
    reads1024 = length-replicate {A = ℕ} 1024 0;
    nodes_high = q.nodes_in.1;
    cells_high = q.cells_in.1;
    in_run_lem = in_run_lem;
    held = λ c h. let r = q.masks_in c h in names_one nodes (at masks c 0) r.0 r.1;
  }
    where
      in_run_lem : (n c : ℕ) → n < 8 → c < 32 → holds masks n c ≡ true → (n < nodes) × (c < cells)
      in_run_lem n c hn hc o = let hc' : c < cells = by_test (ltb c cells) (λ e. ltb-true _ _ e) (λ e. absurd (not_both o (out e))) in
          (by_test (ltb n nodes) (λ e. ltb-true _ _ e) (λ e. absurd (not_both o (none_above nodes (at masks c 0) n (q.masks_in c hc').1 (ltb-false _ _ e)))), hc')
        where
          out : ltb c cells ≡ false → holds masks n c ≡ false
          out e = let z : at masks c 0 ≡ 0 = q.masks_out c (ltb-false _ _ e) in ap (λ (m : ℕ). eqb (m / 2 ^ n % 2) 1) z ∙ none_above 0 0 n (omega arith) (omega arith)

  chaining₀ : Chaining (ground_of s first) (nodes_of s) (slots_of s) (links_of s)
  unfolding fresh
  chaining₀ = record {
    some = λ n c hn hc o. omega (arith, fresh_len masks c n hc hn o);
    zero = λ n c hn hc o. fresh_version values c n hc hn (q.values_fit c);
    up = λ n c i j hn hc o l h. absurd (omega (arith, fresh_len masks c n hc hn o));
    under = λ n c i hn hc o l. let z : i ≡ 0 = omega (arith, fresh_len masks c n hc hn o) in rw z (omega (arith, fresh_version values c n hc hn (q.values_fit c)));
    made = λ n c i hn hc o l h. absurd (omega (arith, fresh_len masks c n hc hn o));
    kept = λ n c t hn hc ht o l. absurd (omega (arith, fin₀ t ht));
  }

  pub fresh_holds : All first s []
  fresh_holds = record {
    sizes = sizes₀;
    inv = record {
      counting = record {
        fits = λ n hn. rw (counters₀ n) (q.counters_fit n);
        commit = λ n hn. rw (counters₀ n) (omega arith);
        seen = λ n hn. rw (counters₀ n) (omega arith);
        pending = λ t n ht hn l. absurd (omega (arith, tag₀ t n ht hn));
      };
      numbering = record {
        own = λ t n ht hn e. absurd (omega (arith, tag₀ t n ht hn));
        apart = λ t u n ht hu hn d l. absurd (omega (arith, tag₀ t n ht hn));
        given = λ t ht l. absurd (omega (arith, fin₀ t ht));
        once = λ t u ht hu d l. absurd (omega (arith, fin₀ t ht));
        finals = λ t u ht hu d l. absurd (omega (arith, fin₀ t ht));
      };
      deciding = λ t ht. early_one _ _ (slots_of s) t (fin₀ t ht) (λ c hc l w. absurd (omega (arith, wr₀ t c ht hc))) (λ c hc. omega (arith, wr₀ t c ht hc)) (omega (arith, stg₀ t ht)) (λ n hn. tag₀ t n ht hn);
      locking = record {
        alone = λ t u n c ht hu hn hc d l. absurd (omega (arith, tag₀ t n ht hn));
        room = λ t n c ht hn hc l. absurd (omega (arith, tag₀ t n ht hn));
        current = λ t u n c ht hu hn hc d l. absurd (omega (arith, tag₀ t n ht hn));
        valid = λ t u n c ht hu hn hc d l. absurd (omega (arith, fin₀ t ht));
      };
      chaining = chaining₀;
      reading = λ t ht. no_read _ _ (slots_of s) t _ _ (λ z. omega (arith, stg₀ t ht)) (λ z. omega (arith, stg₀ t ht)) (λ z. snap₀ t ht) (omega (arith, snap₀ t ht));
      handing = record { given = λ h m. absurd (Memᴰ.not-nil m); took = λ h m. absurd (Memᴰ.not-nil m) };
    };
  }

  rd₀ : (t c : ℕ) → t < 32 → c < 32 → (slots_of s).rd t c ≡ 0
  unfolding fresh
  rd₀ t c ht hc = zeros 1024 (pair 32 t c) (omega arith)

  num₀ : (t n : ℕ) → t < 32 → n < 8 → (slots_of s).num t n ≡ 0
  unfolding fresh
  num₀ t n ht hn = ap (◌% word) (zeros 256 (pair 8 t n) (omega arith))

  pub fresh_shape : Shape s
  unfolding fresh
  fresh_shape = record {
    nodes_low = q.nodes_in.0;
    cells_low = q.cells_in.0;
    masks = q.masks_in;
    slots = λ t ht. record {
      early = λ n hn l. num₀ t n ht hn;
      late = λ n hn e. num₀ t n ht hn;
      reads = λ c hc. omega (arith, rd₀ t c ht hc);
      origin = λ l. absurd (omega (arith, stg₀ t ht));
      updates = λ c hc l w. absurd (omega (arith, wr₀ t c ht hc));
      fixed = λ c hc l w. absurd (omega (arith, rd₀ t c ht hc));
      spread = λ n hn l. absurd (omega (arith, tag₀ t n ht hn));
      aborted = λ e. absurd (omega (arith, stg₀ t ht));
      author = λ l. absurd (omega (arith, fin₀ t ht));
      small = omega (arith, ap (λ (y : Slot). (note_of y.stage).value) (slot₀ t ht));
    };
  }
