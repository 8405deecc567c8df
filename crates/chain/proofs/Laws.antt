-- Laws of chains: for code, and for whoever reasons about a chain that was looked up or added to.
-- Assumes nothing.
use mathlib.Core.Path.{◌≡◌, refl, ap, ◌∙◌}
use mathlib.Core.Logic.{◌≢◌}
use mathlib.Core.Bool.{Bool, cond, ◌&&◌}
use mathlib.Core.List.{List}
use Rattle.std.specs.Prelude.{Option, None, Some, option_map}
use Prim.Native.Nat.{ℕ, ◌+◌, ◌-◌, ◌≤◌, ◌<◌}
use native.Mathlib.Omega.{arith}
use lib.Dec.{ltb, leb}
use lib.ListN.{length}
use borrow.Author.Tests.{ltb-true, leb-true, leb-false, lt-ltb, le-ltb, le-leb, lt-leb, eq-eqb, ne_eqb}
use Rattle.tables.specs.Table.{at, put}
use Rattle.tables.specs.Pair.{pair, word}
use Rattle.tables.specs.Loop.{last_at}
use Rattle.tables.proofs.Choice.{by_test, and_true}
use Rattle.tables.proofs.Table.{put_size, put_same, put_other}
use Rattle.tables.proofs.Pair.{pair_high, pair_low}
use Rattle.tables.proofs.Loop.{last_at_none, last_at_next, Last, no_last, last, last_is}
use Rattle.chain.specs.Chain.{len_at, size, version_at, newest, latest, has_room, chains, added, unpacked}
use Rattle.chain.specs.declared.Version.{Version}
use Rattle.chain.specs.declared.Chains.{Chains}

module _ (lens : List ℕ) (c n : ℕ) where
  pub len_in : c < 32 → n < 8 → len_at lens c n ≡ at lens (pair 8 c n) 0
  unfolding len_at
  len_in hc hn = rw (lt-ltb c 32 hc, lt-ltb n 8 hn)

  -- what has a length is a chain
  pub len_chain : len_at lens c n ≤ 8 → (c < 32) × (n < 8)
  unfolding len_at
  len_chain h = by_test (ltb c 32 && ltb n 8) (λ e. let r = and_true (ltb c 32) (ltb n 8) e in (ltb-true c 32 r.0, ltb-true n 8 r.1))
      (λ e. let l : 9 ≤ 8 = rw e at h in absurd (omega arith))

  pub size_in : len_at lens c n ≤ 8 → size lens c n ≡ len_at lens c n
  unfolding size
  size_in h = rw (le-leb (len_at lens c n) 8 h)

  pub size_out : 8 < len_at lens c n → size lens c n ≡ 0
  unfolding size
  size_out h = rw (lt-leb (len_at lens c n) 8 h)

  pub size_low : size lens c n ≤ 8
  size_low = by_test (leb (len_at lens c n) 8) (λ e. omega (arith, leb-true, size_in (leb-true _ _ e))) (λ e. omega (arith, size_out (leb-false _ _ e)))

  -- what has a version is a chain
  pub size_chain : 0 < size lens c n → (c < 32) × (n < 8)
  size_chain h = by_test (leb (len_at lens c n) 8) (λ e. len_chain (leb-true _ _ e)) (λ e. absurd (omega (arith, size_out (leb-false _ _ e))))

-- ---- the lookup, newest first

-- what the k oldest versions hold
unfoldable pub newest_of : List ℕ → ℕ → ℕ → ℕ → ℕ → Option Version
newest_of versions c n s k = option_map (version_at versions c n) (last_at k (λ i. leb (version_at versions c n i).number s))

pub newest_all : (lens versions : List ℕ) (c n s : ℕ) → newest lens versions c n s ≡ newest_of versions c n s (size lens c n)
unfolding newest newest_of
newest_all lens versions c n s = refl

module _ (versions : List ℕ) (c n s : ℕ) where
  pub newest_none : newest_of versions c n s 0 ≡ None
  unfolding newest_of
  newest_none = rw last_at_none

  pub newest_here : (k : ℕ) → 0 < k → (version_at versions c n (k - 1)).number ≤ s → newest_of versions c n s k ≡ Some (version_at versions c n (k - 1))
  unfolding newest_of
  newest_here k h l =
      let e : k ≡ k - 1 + 1 = omega arith in
      ap (λ (j : ℕ). newest_of versions c n s j) e ∙ rw (last_at_next, le-leb _ _ l)

  pub newest_older : (k : ℕ) → 0 < k → s < (version_at versions c n (k - 1)).number → newest_of versions c n s k ≡ newest_of versions c n s (k - 1)
  unfolding newest_of
  newest_older k h l =
      let e : k ≡ k - 1 + 1 = omega arith in
      ap (λ (j : ℕ). newest_of versions c n s j) e ∙ rw (last_at_next, lt-leb _ _ l)

-- which version is meant, however it is looked for
pub data Newest (lens versions : List ℕ) (c n s : ℕ) : Option Version → Type 0 where
  no_version : ((i : ℕ) → i < size lens c n → s < (version_at versions c n i).number) → Newest lens versions c n s None
  version :
      (i : ℕ) → i < size lens c n → (version_at versions c n i).number ≤ s
      → ((j : ℕ) → i < j → j < size lens c n → s < (version_at versions c n j).number) → Newest lens versions c n s (Some (version_at versions c n i))

pub newest_is : (lens versions : List ℕ) (c n s : ℕ) → Newest lens versions c n s (newest lens versions c n s)
unfolding newest
newest_is lens versions c n s = go (last_at (size lens c n) low) (last_is (size lens c n) low)
  where
    low : ℕ → Bool
    low i = leb (version_at versions c n i).number s

    go : (r : Option ℕ) → Last (size lens c n) low r → Newest lens versions c n s (option_map (version_at versions c n) r)
    go None (no_last f) = no_version (λ i h. leb-false _ _ (f i h))
    go (Some i) (last h e f) = version i h (leb-true _ _ e) (λ j a b. leb-false _ _ (f j a b))

-- ---- the newest number

module _ (lens versions : List ℕ) (c n : ℕ) where
  pub latest_none : size lens c n ≡ 0 → latest lens versions c n ≡ 0
  unfolding latest
  latest_none e = rw (eq-eqb _ _ e)

  pub latest_some : (size lens c n ≡ 0 → ⊥) → latest lens versions c n ≡ (version_at versions c n (size lens c n - 1)).number
  unfolding latest
  latest_some h = rw (ne_eqb _ _ h)

-- ---- a version added

module _ (h : Chains) (c n number value : ℕ) where
  pub added_no_room : 8 ≤ len_at h.lens c n → added h c n number value ≡ h
  unfolding added has_room
  added_no_room l = rw (le-ltb _ _ l)

  pub added_room :
      len_at h.lens c n < 8
      → added h c n number value
      ≡ chains (put h.lens (pair 8 c n) (len_at h.lens c n + 1)) (put h.versions (pair 8 (pair 8 c n) (len_at h.lens c n)) (pair word number value))
  unfolding added has_room
  added_room l = rw (lt-ltb _ _ l)

-- ---- chains after a version was added, in tables of their sizes

module _ (h : Chains) (c n number value : ℕ) (ls : length h.lens ≡ 256) (vs : length h.versions ≡ 2048) (r : len_at h.lens c n < 8) where
  abbrev new : Chains
  new = added h c n number value

  pub added_lens : length new.lens ≡ 256
  added_lens = rw (added_room h c n number value r) (put_size _ _ _ ∙ ls)

  pub added_versions : length new.versions ≡ 2048
  added_versions = rw (added_room h c n number value r) (put_size _ _ _ ∙ vs)

  pub added_len : len_at new.lens c n ≡ len_at h.lens c n + 1
  added_len = let k = len_chain h.lens c n (omega arith) in
      len_in _ c n k.0 k.1 ∙ rw (added_room h c n number value r) (put_same _ _ _ 0 (omega arith))

  pub added_len_other : (d m : ℕ) → pair 8 d m ≢ pair 8 c n → len_at new.lens d m ≡ len_at h.lens d m
  unfolding len_at
  added_len_other d m e = ap (λ (x : ℕ). cond (ltb d 32 && ltb m 8) x 9) (rw (added_room h c n number value r) (put_other _ _ _ _ 0 e))

  pub added_version : value < word → version_at new.versions c n (len_at h.lens c n) ≡ record { number = number; value = value }
  unfolding version_at
  added_version v = let k = len_chain h.lens c n (omega arith) in
      ap unpacked (rw (added_room h c n number value r) (put_same _ _ _ 0 (omega arith)))
      ∙ (λ j. record { number = pair_high word number value v j; value = pair_low word number value v j })

  pub added_version_other :
      (d m i : ℕ) → pair 8 (pair 8 d m) i ≢ pair 8 (pair 8 c n) (len_at h.lens c n)
      → version_at new.versions d m i ≡ version_at h.versions d m i
  unfolding version_at
  added_version_other d m i e = ap unpacked (rw (added_room h c n number value r) (put_other _ _ _ _ 0 e))
