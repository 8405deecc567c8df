-- The chains after an apply: one version more for each cell that was written and is held here, and nothing else.
-- Assumes nothing.
use mathlib.Core.Path.{◌≡◌, refl, sym, ap, ◌∙◌}
use mathlib.Core.Logic.{◌≢◌}
use mathlib.Core.Bool.{Bool, true, false, cond, ◌&&◌}
use mathlib.Core.List.{List}
use Prim.Native.Nat.{ℕ, zero, suc, ◌-◌, ◌≤◌, ◌<◌}
use native.Mathlib.Numerals.{add-one}
use native.Mathlib.Omega.{arith}
use native.Mathlib.Decide.{ℕ_discrete}
use lib.ListN.{length}
use Rattle.tables.specs.Pair.{pair, word}
use Rattle.tables.specs.Loop.{turns}
use Rattle.tables.proofs.Choice.{by_test, not_both, and_true}
use Rattle.tables.proofs.Pair.{pair_inj}
use Rattle.chain.specs.declared.Chains.{Chains}
use Rattle.chain.specs.Chain.{len_at, version_at, added}
use Rattle.chain.proofs.Laws.{added_lens, added_versions, added_len, added_len_other, added_version, added_version_other}
use Rattle.group.specs.State.{holds, noted, has}
use Rattle.settle.specs.Settle.{stored}

-- one chain before and after: as it was, or with one version more
pub data Piece (h h' : Chains) (c m k v : ℕ) : Bool → Type 0 where
  asis : len_at h'.lens c m ≡ len_at h.lens c m → ((i : ℕ) → i < len_at h.lens c m → version_at h'.versions c m i ≡ version_at h.versions c m i) → Piece h h' c m k v false
  more :
      len_at h'.lens c m ≡ suc (len_at h.lens c m) → version_at h'.versions c m (len_at h.lens c m) ≡ record { number = k; value = v }
      → ((i : ℕ) → i < len_at h.lens c m → version_at h'.versions c m i ≡ version_at h.versions c m i) → Piece h h' c m k v true

module _ (masks writes : List ℕ) (t n k : ℕ) (h : Chains) (ls : length h.lens ≡ 256) (vs : length h.versions ≡ 2048) (hn : n < 8)
    (room : (c : ℕ) → c < 32 → holds masks n c ≡ true → has writes t c ≡ true → len_at h.lens c n ≤ 7) (fits : (c : ℕ) → c < 32 → noted writes t c - 1 < word) where
  -- is a version added to the chain of cell c
  abbrev adds : ℕ → Bool
  adds c = holds masks n c && has writes t c

  abbrev turn : ℕ → Chains → Chains
  turn c z = cond (adds c) (added z c n k (noted writes t c - 1)) z

  -- the versions of the cells below j are added, nothing else is
  pub record UpTo (j : ℕ) (z : Chains) : Type 0 where
    pub lens256 : length z.lens ≡ 256
    pub versions2048 : length z.versions ≡ 2048
    pub here : (c : ℕ) → c < 32 → c < j → len_at h.lens c n ≤ 8 → Piece h z c n k (noted writes t c - 1) (adds c)
    pub away : (c m : ℕ) → c < 32 → m < 8 → len_at h.lens c m ≤ 8 → (m ≡ n → j ≤ c) → Piece h z c m k 0 false

  -- where a version is added there was room
  roomy : (c : ℕ) → c < 32 → adds c ≡ true → len_at h.lens c n < 8
  roomy c hc e = let r = and_true (holds masks n c) (has writes t c) e in omega (arith, room c hc r.0 r.1)

  module _ (j : ℕ) (z : Chains) (hj : j < 32) (e : adds j ≡ true) (q : UpTo j z) where
    abbrev v : ℕ
    v = noted writes t j - 1

    abbrev z' : Chains
    z' = added z j n k v

    -- the chain of cell j is still as it was
    was : Piece h z j n k 0 false
    was = q.away j n hj hn (omega (arith, roomy j hj e)) (λ d. omega arith)

    len_was : len_at z.lens j n ≡ len_at h.lens j n
    len_was = go was
      where
        go : Piece h z j n k 0 false → len_at z.lens j n ≡ len_at h.lens j n
        go (asis l f) = l

    old_was : (i : ℕ) → i < len_at h.lens j n → version_at z.versions j n i ≡ version_at h.versions j n i
    old_was = go was
      where
        go : Piece h z j n k 0 false → (i : ℕ) → i < len_at h.lens j n → version_at z.versions j n i ≡ version_at h.versions j n i
        go (asis l f) i b = f i b

    r : len_at z.lens j n < 8
    r = omega (arith, len_was, roomy j hj e)

    -- another chain, or another version of this one
    other_version : (c m i : ℕ) → m < 8 → i < 8 → (pair 8 (pair 8 c m) i ≡ pair 8 (pair 8 j n) (len_at z.lens j n) → ⊥) → version_at z'.versions c m i ≡ version_at z.versions c m i
    other_version c m i hm hi d = added_version_other z j n k v q.lens256 q.versions2048 r c m i d

    other_chain : (c m i : ℕ) → m < 8 → i < 8 → pair 8 c m ≢ pair 8 j n → version_at z'.versions c m i ≡ version_at z.versions c m i
    other_chain c m i hm hi d = other_version c m i hm hi (λ y. d (pair_inj 8 (pair 8 c m) i (pair 8 j n) (len_at z.lens j n) hi r y).0)

    past : (c m w : ℕ) (b : Bool) → m < 8 → len_at h.lens c m ≤ 8 → (b ≡ true → len_at h.lens c m < 8) → pair 8 c m ≢ pair 8 j n → Piece h z c m k w b → Piece h z' c m k w b
    past c m w false hm s o d (asis l f) =
        asis (added_len_other z j n k v q.lens256 q.versions2048 r c m d ∙ l) (λ i b. other_chain c m i hm (omega arith) d ∙ f i b)
    past c m w true hm s o d (more l y f) =
        more (added_len_other z j n k v q.lens256 q.versions2048 r c m d ∙ l) (other_chain c m (len_at h.lens c m) hm (o refl) d ∙ y) (λ i b. other_chain c m i hm (omega arith) d ∙ f i b)

    new : Piece h z' j n k v true
    new = more (added_len z j n k v q.lens256 q.versions2048 r ∙ add-one _ ∙ ap suc len_was)
        (ap (version_at z'.versions j n) (sym len_was) ∙ added_version z j n k v q.lens256 q.versions2048 r (fits j hj))
        (λ i b. other_version j n i hn (omega (arith, roomy j hj e)) (λ y. omega (arith, len_was, pair_inj 8 (pair 8 j n) i (pair 8 j n) (len_at z.lens j n) (omega (arith, roomy j hj e)) r y)) ∙ old_was i b)

    -- a chain that was as it was gets one version more
    grows : UpTo (suc j) z'
    grows = record {
      lens256 = added_lens z j n k v q.lens256 q.versions2048 r;
      versions2048 = added_versions z j n k v q.lens256 q.versions2048 r;
      here = λ c hc l s. elim (ℕ_discrete c j) [
        | yes d ↦ rw (d, e) new
        | no d ↦ past c n (noted writes t c - 1) (adds c) hn s (roomy c hc) (λ y. d (pair_inj 8 c n j n hn hn y).0) (q.here c hc (omega arith) s)
      ];
      away = λ c m hc hm s d. past c m 0 false hm s (λ y. absurd (not_both y refl)) (λ y. let p = pair_inj 8 c m j n hm hn y in omega (arith, d p.1, p.0)) (q.away c m hc hm s (λ y. omega (arith, d y)));
    }

  -- no version is added to the chain of cell j
  skips : (j : ℕ) (z : Chains) → j < 32 → adds j ≡ false → UpTo j z → UpTo (suc j) z
  skips j z hj e q = record {
    lens256 = q.lens256;
    versions2048 = q.versions2048;
    here = λ c hc l s. elim (ℕ_discrete c j) [
      | yes d ↦ rw (d, e) (lone (q.away j n hj hn (rw d at s) (λ y. omega arith)))
      | no d ↦ q.here c hc (omega arith) s
    ];
    away = λ c m hc hm s d. q.away c m hc hm s (λ y. omega (arith, d y));
  }
    where
      lone : Piece h z j n k 0 false → Piece h z j n k (noted writes t j - 1) false
      lone (asis l f) = asis l f

  all : (j : ℕ) → j ≤ 32 → UpTo j (turns j turn h)
  unfolding turns
  all zero l = record { lens256 = ls; versions2048 = vs; here = λ c hc b. absurd (omega arith); away = λ c m hc hm s d. asis refl (λ i b. refl) }
  all (suc j) l = let q = all j (omega arith) in
      by_test (adds j) (λ e. rw e (grows j (turns j turn h) (omega arith) e q)) (λ e. rw e (skips j (turns j turn h) (omega arith) e q))

  pub stored_some : (cells : ℕ) → cells ≤ 32 → UpTo cells (stored cells masks h writes t n k)
  unfolding stored
  stored_some cells l = all cells l
