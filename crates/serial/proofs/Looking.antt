-- The version that a lookup finds is what the copy holds: every writer at or below that number is finished here, and stands in the chain.
-- Assumes nothing.
use mathlib.Core.Path.{◌≡◌, ap, ◌∙◌}
use mathlib.Core.Bool.{true}
use mathlib.Core.List.{List}
use Prim.Native.Nat.{ℕ, ◌≤◌, ◌<◌}
use native.Mathlib.Omega.{arith}
use native.Mathlib.Decide.{ℕ_discrete}
use lib.Dec.{ltb}
use borrow.Author.Tests.{ltb-true, ltb-false}
use Rattle.std.specs.Prelude.{Option, None, Some}
use Rattle.tables.proofs.Choice.{by_test}
use Rattle.chain.specs.Chain.{size, newest}
use Rattle.chain.specs.declared.Version.{Version}
use Rattle.chain.proofs.Laws.{size_in, Newest, no_version, version, newest_is}
use Rattle.group.specs.State.{State, holds}
use Rattle.read.specs.Read.{value_of}
use Rattle.serial.specs.Serial.{Handed}
use Rattle.serial.proofs.Inv.{From, Ground, Into, Latest, Links, Slots, from, into, last, untouched}
use Rattle.serial.proofs.Views.{All, ground_of, links_of, slots_of}

module _ (first : ℕ → ℕ) (s : State) (H : List Handed) (a : All first s H) (n c k : ℕ) (hn : n < 8) (hc : c < 32) (held : holds s.group.masks n c ≡ true)
    (later : (u : ℕ) → u < 32 → 3 ≤ (slots_of s).tag u n → (slots_of s).tag u n ≤ 4 → 0 < (slots_of s).wr u c → k < (slots_of s).num u n) where
  abbrev G : Ground
  G = ground_of s first

  abbrev S : Slots
  S = slots_of s

  abbrev K : Links
  K = links_of s

  -- a writer of the cell that is at or below k is finished here: it stands in the chain
  stands : (u : ℕ) → u < 32 → 0 < S.fin u → 0 < S.wr u c → S.fin u ≤ k → Into K n c (S.fin u) (S.wr u c)
  stands u hu f w l = let b = a.inv.deciding u hu in let v = b.voted n hn f (b.entered n c hn hc f held (omega arith)) in
      elim (ℕ_discrete (S.tag u n) 5) [
        | yes e ↦ a.inv.chaining.kept n c u hn hc hu held f w e
        | no e ↦ let x = later u hu v (omega (arith, b.low n hn)) w in elim (ℕ_discrete (S.tag u n) 3) [
          | yes z ↦ absurd (omega (arith, b.below n hn f z))
          | no z ↦ absurd (omega (arith, b.learned n hn (omega (arith, b.low n hn))))
        ]
      ]

  sized : size s.chains.lens c n ≡ K.len c n
  sized = size_in s.chains.lens c n (a.inv.chaining.some n c hn hc held).1

  found : (r : Option Version) → Newest s.chains.lens s.chains.versions c n k r → Latest G S c k (value_of r)
  found None (no_version f) = absurd (omega (arith, f 0 (omega (arith, sized, a.inv.chaining.some n c hn hc held)), a.inv.chaining.zero n c hn hc held))
  found (Some v) (version i h l f) = elim (ℕ_discrete i 0) [
    | yes e ↦ untouched (λ u hu g w. by_test (ltb k (S.fin u)) (λ z. ltb-true _ _ z) (λ z. absurd (above u g w (omega (arith, e)) (stands u hu g w (ltb-false _ _ z)) (ltb-false _ _ z))))
        (ap (K.vval c n) e ∙ (a.inv.chaining.zero n c hn hc held).1)
    | no e ↦ writer (a.inv.chaining.made n c i hn hc held (omega arith) (omega (arith, sized)))
  ]
    where
      above : (u : ℕ) → 0 < S.fin u → 0 < S.wr u c → i ≡ 0 → Into K n c (S.fin u) (S.wr u c) → S.fin u ≤ k → ⊥
      above u g w z (into j p b x y) o = omega (arith, f j (omega arith) (omega (arith, sized)))

      most : (u t : ℕ) → K.vnum c n i ≡ S.fin t → S.fin u ≤ k → Into K n c (S.fin u) (S.wr u c) → S.fin u ≤ S.fin t
      most u t z o (into j p b x y) = by_test (ltb i j) (λ q. absurd (omega (arith, f j (ltb-true _ _ q) (omega (arith, sized)))))
          (λ q. by_test (ltb j i) (λ q'. omega (arith, a.inv.chaining.up n c j i hn hc held (ltb-true _ _ q') (omega (arith, sized)))) (λ q'. let d : i ≡ j = omega (arith, ltb-false) in omega (arith, ap (K.vnum c n) d)))

      writer : From S n c (K.vnum c n i) (K.vval c n i) → Latest G S c k (K.vval c n i)
      writer (from t ht g w x y) = last t ht g w (omega arith) (λ u hu g' w' o. most u t y o (stands u hu g' w' o))

  pub looked_up : Latest G S c k (value_of (newest s.chains.lens s.chains.versions c n k))
  looked_up = found _ (newest_is s.chains.lens s.chains.versions c n k)
