-- Laws of the kinds, for code and for whoever goes by the table.
-- Assumes nothing.
use mathlib.Core.Path.{◌≡◌}
use mathlib.Core.Bool.{true, false}
use Prim.Native.Nat.{ℕ, ◌≤◌}
use borrow.Author.Tests.{leb-true}
use Rattle.std.specs.Prelude.{Ok, Err}
use Rattle.tables.proofs.Choice.{and_true, by_test}
use Rattle.kinds.specs.declared.Kind.{Kind}
use Rattle.kinds.specs.declared.UnknownKind.{UnknownKind}
use Rattle.kinds.specs.Kinds.{whole_of, is_known, named, kind_of, uses_by, uses_of}

pub known_range : (kind : ℕ) → is_known kind ≡ true → (1 ≤ whole_of kind) × (whole_of kind ≤ 13)
known_range kind e = let r = and_true _ _ e in (leb-true _ _ r.0, leb-true _ _ r.1)

pub uses_named : (kind : ℕ) → is_known kind ≡ true → uses_of kind ≡ uses_by (named kind)
unfolding uses_of
uses_named kind e = rw e

-- ---- what it says of a byte that it is decoded

pub kind_known : (byte : ℕ) (k : Kind) → kind_of byte ≡ Ok k → (is_known byte ≡ true) × (named byte ≡ k)
unfolding kind_of
kind_known byte k = by_test (is_known byte) (λ e h. (e, (let z = rw e at h in cc))) (λ e h. absurd (let z = rw e at h in cc))

pub kind_unknown : (byte : ℕ) (e : UnknownKind) → kind_of byte ≡ Err e → is_known byte ≡ false
unfolding kind_of
kind_unknown byte e = by_test (is_known byte) (λ t h. absurd (let z = rw t at h in cc)) (λ t h. t)
