-- Laws of refusals 16 to 18: which is given, and that nothing else keeps a step from its kind's own tests.
-- Assumes nothing.
use mathlib.Core.Path.{◌≡◌}
use mathlib.Core.Bool.{true, false, not, ◌&&◌, ◌||◌}
use Prim.Native.Nat.{ℕ}
use lib.Dec.{ltb}
use Rattle.std.specs.Prelude.{None, Some}
use Rattle.tables.specs.Tests.{refusal}
use Rattle.kinds.specs.Kinds.{is_known, uses_of}
use Rattle.kinds.specs.declared.Step.{Step}
use Rattle.group.specs.declared.Refusal.TheVariants.{NoKind, NoNode, NoPlace}
use Rattle.desk.specs.Parts.{field_refusal}

module _ (nodes cells : ℕ) (x : Step) where
  -- 16 before all others
  pub fault_16 : is_known x.kind ≡ false → Some NoKind ≡ field_refusal nodes cells x
  unfolding field_refusal refusal
  fault_16 a = rw a

  module _ (a : is_known x.kind ≡ true) where
    pub fault_17 : (not (uses_of x.kind).node || ltb x.node nodes) ≡ false → Some NoNode ≡ field_refusal nodes cells x
    unfolding field_refusal refusal
    fault_17 b = rw (a, b)

    module _ (b : (not (uses_of x.kind).node || ltb x.node nodes) ≡ true) where
      pub fault_18 :
          ((not (uses_of x.kind).slot || ltb x.slot 32) && (not (uses_of x.kind).cell || ltb x.cell cells)) ≡ false
          → Some NoPlace ≡ field_refusal nodes cells x
      unfolding field_refusal refusal
      fault_18 d = rw (a, b, d)

      pub no_fault :
          ((not (uses_of x.kind).slot || ltb x.slot 32) && (not (uses_of x.kind).cell || ltb x.cell cells)) ≡ true
          → None ≡ field_refusal nodes cells x
      unfolding field_refusal refusal
      no_fault d = rw (a, b, d)
