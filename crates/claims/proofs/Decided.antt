-- A contract says all of an outcome: two outcomes that meet it are equal. Most contracts are equations with a definition, for each part of
-- the outcome, and `same` is all there is to show; a part of lent bytes is told by what it holds and where it lies.
-- Assumes nothing.
use mathlib.Core.Path.{◌≡◌, sym, ap, ◌∙◌}
use mathlib.Core.List.{List}
use Prim.Native.Nat.{ℕ}
use denote.Ref.{Bor}
use Rattle.chain.specs.Chain.{chains}
use Rattle.group.specs.declared.Group.{Group}
use Rattle.group.specs.declared.Tables.{Tables}
use Rattle.group.specs.declared.Turn.{Turn}
use Rattle.group.specs.State.{state_of}
use Rattle.desk.specs.Parts.{outcome}
use Rattle.little.specs.Little.{Tail}
use Rattle.runfile.specs.Parts.{StepsPart}

-- ---- equations

pub same : {A : Type 0} (x y z : A) → x ≡ z → y ≡ z → x ≡ y
same x y z p q = p ∙ sym q

-- chains are their two tables
pub same_chains : (lens lens' versions versions' : List ℕ) → chains lens versions ≡ chains lens' versions' → (lens ≡ lens') × (versions ≡ versions')
same_chains lens lens' versions versions' e = (ap (λ c. c.lens) e, ap (λ c. c.versions) e)

-- a state is its group and its tables
pub same_state : (g g' : Group) (t t' : Tables) → state_of g t ≡ state_of g' t' → (g ≡ g') × (t ≡ t')
same_state g g' t t' e =
    (ap (λ s. s.group) e, ap (λ s. record { flight = s.flight; chains = s.chains; writes = s.writes; reads = s.reads }) e)

-- what a step comes to on a desk is its turn and the tables after it
pub same_outcome : (g : Group) (r r' : Turn) (t t' : Tables) → outcome r g t ≡ outcome r' g t' → (r ≡ r') × (t ≡ t')
same_outcome g r r' t t' e = (
  ap (λ o. record { answer = o.answer; slot = o.desk.slot; counters = o.desk.counters }) e,
  ap (λ o. record { flight = o.desk.flight; chains = o.desk.chains; writes = o.desk.writes; reads = o.desk.reads }) e,
)

-- ---- parts of lent bytes: the same bytes at the same place in the caller's memory

abbrev SamePart : Bor (List ℕ) → Bor (List ℕ) → Type 0
SamePart r r' = (r.now ≡ r'.now) × (r.ref_ptr.0 ≡ r'.ref_ptr.0) × (r.ref_ptr.1 ≡ r'.ref_ptr.1)

-- runfile::steps
pub same_steps :
    (file : Bor (List ℕ)) (nodes cells count : ℕ) (r r' : Bor (List ℕ)) → StepsPart file nodes cells count r → StepsPart file nodes cells count r' → SamePart r r'
same_steps file nodes cells count r r' p q = (p.bytes ∙ sym q.bytes, p.block ∙ sym q.block, p.offset ∙ sym q.offset)

-- little::from, rest and tail
pub same_tail : (s : Bor (List ℕ)) (i : ℕ) (r r' : Bor (List ℕ)) → Tail s i r → Tail s i r' → SamePart r r'
same_tail s i r r' p q = (p.bytes ∙ sym q.bytes, p.block ∙ sym q.block, p.offset ∙ sym q.offset)
