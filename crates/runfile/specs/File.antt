-- The run file: three sections in this order, each after its count, little-endian.
-- Assumes nothing.
use Rattle.std.specs.Prelude.{Bool, false, cond, not, ◌&&◌, ◌||◌, List, [], ◌∷◌, ◌++◌, ℕ, zero, suc, ◌^◌, Option, None, Some, leb, ltb, eqb, length, take, drop}
use Rattle.tables.specs.Table.{at}
use Rattle.kinds.specs.declared.Step.{Step}
use Rattle.kinds.specs.Kinds.{uses_of}
use Rattle.little.specs.Little.{little, digits}
use Rattle.runfile.specs.declared.Fault.{Fault}
use Rattle.runfile.specs.declared.Fault.TheVariants.{Short, Count, Mask, Field, LeftOver, Room}

-- what a file stands for
pub record Cell : Type 0 where
  pub mask : ℕ
  pub value : ℕ

pub record File : Type 0 where
  pub counters : List ℕ
  pub cells : List Cell
  pub steps : List Step

-- ---- the bytes of a file

abbrev pub cell_bytes : Cell → List ℕ
cell_bytes c = c.mask ∷ digits 4 c.value

abbrev pub step_bytes : Step → List ℕ
step_bytes x = x.kind ∷ x.slot ∷ x.node ∷ x.cell ∷ digits 4 x.value

-- items one after the other
unfoldable pub joined : {A : Type 0} → (A → List ℕ) → List A → List ℕ
joined f [] = []
joined f (a ∷ rest) = f a ++ joined f rest

unfoldable pub bytes_of : File → List ℕ
bytes_of f =
    (length f.counters ∷ joined (digits 4) f.counters)
    ++ (length f.cells ∷ joined cell_bytes f.cells)
    ++ digits 2 (length f.steps)
    ++ joined step_bytes f.steps

-- ---- what is judged

-- the paper's number of each fault
abbrev pub code_of : Fault → ℕ
code_of Short = 32
code_of Count = 33
code_of Mask = 34
code_of Field = 35
code_of LeftOver = 36
code_of Room = 37

-- a mask is not zero and names only nodes of the run
abbrev pub mask_sound : ℕ → ℕ → Bool
mask_sound nodes mask = ltb 0 mask && ltb mask (2 ^ nodes)

-- a field that the kind doesn't use is zero
abbrev pub fields_sound : Step → Bool
fields_sound x =
    let u = uses_of x.kind in
    (u.slot || eqb x.slot 0) && (u.node || eqb x.node 0) && (u.cell || eqb x.cell 0) && (u.value || eqb x.value 0)

-- ---- reading: from the front of the bytes on, the first fault by place

-- what was read and the bytes after it, or a fault
pub data Read (A : Type 0) : Type 0 where
  got : A → List ℕ → Read A
  fault : Fault → Read A

abbrev pub and_then : {A B : Type 0} → Read A → (A → List ℕ → Read B) → Read B
and_then (got a rest) f = f a rest
and_then (fault c) f = fault c

-- the k bytes of an item, of which nothing is judged unless it is wholly there
unfoldable pub read_bytes : ℕ → List ℕ → Read (List ℕ)
read_bytes k b = cond (leb k (length b)) (got (take k b) (drop k b)) (fault Short)

-- what passes a test, or the test's fault
abbrev pub tested : {A : Type 0} → Bool → Fault → A → List ℕ → Read A
tested ok c a rest = cond ok (got a rest) (fault c)

-- a count of k bytes, from low to high
unfoldable pub read_count : ℕ → ℕ → ℕ → List ℕ → Read ℕ
read_count k low high b = and_then (read_bytes k b) (λ i rest. tested (leb low (little i) && leb (little i) high) Count (little i) rest)

unfoldable pub read_counter : List ℕ → Read ℕ
read_counter b = and_then (read_bytes 4 b) (λ i rest. got (little i) rest)

abbrev pub cell_from : List ℕ → Cell
cell_from i = record { mask = at i 0 0; value = little (drop 1 i) }

unfoldable pub read_cell : ℕ → List ℕ → Read Cell
read_cell nodes b = and_then (read_bytes 5 b) (λ i rest. tested (mask_sound nodes (at i 0 0)) Mask (cell_from i) rest)

abbrev pub step_from : List ℕ → Step
step_from i = record { kind = at i 0 0; slot = at i 1 0; node = at i 2 0; cell = at i 3 0; value = little (drop 4 i) }

unfoldable pub read_step : List ℕ → Read Step
read_step b = and_then (read_bytes 8 b) (λ i rest. tested (fields_sound (step_from i)) Field (step_from i) rest)

-- that many items
unfoldable pub read_items : {A : Type 0} → (List ℕ → Read A) → ℕ → List ℕ → Read (List A)
read_items f zero b = got [] b
read_items f (suc k) b = and_then (f b) (λ a rest. and_then (read_items f k rest) (λ more rest'. got (a ∷ more) rest'))

-- nothing is left over
abbrev pub at_end : File → List ℕ → Read File
at_end f [] = got f []
at_end f (b ∷ bs) = fault LeftOver

unfoldable pub read_file : List ℕ → Read File
read_file b =
    and_then (read_count 1 1 8 b) (λ n b₁.
    and_then (read_items read_counter n b₁) (λ counters b₂.
    and_then (read_count 1 1 32 b₂) (λ c b₃.
    and_then (read_items (read_cell n) c b₃) (λ cells b₄.
    and_then (read_count 2 0 4096 b₄) (λ m b₅.
    and_then (read_items read_step m b₅) (λ steps rest. at_end (record { counters = counters; cells = cells; steps = steps }) rest))))))

-- ---- the faults of a run, by place

-- an item that does not pass
unfoldable pub some_bad : {A : Type 0} → (A → Bool) → List A → Bool
some_bad ok [] = false
some_bad ok (a ∷ rest) = not (ok a) || some_bad ok rest

-- the first fault by place that a run has
unfoldable pub fault_of : File → Option Fault
fault_of f =
    let n = length f.counters in
    cond (not (leb 1 n && leb n 8) || not (leb 1 (length f.cells) && leb (length f.cells) 32)) (Some Count)
    (cond (some_bad (λ c. mask_sound n c.mask) f.cells) (Some Mask)
    (cond (not (leb (length f.steps) 4096)) (Some Count)
    (cond (some_bad fields_sound f.steps) (Some Field) None)))
