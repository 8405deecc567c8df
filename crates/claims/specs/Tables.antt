-- The paper's tables and limits, entry by entry: which fields each kind uses, the faults of a file, the code of each answer.
-- Assumes nothing.
use Rattle.std.specs.Prelude.{◌≡◌, List, [], ◌∷◌, ◌++◌, map, ℕ, ◌*◌, replicate, Option, None, Some}
use Rattle.group.specs.declared.Answer.{Answer}
use Rattle.group.specs.declared.Answer.TheVariants.{Done, Value, Wait, Yes, No, Committed, Aborted, Cut, Refused}
use Rattle.group.specs.Answer.{Said, says, said}
use Rattle.runfile.specs.File.{File, Read, code_of, got, fault, read_file}

-- the number of a file's fault; 0 for a sound one
abbrev pub verdict : Read File → ℕ
verdict (got f rest) = 0
verdict (fault c) = code_of c

-- the number of a file's fault; none for a sound one
abbrev pub faulted : Read File → Option ℕ
faulted (got f rest) = None
faulted (fault c) = Some (code_of c)

unfoldable pub fault_in : List ℕ → ℕ
fault_in b = verdict (read_file b)

-- one node, one cell, one step
unfoldable pub one_step : ℕ → ℕ → ℕ → ℕ → ℕ → List ℕ
one_step kind slot node cell value =
    1 ∷ 0 ∷ 0 ∷ 0 ∷ 0 ∷ 1 ∷ 1 ∷ 0 ∷ 0 ∷ 0 ∷ 0 ∷ 1 ∷ 0 ∷ kind ∷ slot ∷ node ∷ cell ∷ value ∷ 0 ∷ 0 ∷ 0 ∷ []

-- what becomes of a file whose step of this kind has its slot, node, cell or value set, one at a time
unfoldable pub row_of : ℕ → List ℕ
row_of kind = fault_in (one_step kind 1 0 0 0) ∷ fault_in (one_step kind 0 1 0 0) ∷ fault_in (one_step kind 0 0 1 0) ∷ fault_in (one_step kind 0 0 0 1) ∷ []

abbrev pub row : ℕ → ℕ → ℕ → ℕ → List ℕ
row slot node cell value = slot ∷ node ∷ cell ∷ value ∷ []

-- kinds 1 to 13
abbrev pub rows : List (List ℕ)
rows =
    row 0 0 35 0
    ∷ row 0 35 0 0
    ∷ row 0 0 0 35
    ∷ row 0 35 35 35
    ∷ row 0 35 35 35
    ∷ row 0 35 35 35
    ∷ row 0 0 35 35
    ∷ row 0 35 35 35
    ∷ row 0 35 35 35
    ∷ row 0 0 35 35
    ∷ row 35 0 35 35
    ∷ row 35 0 35 35
    ∷ row 0 35 35 35
    ∷ []

-- n nodes with counter 0; cells with these masks and value 0, counted as said
unfoldable pub nodes_of : ℕ → List ℕ
nodes_of n = n ∷ replicate (4 * n) 0

unfoldable pub cells_of : List ℕ → List ℕ
cells_of [] = []
cells_of (m ∷ ms) = m ∷ 0 ∷ 0 ∷ 0 ∷ 0 ∷ cells_of ms

abbrev pub group : ℕ → ℕ → List ℕ → List ℕ
group n c masks = nodes_of n ++ (c ∷ cells_of masks)

-- files at the limits and one beyond, each fault among them
abbrev pub files : List (List ℕ)
files =
    (group 1 1 (1 ∷ []) ++ (0 ∷ 0 ∷ []))
    ∷ (group 8 32 (replicate 32 255) ++ (0 ∷ 0 ∷ []))
    ∷ []  -- no node count
    ∷ (1 ∷ 0 ∷ 0 ∷ 0 ∷ [])  -- a counter cut short
    ∷ (nodes_of 1 ++ (1 ∷ 0 ∷ 0 ∷ []))  -- a cell cut short, whatever its mask
    ∷ (group 1 1 (1 ∷ []) ++ (0 ∷ []))  -- half a step count
    ∷ (group 1 1 (1 ∷ []) ++ (0 ∷ 16 ∷ []))  -- 4,096 steps that aren't there
    ∷ (0 ∷ [])
    ∷ (9 ∷ [])
    ∷ (nodes_of 1 ++ (0 ∷ []))
    ∷ (nodes_of 1 ++ (33 ∷ []))
    ∷ (group 1 1 (1 ∷ []) ++ (1 ∷ 16 ∷ []))  -- 4,097 steps
    ∷ (group 1 1 (0 ∷ []) ++ (0 ∷ 0 ∷ []))
    ∷ (group 1 1 (2 ∷ []) ++ (0 ∷ 0 ∷ []))
    ∷ (group 7 1 (128 ∷ []) ++ (0 ∷ 0 ∷ []))
    ∷ one_step 4 0 1 0 0
    ∷ (group 1 1 (1 ∷ []) ++ (0 ∷ 0 ∷ 0 ∷ []))  -- a byte left over
    ∷ []

abbrev pub codes : List ℕ
codes = 0 ∷ 0 ∷ 32 ∷ 32 ∷ 32 ∷ 32 ∷ 32 ∷ 33 ∷ 33 ∷ 33 ∷ 33 ∷ 33 ∷ 34 ∷ 34 ∷ 34 ∷ 35 ∷ 36 ∷ []

-- code, number and value of each answer
abbrev pub replies : List Answer
replies = Done 7 ∷ Value 7 9 ∷ Wait 7 ∷ Yes 7 ∷ No 2 ∷ Committed 7 ∷ Aborted ∷ Cut ∷ Refused 19 ∷ []

abbrev pub replied : List Said
replied = says 0 7 0 ∷ says 1 7 9 ∷ says 2 7 0 ∷ says 3 7 0 ∷ says 4 2 0 ∷ says 5 7 0 ∷ says 6 0 0 ∷ says 7 0 0 ∷ says 19 0 0 ∷ []

pub record Tabled : Type 0 where
  pub kinds : map row_of (1 ∷ 2 ∷ 3 ∷ 4 ∷ 5 ∷ 6 ∷ 7 ∷ 8 ∷ 9 ∷ 10 ∷ 11 ∷ 12 ∷ 13 ∷ []) ≡ rows
  -- a cut kind uses the same, an unknown one nothing
  pub cut_kinds : map row_of (129 ∷ 130 ∷ 131 ∷ 132 ∷ 133 ∷ 134 ∷ 135 ∷ 136 ∷ 137 ∷ 138 ∷ 139 ∷ 140 ∷ 141 ∷ []) ≡ rows
  pub unknown_kinds : map row_of (0 ∷ 14 ∷ 127 ∷ 128 ∷ 142 ∷ 255 ∷ []) ≡ replicate 6 (row 35 35 35 35)
  pub faults : map fault_in files ≡ codes
  pub answers : map said replies ≡ replied
