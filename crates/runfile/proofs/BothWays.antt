-- A run and its file: what is written is read back, what is read was written, one run has one file, and every list of bytes is either a file
-- or has one fault.
-- Assumes nothing.
use mathlib.Core.Path.{◌≡◌, refl, sym, ap, ap₂, ◌∙◌}
use mathlib.Core.Bool.{Bool, true, false, cond, not, ◌&&◌}
use mathlib.Core.List.{List, [], ◌∷◌, ◌++◌, append_assoc, append-nil}
use Rattle.std.specs.Prelude.{Option, None, Some}
use Rattle.std.proofs.lemmas.Option.{none-some}
use Prim.Native.Nat.{ℕ, ◌%◌, ◌^◌, ◌≤◌, ◌<◌}
use native.Mathlib.Nat.{pow-le-pow_right}
use native.Mathlib.Omega.{arith}
use lib.Dec.{leb, ltb, lit<}
use lib.ListN.{length}
use borrow.Author.Tests.{le-leb, leb-true, ltb-true, not-false}
use Rattle.tables.proofs.Choice.{or_false, and_true}
use Rattle.kinds.specs.declared.Step.{Step}
use Rattle.runfile.specs.declared.Fault.{Fault}
use Rattle.runfile.specs.declared.Fault.TheVariants.{LeftOver}
use Rattle.little.specs.Little.{digits}
use Rattle.little.proofs.Laws.{Bytes}
use Rattle.runfile.specs.File.{Cell, File, Read, code_of, got, fault, read_count, read_counter, read_cell, read_step, read_items, read_file, at_end, joined, cell_bytes, step_bytes, mask_sound, fields_sound, fault_of, bytes_of}
use Rattle.runfile.proofs.Items.{then, and_then_lem, Coded, fine, code, coded_then, All, all_map, all_both, all_any, bad_none, none_bad, item_written, item_read, item_coded, items_written, items_read, items_coded}
use Rattle.runfile.proofs.FileItems.{counter_item, count_item, CellFits, StepFits, cell_item, step_item, count_reader, counter_reader, cell_reader, step_reader}

-- ---- a file, section by section

module _ (b b₁ b₂ b₃ b₄ b₅ rest : List ℕ) (n c m : ℕ) (counters : List ℕ) (cells : List Cell) (steps : List Step) where
  -- all sections were read
  pub record Sections : Type 0 where
    pub nodes_read : read_count 1 1 8 b ≡ got n b₁
    pub counters_read : read_items read_counter n b₁ ≡ got counters b₂
    pub cell_count_read : read_count 1 1 32 b₂ ≡ got c b₃
    pub cells_read : read_items (read_cell n) c b₃ ≡ got cells b₄
    pub step_count_read : read_count 2 0 4096 b₄ ≡ got m b₅
    pub steps_read : read_items read_step m b₅ ≡ got steps rest

  pub file_read : Sections → read_file b ≡ at_end (record { counters = counters; cells = cells; steps = steps }) rest
  unfolding read_file
  file_read s = rw (s.nodes_read, s.counters_read, s.cell_count_read, s.cells_read, s.step_count_read, s.steps_read)

pub data Read_in (b : List ℕ) (f : File) (r : List ℕ) : Type 0 where
  read_in :
      (b₁ b₂ b₃ b₄ b₅ : List ℕ) (n c m : ℕ) → Sections b b₁ b₂ b₃ b₄ b₅ [] n c m f.counters f.cells f.steps → r ≡ []
      → Read_in b f r

at_end_lem : (f g : File) (rest r : List ℕ) → at_end f rest ≡ got g r → (rest ≡ []) × (f ≡ g) × (r ≡ [])
at_end_lem f g [] r e = (refl, cc, cc)
at_end_lem f g (x ∷ xs) r e = absurd (let z : ◌≡◌ {A = ℕ} 0 1 = cc in omega arith)

pub sections_read : (b : List ℕ) (f : File) (r : List ℕ) → read_file b ≡ got f r → Read_in b f r
unfolding read_file
sections_read b f r e =
    elim (and_then_lem (read_count 1 1 8 b) _ f r e) [
      | then n b₁ e₁ h₁ ↦ elim (and_then_lem (read_items read_counter n b₁) _ f r h₁) [
        | then counters b₂ e₂ h₂ ↦ elim (and_then_lem (read_count 1 1 32 b₂) _ f r h₂) [
          | then c b₃ e₃ h₃ ↦ elim (and_then_lem (read_items (read_cell n) c b₃) _ f r h₃) [
            | then cells b₄ e₄ h₄ ↦ elim (and_then_lem (read_count 2 0 4096 b₄) _ f r h₄) [
              | then m b₅ e₅ h₅ ↦ elim (and_then_lem (read_items read_step m b₅) _ f r h₅) [
                | then steps rest e₆ h₆ ↦
                    let q = at_end_lem (record { counters = counters; cells = cells; steps = steps }) f rest r h₆ in
                    let l : read_items read_step m b₅ ≡ got steps [] = rw q.0 at e₆ in
                    rw (← q.1) (read_in b₁ b₂ b₃ b₄ b₅ n c m (record {
                      nodes_read = e₁;
                      counters_read = e₂;
                      cell_count_read = e₃;
                      cells_read = e₄;
                      step_count_read = e₅;
                      steps_read = l;
                    }) q.2)
              ]
            ]
          ]
        ]
      ]
    ]

-- ---- a run that has no fault

pub record Passes (f : File) : Type 0 where
  pub nodes_low : 1 ≤ length f.counters
  pub nodes_high : length f.counters ≤ 8
  pub cells_low : 1 ≤ length f.cells
  pub cells_high : length f.cells ≤ 32
  pub masks : All (λ (c : Cell). mask_sound (length f.counters) c.mask ≡ true) f.cells
  pub steps_high : length f.steps ≤ 4096
  pub fields : All (λ (x : Step). fields_sound x ≡ true) f.steps

not_coded : (t : Bool) (c : Fault) (x : Option Fault) → cond t (Some c) x ≡ None → (t ≡ false) × (x ≡ None)
not_coded true c x e = absurd (none-some c (sym e))
not_coded false c x e = (refl, e)

within : (low x high : ℕ) → not (leb low x && leb x high) ≡ false → (low ≤ x) × (x ≤ high)
within low x high e = let q = and_true _ _ (not-false _ e) in (leb-true _ _ q.0, leb-true _ _ q.1)

pub passes_when : (f : File) → fault_of f ≡ None → Passes f
unfolding fault_of
passes_when f e =
    let q₁ = not_coded _ _ _ e in
    let q₂ = not_coded _ _ _ q₁.1 in
    let q₃ = not_coded _ _ _ q₂.1 in
    let q₄ = not_coded _ _ _ q₃.1 in
    let o = or_false _ _ q₁.0 in
    let n = within 1 (length f.counters) 8 o.0 in
    let c = within 1 (length f.cells) 32 o.1 in record {
      nodes_low = n.0;
      nodes_high = n.1;
      cells_low = c.0;
      cells_high = c.1;
      masks = none_bad _ f.cells q₂.0;
      steps_high = leb-true _ _ (not-false _ q₃.0);
      fields = none_bad _ f.steps q₄.0;
    }

pub no_fault_when : (f : File) → Passes f → fault_of f ≡ None
unfolding fault_of
no_fault_when f p =
    rw (
      le-leb _ _ p.nodes_low,
      le-leb _ _ p.nodes_high,
      le-leb _ _ p.cells_low,
      le-leb _ _ p.cells_high,
      bad_none _ f.cells p.masks,
      le-leb _ _ p.steps_high,
      bad_none _ f.steps p.fields,
    )

-- sound: no fault, and every number fits its bytes. That a mask fits follows
pub record Sound (f : File) : Type 0 where
  pub no_fault : fault_of f ≡ None
  pub counters_fit : All (λ (x : ℕ). x < 256 ^ 4) f.counters
  pub values_fit : All (λ (c : Cell). c.value < 256 ^ 4) f.cells
  pub steps_fit : All StepFits f.steps

pub mask_fits : (nodes mask : ℕ) → nodes ≤ 8 → mask_sound nodes mask ≡ true → mask < 256
mask_fits nodes mask h e =
    let q = and_true (ltb 0 mask) (ltb mask (2 ^ nodes)) e in
    let p : 2 ^ nodes ≤ 2 ^ 8 = pow-le-pow_right (lit< tt) h in
    omega (arith, ltb-true mask (2 ^ nodes) q.1)

-- ---- the bytes of a run

digit : (x : ℕ) (r : List ℕ) → x < 256 → x ∷ r ≡ digits 1 x ++ r
unfolding digits
digit x r h = let e : x % 256 ≡ x = omega arith in rw e

pub bytes_shape :
    (f : File) → Passes f → bytes_of f
    ≡ digits 1 (length f.counters) ++ (joined (digits 4) f.counters ++ (digits 1 (length f.cells) ++ (joined cell_bytes f.cells
    ++ (digits 2 (length f.steps) ++ (joined step_bytes f.steps ++ [])))))
unfolding bytes_of
bytes_shape f p =
    rw (append-nil (joined step_bytes f.steps), ← (digit (length f.counters) _ (omega arith)), ← (digit (length f.cells) _ (omega arith)))
    (simp append_assoc)

-- ---- what is written is read back

pub count_written :
    (k low high x : ℕ) (r : List ℕ) → x < 256 ^ k → low ≤ x → x ≤ high → read_count k low high (digits k x ++ r) ≡ got x r
count_written k low high x r h l m =
    rw (count_reader k low high) (item_written (count_item k low high) x r (h, ap₂ ◌&&◌ (le-leb _ _ l) (le-leb _ _ m)))

module _ (f : File) (s : Sound f) (r : List ℕ) where
  counters_written : read_items read_counter (length f.counters) (joined (digits 4) f.counters ++ r) ≡ got f.counters r
  counters_written =
      rw counter_reader (items_written counter_item f.counters r (all_both _ _ f.counters s.counters_fit (all_any _ f.counters (λ a. refl))))

  cells_written : read_items (read_cell (length f.counters)) (length f.cells) (joined cell_bytes f.cells ++ r) ≡ got f.cells r
  cells_written =
      let p = passes_when f s.no_fault in
      let n = length f.counters in
      let fit = all_map _ CellFits f.cells (λ c q. (mask_fits n c.mask p.nodes_high q.0, q.1)) (all_both _ _ f.cells p.masks s.values_fit) in
      rw (cell_reader n) (items_written (cell_item n) f.cells r (all_both _ _ f.cells fit p.masks))

  steps_written : read_items read_step (length f.steps) (joined step_bytes f.steps ++ r) ≡ got f.steps r
  steps_written =
      let p = passes_when f s.no_fault in
      rw step_reader (items_written step_item f.steps r (all_both _ _ f.steps s.steps_fit p.fields))

pub read_written : (f : File) → Sound f → read_file (bytes_of f) ≡ got f []
read_written f s =
    let p = passes_when f s.no_fault in
    let n = length f.counters in
    let c = length f.cells in
    let m = length f.steps in
    rw (bytes_shape f p) (file_read _ _ _ _ _ _ [] n c m f.counters f.cells f.steps (record {
      nodes_read = count_written 1 1 8 n _ (omega arith) p.nodes_low p.nodes_high;
      counters_read = counters_written f s _;
      cell_count_read = count_written 1 1 32 c _ (omega arith) p.cells_low p.cells_high;
      cells_read = cells_written f s _;
      step_count_read = count_written 2 0 4096 m _ (omega arith) (omega arith) p.steps_high;
      steps_read = steps_written f s [];
    }))

-- ---- what is read was written

pub count_read :
    (k low high : ℕ) (b : List ℕ) (x : ℕ) (r : List ℕ) → Bytes b → read_count k low high b ≡ got x r
    → (b ≡ digits k x ++ r) × ((x < 256 ^ k) × (low ≤ x) × (x ≤ high)) × Bytes r
count_read k low high b x r h e =
    let q = item_read (count_item k low high) b x r h (rw (count_reader k low high) at e) in
    let t = and_true _ _ q.1.1 in
    (q.0, (q.1.0, leb-true _ _ t.0, leb-true _ _ t.1), q.2)

pub written_read : (b : List ℕ) (f : File) (r : List ℕ) → Bytes b → read_file b ≡ got f r → (b ≡ bytes_of f) × Sound f × (r ≡ [])
written_read b f r h e = go (sections_read b f r e)
  where
    go : Read_in b f r → (b ≡ bytes_of f) × Sound f × (r ≡ [])
    go (read_in b₁ b₂ b₃ b₄ b₅ n c m s q) =
        let p₁ = count_read 1 1 8 b n b₁ h s.nodes_read in
        let p₂ = items_read counter_item n b₁ f.counters b₂ p₁.2 (rw counter_reader at s.counters_read) in
        let p₃ = count_read 1 1 32 b₂ c b₃ p₂.3 s.cell_count_read in
        let p₄ = items_read (cell_item n) c b₃ f.cells b₄ p₃.2 (rw (cell_reader n) at s.cells_read) in
        let p₅ = count_read 2 0 4096 b₄ m b₅ p₄.3 s.step_count_read in
        let p₆ = items_read step_item m b₅ f.steps [] p₅.2 (rw step_reader at s.steps_read) in
        let g : Passes f = record {
          nodes_low = omega arith;
          nodes_high = omega arith;
          cells_low = omega arith;
          cells_high = omega arith;
          masks = rw p₂.0 (all_map _ _ f.cells (λ x k. k.1) p₄.2);
          steps_high = omega arith;
          fields = all_map _ _ f.steps (λ x k. k.1) p₆.2;
        } in (
          rw (bytes_shape f g, p₂.0, p₄.0, p₆.0, p₁.0, p₂.1, p₃.0, p₄.1, p₅.0, p₆.1),
          record {
            no_fault = no_fault_when f g;
            counters_fit = all_map _ _ f.counters (λ x k. k.0) p₂.2;
            values_fit = all_map _ _ f.cells (λ x k. k.0.1) p₄.2;
            steps_fit = all_map _ _ f.steps (λ x k. k.0) p₆.2;
          },
          q,
        )

-- ---- one run, one file

-- two runs with one file are one
pub one_run : (f g : File) → Sound f → Sound g → bytes_of f ≡ bytes_of g → f ≡ g
one_run f g s t e = let q : got f [] ≡ got g [] = sym (read_written f s) ∙ ap read_file e ∙ read_written g t in cc

-- two files that stand for one run are one
pub one_file : (b c : List ℕ) (f : File) → Bytes b → Bytes c → read_file b ≡ got f [] → read_file c ≡ got f [] → b ≡ c
one_file b c f h l e q = (written_read b f [] h e).0 ∙ sym (written_read c f [] l q).0

-- ---- every list of bytes is a file or has one fault

pub file_coded : (b : List ℕ) → Coded (read_file b)
unfolding read_file
file_coded b =
    coded_then (read_count 1 1 8 b) _ (rw (count_reader 1 1 8) (item_coded (count_item 1 1 8) b)) (λ n b₁.
    coded_then (read_items read_counter n b₁) _ (rw counter_reader (items_coded counter_item n b₁)) (λ counters b₂.
    coded_then (read_count 1 1 32 b₂) _ (rw (count_reader 1 1 32) (item_coded (count_item 1 1 32) b₂)) (λ c b₃.
    coded_then (read_items (read_cell n) c b₃) _ (rw (cell_reader n) (items_coded (cell_item n) c b₃)) (λ cells b₄.
    coded_then (read_count 2 0 4096 b₄) _ (rw (count_reader 2 0 4096) (item_coded (count_item 2 0 4096) b₄)) (λ m b₅.
    coded_then (read_items read_step m b₅) _ (rw step_reader (items_coded step_item m b₅)) (λ steps rest. ended _ rest))))))
  where
    ended : (f : File) (rest : List ℕ) → Coded (at_end f rest)
    ended f [] = fine
    ended f (x ∷ xs) = code {c = LeftOver} (omega arith) (omega arith)

-- the file of this run, or this fault, whose number is from 32 to 36
pub data Outcome (b : List ℕ) : Type 0 where
  stands : (f : File) → Sound f → b ≡ bytes_of f → read_file b ≡ got f [] → Outcome b
  faulty : (c : Fault) → 32 ≤ code_of c → code_of c ≤ 36 → read_file b ≡ fault c → Outcome b

pub outcome : (b : List ℕ) → Bytes b → Outcome b
outcome b h = go (read_file b) refl (file_coded b)
  where
    go : (x : Read File) → read_file b ≡ x → Coded x → Outcome b
    go (got f r) e k = let p = written_read b f r h e in stands f p.1 p.0 (rw p.2 at e)
    go (fault c) e (code l m) = faulty c l m e

-- never both, and never two of one
pub not_both_ways : (f : File) (c : Fault) → Sound f → read_file (bytes_of f) ≡ fault c → ⊥
not_both_ways f c s e = let q = read_written f s in let z : ◌≡◌ {A = ℕ} 0 1 = cc in omega arith

pub one_fault : (b : List ℕ) (c d : Fault) → read_file b ≡ fault c → read_file b ≡ fault d → c ≡ d
one_fault b c d e q = cc
