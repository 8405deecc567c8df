-- A run in which a reader reads between two writers, and all that the serial statement has to say of it.
-- Assumes nothing.
use Rattle.std.specs.Prelude.{◌≡◌, ◌≢◌, Bool, true, List, [], ◌∷◌, map, ℕ, ◌-◌, leb, ltb, replicate}
use Rattle.tables.specs.Table.{at}
use Rattle.kinds.specs.declared.Step.{Step}
use Rattle.chain.specs.Chain.{size, version_at}
use Rattle.serial.specs.Serial.{Handed, Run, start, number_of, writers, copy_of}
use Rattle.claims.specs.Runs.{st}

-- two nodes with counters 0; both hold cell 0, which begins with 10, and node 1 holds cell 1, which begins with 20
abbrev pub counters : List ℕ
counters = replicate 8 0

abbrev pub masks : List ℕ
masks = 3 ∷ 2 ∷ replicate 30 0

abbrev pub values : List ℕ
values = 10 ∷ 20 ∷ replicate 30 0

abbrev pub first : ℕ → ℕ
first c = at values c 0

abbrev pub begun : Run
begun = start 2 2 counters masks values

-- T0 reads cell 0, writes 11 and 21, is committed and applied at both nodes; T1, read-only, reads cell 0; T2 reads cell 0, writes 12 and
-- 22, and is committed and applied in its turn; then T1 reads cell 1
abbrev pub steps : List Step
steps =
    st 1 0 0 0 1
    ∷ st 3 0 0 0 0
    ∷ st 4 0 0 0 0
    ∷ st 5 0 0 0 0
    ∷ st 2 0 0 0 11
    ∷ st 2 0 0 1 21
    ∷ st 6 0 0 0 0
    ∷ st 7 0 0 0 0
    ∷ st 7 0 1 0 0
    ∷ st 8 0 0 0 0
    ∷ st 10 0 0 0 0
    ∷ st 10 0 1 0 0
    ∷ st 11 0 0 0 0
    ∷ st 11 0 1 0 0
    ∷ st 1 1 0 0 0
    ∷ st 3 1 0 0 0
    ∷ st 4 1 0 0 0
    ∷ st 5 1 0 0 0
    ∷ st 1 2 0 0 1
    ∷ st 3 2 0 0 0
    ∷ st 4 2 0 0 0
    ∷ st 5 2 0 0 0
    ∷ st 2 2 0 0 12
    ∷ st 2 2 0 1 22
    ∷ st 6 2 0 0 0
    ∷ st 7 2 0 0 0
    ∷ st 7 2 1 0 0
    ∷ st 8 2 0 0 0
    ∷ st 10 2 0 0 0
    ∷ st 10 2 1 0 0
    ∷ st 11 2 0 0 0
    ∷ st 11 2 1 0 0
    ∷ st 3 1 1 1 0
    ∷ st 4 1 0 0 0
    ∷ st 5 1 0 0 0
    ∷ st 6 1 0 0 0
    ∷ []

-- a value handed: slot, node, cell, snapshot, value
abbrev pub gave : ℕ → ℕ → ℕ → ℕ → ℕ → Handed
gave t n c s v = record { slot = t; node = n; cell = c; s = s; value = v }

-- what both cells hold in the copy after the writers whose number passes p
abbrev pub cells_after : Run → (ℕ → Bool) → List ℕ
cells_after r p = map (copy_of first r.state p) (0 ∷ 1 ∷ [])

-- the newest value of cell c at node n
abbrev pub newest_at : Run → ℕ → ℕ → ℕ
newest_at r n c = (version_at r.state.chains.versions c n (size r.state.chains.lens c n - 1)).value

-- what is said of a run: its writers in ascending number, their numbers; the values handed, the last first; the copy's two cells at
-- snapshot 0, just before 8, at snapshot 8, just before 16, and at the end; and the newest values, of cell 0 at nodes 0 and 1, and of
-- cell 1 at node 1
pub record Summary : Type 0 where
  pub authors : List ℕ
  pub numbers : List ℕ
  pub handed : List Handed
  pub at_0 : List ℕ
  pub before_8 : List ℕ
  pub at_8 : List ℕ
  pub before_16 : List ℕ
  pub at_end : List ℕ
  pub newest : List ℕ

unfoldable pub summary_of : Run → Summary
summary_of r =
    let us = writers r.state (λ k. true) in
    record {
      authors = us;
      numbers = map (number_of r.state) us;
      handed = r.handed;
      at_0 = cells_after r (λ k. leb k 0);
      before_8 = cells_after r (λ k. ltb k 8);
      at_8 = cells_after r (λ k. leb k 8);
      before_16 = cells_after r (λ k. ltb k 16);
      at_end = cells_after r (λ k. true);
      newest = newest_at r 0 0 ∷ newest_at r 1 0 ∷ newest_at r 1 1 ∷ [];
    }

-- T0 and T2 wrote, with 8 and 16; T0 was handed 10 at 0, T1 11 at 8 and T2 11 at 8; and T1 was handed 21 at 8 when 22 was the newest
-- already
abbrev pub summary : Summary
summary =
    record {
      authors = 0 ∷ 2 ∷ [];
      numbers = 8 ∷ 16 ∷ [];
      handed = gave 1 1 1 8 21 ∷ gave 2 0 0 8 11 ∷ gave 1 0 0 8 11 ∷ gave 0 0 0 0 10 ∷ [];
      at_0 = 10 ∷ 20 ∷ [];
      before_8 = 10 ∷ 20 ∷ [];
      at_8 = 11 ∷ 21 ∷ [];
      before_16 = 11 ∷ 21 ∷ [];
      at_end = 12 ∷ 22 ∷ [];
      newest = 12 ∷ 12 ∷ 22 ∷ [];
    }

-- what the serial statement, put to that run, says in each of its four parts
pub record Explained (r : Run) : Type 0 where
  -- the two writers have distinct numbers
  pub distinct : number_of r.state 0 ≢ number_of r.state 2
  -- T0's 10 at snapshot 0 is the copy's before any writer, T1's 11 and T2's at snapshot 8 the copy's after T0, and so is T1's 21, though
  -- T2 had written 22 by then
  pub handed_10 : 10 ≡ copy_of first r.state (λ k. leb k 0) 0
  pub handed_11 : 11 ≡ copy_of first r.state (λ k. leb k 8) 0
  pub handed_21 : 21 ≡ copy_of first r.state (λ k. leb k 8) 1
  -- T0 and T2 are committed writers that read: each was handed the value just before its own turn
  pub turn_of_0 : 10 ≡ copy_of first r.state (λ k. ltb k (number_of r.state 0)) 0
  pub turn_of_2 : 11 ≡ copy_of first r.state (λ k. ltb k (number_of r.state 2)) 0
  -- nothing is unfinished: every holder has the copy's end as its newest
  pub newest_0_0 : newest_at r 0 0 ≡ copy_of first r.state (λ k. true) 0
  pub newest_1_0 : newest_at r 1 0 ≡ copy_of first r.state (λ k. true) 0
  pub newest_1_1 : newest_at r 1 1 ≡ copy_of first r.state (λ k. true) 1
