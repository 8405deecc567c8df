-- The run with a reader between two writers: its summary computed, and what the theorem says of it.
-- Assumes nothing.
use mathlib.Core.Path.{◌≡◌, refl, sym, ap, subst}
use mathlib.Core.Logic.{⊎_elim}
use mathlib.Core.Bool.{Bool, true, false, ◌&&◌}
use mathlib.Core.List.Memᴰ
use mathlib.Core.List.{List, [], ◌∷◌, Memᴰ}
use Prim.Native.Nat.{ℕ, zero, suc, ◌^◌, ◌≤◌, ◌<◌}
use native.Mathlib.Omega.{arith}
use lib.Dec.{ltb}
use lib.ListN.{replicate, length-replicate}
use borrow.Author.Tests.{ltb-true, ltb-false}
use Rattle.tables.specs.Pair.{word}
use Rattle.tables.proofs.Choice.{by_test, and_true}
use Rattle.tables.proofs.Table.{at_all, at_past}
use Rattle.kinds.specs.declared.Step.{Step}
use Rattle.tables.specs.Table.{at, put}
use Rattle.tables.specs.Loop.{any, every, turns, largest, last_at, lesser, least_at, each}
use Rattle.tables.specs.Tests.{refusal}
use Rattle.number.specs.Proposal.{up_to_top, next, proposal}
use Rattle.kinds.specs.Kinds.{uses_of, named}
use Rattle.chain.specs.Chain.{len_at, size, version_at, newest, latest, has_room, added}
use Rattle.group.specs.State.{unfinished, holds, has, writer, involved}
use Rattle.fresh.specs.Fresh.{fresh_lens, fresh_versions, fresh}
use Rattle.life.specs.Life.{begin_tests, cleared, write_tests, give_up_tests, abandon_tests}
use Rattle.ask.specs.Ask.{ask_tests, ask_turn}
use Rattle.read.specs.Read.{read_at, blocks, blocked, note_for, serve_turn, return_turn, return_reads}
use Rattle.vote.specs.Vote.{prepare_tests, bars, conflict, outdated, full, reason, vote}
use Rattle.decide.specs.Decide.{commit_turn, sent_to, commit_flight, refused_by, lacking, decide_tests, final, decide_turn}
use Rattle.learn.specs.Learn.{learn_tests, learn_turn, learn_flight}
use Rattle.settle.specs.Settle.{least, stored, advance_tests}
use Rattle.score.specs.Place.{desk_of, put_back}
use Rattle.desk.specs.Acts.{needs, does, rise, cuts, act}
use Rattle.score.specs.Steps.{step_whole}
use Rattle.serial.specs.Serial.{Sound, Steps32, Handed, Run, run_of, is_writer, insert, writers, copy_after, Serial}
use Rattle.serial.proofs.Never.{inner_run, inner_run_lem}
use Rattle.serial.proofs.Theorem.{serial}
use Rattle.claims.specs.Between.{counters, masks, values, first, begun, steps, gave, Summary, summary_of, summary, Explained}

-- ---- what is computed, by the inner step

-- no unfinished entry at node n writes cell c
abbrev Settled : Run → ℕ → ℕ → Type 0
Settled r n c = any 32 (λ t. unfinished r.state.flight t n && has r.state.writes t c) ≡ false

-- what the run comes to, and what the theorem asks before it says anything
record Computed (r : Run) : Type 0 where
  summed : summary_of r ≡ summary
  writer_0 : is_writer r.state 0 ≡ true
  writer_2 : is_writer r.state 2 ≡ true
  holders : (holds r.state.group.masks 0 0 ≡ true) × (holds r.state.group.masks 1 0 ≡ true) × (holds r.state.group.masks 1 1 ≡ true)
  settled : Settled r 0 0 × Settled r 1 0 × Settled r 1 1

computed : Computed (inner_run begun steps)
unfolding at put any every turns largest last_at lesser least_at each refusal up_to_top next proposal uses_of named len_at size version_at newest latest has_room added unfinished writer involved fresh_lens fresh_versions fresh begin_tests cleared write_tests give_up_tests abandon_tests ask_tests ask_turn read_at blocks blocked note_for serve_turn return_turn return_reads commit_turn sent_to commit_flight prepare_tests bars conflict outdated full reason vote refused_by lacking decide_tests final decide_turn learn_tests learn_turn learn_flight least stored advance_tests desk_of put_back needs does rise cuts act step_whole is_writer insert writers copy_after inner_run summary_of
computed = record { summed = refl; writer_0 = refl; writer_2 = refl; holders = (refl, refl, refl); settled = (refl, refl, refl) }

-- ---- the group is sound, and the steps' values have 32 bits

zeros : (k n : ℕ) → at {A = ℕ} (replicate k 0) n 0 ≡ 0
zeros k n = by_test (ltb n k) (λ e. at_all k n 0 0 (ltb-true _ _ e)) (λ e. at_past (replicate k 0) n 0 (omega (arith, ltb-false n k e, length-replicate {A = ℕ} k 0)))

-- after two numbers the list goes on with zeros
past_two : (x y n : ℕ) → at (x ∷ y ∷ replicate 30 0) (suc (suc n)) 0 ≡ 0
unfolding at
past_two x y n = zeros 30 n

values_fit : (c : ℕ) → at values c 0 < word
unfolding at
values_fit zero = omega arith
values_fit (suc zero) = omega arith
values_fit (suc (suc c)) = omega (arith, past_two 10 20 c)

masks_in : (c : ℕ) → c < 2 → (0 < at masks c 0) × (at masks c 0 < 2 ^ 2)
unfolding at
masks_in zero l = (omega arith, omega arith)
masks_in (suc zero) l = (omega arith, omega arith)
masks_in (suc (suc c)) l = absurd (omega arith)

masks_out : (c : ℕ) → 2 ≤ c → at masks c 0 ≡ 0
masks_out zero l = absurd (omega arith)
masks_out (suc zero) l = absurd (omega arith)
masks_out (suc (suc c)) l = past_two 3 2 c

sound : Sound 2 2 counters masks values
sound = record {
  nodes_in = (omega arith, omega arith);
  cells_in = (omega arith, omega arith);
  lengths = (refl, refl, refl);
  counters_fit = λ n. omega (arith, zeros 8 n);
  values_fit = values_fit;
  masks_in = masks_in;
  masks_out = masks_out;
}

abbrev small : List Step → Bool
small [] = true
small (x ∷ xs) = ltb x.value word && small xs

all_fit : (xs : List Step) → small xs ≡ true → Steps32 xs
all_fit [] e x m = absurd (Memᴰ.not-nil m)
all_fit (y ∷ ys) e x m = let r = and_true (ltb y.value word) (small ys) e in
    ⊎_elim (λ d. rw d (ltb-true _ _ r.0)) (λ n. all_fit ys r.1 x n) (Memᴰ.cases_cons m)

fit : Steps32 steps
fit = all_fit steps refl

-- ---- the run

abbrev run : Run
run = run_of begun steps

known : Computed run
known = subst Computed (sym (inner_run_lem 2 2 counters masks values sound steps fit)) computed

pub summed : summary_of run ≡ summary
summed = known.summed

-- ---- what the theorem says of it

said : Serial first run
said = serial 2 2 counters masks values sound steps fit

handed_is : run.handed ≡ summary.handed
unfolding summary_of
handed_is = ap (λ (z : Summary). z.handed) known.summed

handed : (h : Handed) → Memᴰ h summary.handed → Memᴰ h run.handed
handed h m = subst (λ (l : List Handed). Memᴰ h l) (sym handed_is) m

pub explained : Explained run
explained = record {
  distinct = said.distinct 0 2 (omega arith) (omega arith) (λ e. omega arith) known.writer_0 known.writer_2;
  handed_10 = said.explained (gave 0 0 0 0 10) (handed _ (Memᴰ.tail (Memᴰ.tail (Memᴰ.tail (Memᴰ.head refl)))));
  handed_11 = said.explained (gave 1 0 0 8 11) (handed _ (Memᴰ.tail (Memᴰ.tail (Memᴰ.head refl))));
  handed_21 = said.explained (gave 1 1 1 8 21) (handed _ (Memᴰ.head refl));
  turn_of_0 = said.own_turn (gave 0 0 0 0 10) (handed _ (Memᴰ.tail (Memᴰ.tail (Memᴰ.tail (Memᴰ.head refl))))) known.writer_0;
  turn_of_2 = said.own_turn (gave 2 0 0 8 11) (handed _ (Memᴰ.tail (Memᴰ.head refl))) known.writer_2;
  newest_0_0 = said.newest 0 0 (omega arith) (omega arith) known.holders.0 known.settled.0;
  newest_1_0 = said.newest 1 0 (omega arith) (omega arith) known.holders.1 known.settled.1;
  newest_1_1 = said.newest 1 1 (omega arith) (omega arith) known.holders.2 known.settled.2;
}
