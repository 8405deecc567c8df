-- The rows of one transaction in the tables, and the changes that leave the rows of others as they were.
-- Assumes nothing.
use mathlib.Core.Path.{◌≡◌, refl, ◌∙◌, sym}
use mathlib.Core.Logic.{◌≢◌}
use mathlib.Core.Bool.{true, false, cond}
use mathlib.Core.List.{List}
use Prim.Native.Nat.{ℕ, ◌+◌, ◌≤◌, ◌<◌}
use native.Mathlib.Omega.{arith}
use lib.ListN.{length}
use borrow.Author.Tests.{ltb-false, lt-ltb}
use Rattle.tables.specs.Table.{at, put}
use Rattle.tables.specs.Pair.{pair, word}
use Rattle.tables.proofs.Choice.{by_test}
use Rattle.tables.proofs.Table.{put_size, put_other}
use Rattle.tables.proofs.Pair.{pair_inj}
use Rattle.group.specs.State.{State, entered, holds, noted, has, sent, involved}
use Rattle.tables.proofs.Loop.{each_size, each_hit, each_miss, any_has}
use Rattle.life.specs.Life.{cleared}
use Rattle.decide.specs.Decide.{sent_to}
use Rattle.serial.proofs.Views.{Sizes}

-- the tables after: as long as they were, and the rows of others as they were
pub record Rows (s : State) (t : ℕ) (f w r : List ℕ) : Type 0 where
  pub flight256 : length f ≡ 256
  pub writes1024 : length w ≡ 1024
  pub reads1024 : length r ≡ 1024
  pub flight : (u n : ℕ) → u < 32 → n < 8 → u ≢ t → at f (pair 8 u n) 0 ≡ at s.flight (pair 8 u n) 0
  pub writes : (u c : ℕ) → u < 32 → c < 32 → u ≢ t → at w (pair 32 u c) 0 ≡ at s.writes (pair 32 u c) 0
  pub reads : (u c : ℕ) → u < 32 → c < 32 → u ≢ t → at r (pair 32 u c) 0 ≡ at s.reads (pair 32 u c) 0

pub no_rows : (s : State) (t : ℕ) → Sizes s → Rows s t s.flight s.writes s.reads
no_rows s t z = record {
  flight256 = z.flight256;
  writes1024 = z.writes1024;
  reads1024 = z.reads1024;
  flight = λ u n hu hn d. refl;
  writes = λ u c hu hc d. refl;
  reads = λ u c hu hc d. refl;
}

-- one write, and one read, of its own
pub written_rows : (s : State) (t c v : ℕ) → Sizes s → c < 32 → Rows s t s.flight (put s.writes (pair 32 t c) v) s.reads
written_rows s t c v z hc = record {
  flight256 = z.flight256;
  writes1024 = put_size _ _ _ ∙ z.writes1024;
  reads1024 = z.reads1024;
  flight = λ u n hu hn d. refl;
  writes = λ u i hu hi d. put_other s.writes _ _ (pair 32 u i) 0 (λ y. d (pair_inj 32 u i t c hi hc y).0);
  reads = λ u i hu hi d. refl;
}

pub read_rows : (s : State) (t c v : ℕ) → Sizes s → c < 32 → Rows s t s.flight s.writes (put s.reads (pair 32 t c) v)
read_rows s t c v z hc = record {
  flight256 = z.flight256;
  writes1024 = z.writes1024;
  reads1024 = put_size _ _ _ ∙ z.reads1024;
  flight = λ u n hu hn d. refl;
  writes = λ u i hu hi d. refl;
  reads = λ u i hu hi d. put_other s.reads _ _ (pair 32 u i) 0 (λ y. d (pair_inj 32 u i t c hi hc y).0);
}

-- one entry of its own
pub entered_rows : (s : State) (t n g k : ℕ) → Sizes s → n < 8 → Rows s t (entered s.flight t n g k) s.writes s.reads
entered_rows s t n g k z hn = record {
  flight256 = put_size _ _ _ ∙ z.flight256;
  writes1024 = z.writes1024;
  reads1024 = z.reads1024;
  flight = λ u m hu hm d. put_other s.flight _ _ (pair 8 u m) 0 (λ y. d (pair_inj 8 u m t n hm hn y).0);
  writes = λ u c hu hc d. refl;
  reads = λ u c hu hc d. refl;
}

-- ---- a row that was cleared

cleared_size : (l : List ℕ) (t : ℕ) → length (cleared l t) ≡ length l
unfolding cleared
cleared_size l t = each_size 0 _ _ l 32

pub cleared_here : (l : List ℕ) (t c : ℕ) → length l ≡ 1024 → t < 32 → c < 32 → at (cleared l t) (pair 32 t c) 0 ≡ 0
unfolding cleared
cleared_here l t c e ht hc = each_hit 0 (pair 32 t) (λ i z. 0) l 32 c hc (omega arith) (λ i j lt hj z. omega arith)

cleared_away : (l : List ℕ) (t u c : ℕ) → c < 32 → u ≢ t → at (cleared l t) (pair 32 u c) 0 ≡ at l (pair 32 u c) 0
unfolding cleared
cleared_away l t u c hc d = each_miss 0 (pair 32 t) (λ i z. 0) l 32 (pair 32 u c) (λ i hi e. d (sym (pair_inj 32 t i u c hi hc e).0))

pub cleared_rows : (s : State) (t : ℕ) → Sizes s → Rows s t s.flight (cleared s.writes t) (cleared s.reads t)
cleared_rows s t z = record {
  flight256 = z.flight256;
  writes1024 = cleared_size s.writes t ∙ z.writes1024;
  reads1024 = cleared_size s.reads t ∙ z.reads1024;
  flight = λ u n hu hn d. refl;
  writes = λ u c hu hc d. cleared_away s.writes t u c hc d;
  reads = λ u c hu hc d. cleared_away s.reads t u c hc d;
}

-- ---- a prepare that was sent to every involved node

-- a holder of a cell that was read or written is involved
pub involves : (cells : ℕ) (masks w r : List ℕ) (t n c : ℕ) → c < cells → holds masks n c ≡ true → 0 < noted r t c + noted w t c → involved cells masks w r t n ≡ true
unfolding involved
involves cells masks w r t n c hc o l = any_has _ cells c hc (rw o (by_test (has r t c) (λ z. rw z) (λ z. rw z (lt-ltb 0 (noted w t c) (omega (arith, ltb-false))))))

-- a node that is sent a prepare, and one that is not
pub sent_here : (nodes cells : ℕ) (masks f w r : List ℕ) (t n : ℕ) → length f ≡ 256 → t < 32 → nodes ≤ 8 → n < nodes → involved cells masks w r t n ≡ true → at (sent_to nodes cells masks f w r t) (pair 8 t n) 0 ≡ pair word sent 0
unfolding sent_to
sent_here nodes cells masks f w r t n l ht hm hn e =
    each_hit 0 (pair 8 t) (λ m z. cond (involved cells masks w r t m) (pair word sent 0) z) f nodes n hn (omega arith) (λ i j lt hj z. omega arith) ∙ rw e

pub sent_not : (nodes cells : ℕ) (masks f w r : List ℕ) (t n : ℕ) → length f ≡ 256 → t < 32 → nodes ≤ 8 → n < nodes → involved cells masks w r t n ≡ false → at (sent_to nodes cells masks f w r t) (pair 8 t n) 0 ≡ at f (pair 8 t n) 0
unfolding sent_to
sent_not nodes cells masks f w r t n l ht hm hn e =
    each_hit 0 (pair 8 t) (λ m z. cond (involved cells masks w r t m) (pair word sent 0) z) f nodes n hn (omega arith) (λ i j lt hj z. omega arith) ∙ rw e

pub sent_away : (nodes cells : ℕ) (masks f w r : List ℕ) (t u n : ℕ) → nodes ≤ 8 → n < 8 → (u ≡ t → nodes ≤ n) → at (sent_to nodes cells masks f w r t) (pair 8 u n) 0 ≡ at f (pair 8 u n) 0
unfolding sent_to
sent_away nodes cells masks f w r t u n hm hn d =
    each_miss 0 (pair 8 t) (λ m z. cond (involved cells masks w r t m) (pair word sent 0) z) f nodes (pair 8 u n) (λ i hi z. let p = pair_inj 8 t i u n (omega arith) hn z in omega (arith, d (sym p.0), p.1))

sent_size : (nodes cells : ℕ) (masks f w r : List ℕ) (t : ℕ) → length (sent_to nodes cells masks f w r t) ≡ length f
unfolding sent_to
sent_size nodes cells masks f w r t = each_size 0 _ _ f nodes

pub sent_rows : (s : State) (t : ℕ) → Sizes s → Rows s t (sent_to s.group.nodes s.group.cells s.group.masks s.flight s.writes s.reads t) s.writes s.reads
sent_rows s t z = record {
  flight256 = sent_size s.group.nodes s.group.cells s.group.masks s.flight s.writes s.reads t ∙ z.flight256;
  writes1024 = z.writes1024;
  reads1024 = z.reads1024;
  flight = λ u n hu hn d. sent_away s.group.nodes s.group.cells s.group.masks s.flight s.writes s.reads t u n z.nodes_high hn (λ q. absurd (d q));
  writes = λ u c hu hc d. refl;
  reads = λ u c hu hc d. refl;
}
