-- What holds of every state that a sound group reaches from fresh, in groups, each over the views that it reads.
-- Assumes nothing.
use mathlib.Core.Path.{◌≡◌}
use mathlib.Core.Logic.{◌≢◌}
use mathlib.Core.Bool.{Bool, true}
use mathlib.Core.List.{List, Memᴰ}
use Prim.Native.Nat.{ℕ, suc, ◌+◌, ◌%◌, ◌≤◌, ◌<◌}
use Rattle.tables.specs.Pair.{word}
use Rattle.group.specs.declared.Ask.{Ask}
use Rattle.group.specs.declared.Note.{Note}
use Rattle.serial.specs.Serial.{Handed}

-- ---- views

-- the counters of each node
pub record Nodes : Type 0 where
  pub cnt : ℕ → ℕ
  pub cmt : ℕ → ℕ
  pub see : ℕ → ℕ

-- of each transaction: its stage, final number and snapshot (0 for none, else one more); its entry at each node; what it wrote and read
pub record Slots : Type 0 where
  pub stg : ℕ → ℕ
  pub fin : ℕ → ℕ
  pub snap : ℕ → ℕ
  pub tag : ℕ → ℕ → ℕ
  pub num : ℕ → ℕ → ℕ
  pub wr : ℕ → ℕ → ℕ
  pub rd : ℕ → ℕ → ℕ

-- the chain of each cell at each node: its length, and each version's number and value
pub record Links : Type 0 where
  pub len : ℕ → ℕ → ℕ
  pub vnum : ℕ → ℕ → ℕ → ℕ
  pub vval : ℕ → ℕ → ℕ → ℕ

-- what stays the same: who holds what, how many nodes and cells there are, and the cells' first values
pub record Ground : Type 0 where
  pub hold : ℕ → ℕ → Bool
  pub nodes : ℕ
  pub cells : ℕ
  pub first : ℕ → ℕ

-- ---- counters

pub record Counting (C : Nodes) (S : Slots) : Type 0 where
  pub fits : (n : ℕ) → n < 8 → C.cnt n < word
  pub commit : (n : ℕ) → n < 8 → C.cmt n ≤ C.cnt n
  pub seen : (n : ℕ) → n < 8 → C.see n ≤ C.cnt n
  pub pending : (t n : ℕ) → t < 32 → n < 8 → 3 ≤ S.tag t n → S.tag t n ≤ 4 → (C.cmt n < S.num t n) × (S.num t n ≤ C.cnt n)

-- ---- numbers

pub record Numbering (C : Nodes) (S : Slots) : Type 0 where
  pub own : (t n : ℕ) → t < 32 → n < 8 → S.tag t n ≡ 3 → S.num t n % 8 ≡ n
  pub apart :
      (t u n : ℕ) → t < 32 → u < 32 → n < 8 → t ≢ u → 3 ≤ S.tag t n → S.tag t n ≤ 4 → 3 ≤ S.tag u n → S.tag u n ≤ 4
      → S.num t n ≢ S.num u n
  pub given : (t : ℕ) → t < 32 → 0 < S.fin t → S.fin t ≤ C.cnt (S.fin t % 8)
  pub once :
      (t u : ℕ) → t < 32 → u < 32 → u ≢ t → 0 < S.fin t → S.tag u (S.fin t % 8) ≡ 3 → S.num u (S.fin t % 8) ≢ S.fin t
  pub finals : (t u : ℕ) → t < 32 → u < 32 → t ≢ u → 0 < S.fin t → 0 < S.fin u → S.fin t ≢ S.fin u

-- ---- decisions

pub data Writes (G : Ground) (S : Slots) (t : ℕ) : Type 0 where
  writes : (c : ℕ) → c < 32 → c < G.cells → 0 < S.wr t c → Writes G S t

-- one transaction: its entries go with its stage
pub record Transaction (G : Ground) (C : Nodes) (S : Slots) (t : ℕ) : Type 0 where
  pub low : (n : ℕ) → n < 8 → S.tag t n ≤ 5
  pub outside : (n : ℕ) → n < 8 → G.nodes ≤ n → S.tag t n ≡ 0
  pub early : (n : ℕ) → n < 8 → S.stg t < 4 → S.tag t n ≡ 0
  pub plain : (n : ℕ) → n < 8 → S.stg t ≡ 5 → S.fin t ≡ 0 → S.tag t n ≡ 0
  pub voting : (n : ℕ) → n < 8 → S.stg t ≡ 4 → S.tag t n ≤ 3
  pub voted : (n : ℕ) → n < 8 → 0 < S.fin t → 1 ≤ S.tag t n → 3 ≤ S.tag t n
  pub below : (n : ℕ) → n < 8 → 0 < S.fin t → S.tag t n ≡ 3 → S.num t n ≤ S.fin t
  pub learned : (n : ℕ) → n < 8 → S.tag t n ≡ 4 → (0 < S.fin t) × (S.num t n ≡ S.fin t)
  pub past : (n : ℕ) → n < 8 → 0 < S.fin t → S.tag t n ≡ 5 → S.fin t ≤ C.cmt n
  pub stage : 0 < S.fin t → S.stg t ≡ 5
  pub wrote : (c : ℕ) → c < 32 → S.stg t ≡ 5 → 0 < S.wr t c → 0 < S.fin t
  pub votes : S.stg t ≡ 4 → Writes G S t
  pub in_run : (c : ℕ) → c < 32 → 0 < S.stg t → 0 < S.wr t c → c < G.cells
  pub values : (c : ℕ) → c < 32 → S.wr t c ≤ word
  pub sent : (n c : ℕ) → n < 8 → c < 32 → S.stg t ≡ 4 → G.hold n c ≡ true → 0 < S.rd t c + S.wr t c → 1 ≤ S.tag t n
  pub entered : (n c : ℕ) → n < 8 → c < 32 → 0 < S.fin t → G.hold n c ≡ true → 0 < S.rd t c + S.wr t c → 1 ≤ S.tag t n

-- ---- locks

pub record Locking (G : Ground) (S : Slots) (K : Links) : Type 0 where
  pub alone :
      (t u n c : ℕ) → t < 32 → u < 32 → n < 8 → c < 32 → t ≢ u → 3 ≤ S.tag t n → S.tag t n ≤ 4 → 3 ≤ S.tag u n → S.tag u n ≤ 4
      → G.hold n c ≡ true → 0 < S.wr t c → (S.rd u c ≡ 0) × (S.wr u c ≡ 0)
  pub room :
      (t n c : ℕ) → t < 32 → n < 8 → c < 32 → 3 ≤ S.tag t n → S.tag t n ≤ 4 → G.hold n c ≡ true → 0 < S.wr t c → K.len c n ≤ 7
  pub current :
      (t u n c : ℕ) → t < 32 → u < 32 → n < 8 → c < 32 → u ≢ t → 3 ≤ S.tag t n → S.tag t n ≤ 4 → G.hold n c ≡ true → 0 < S.rd t c
      → 0 < S.fin u → 0 < S.wr u c → S.tag u n ≡ 5 → S.fin u < S.snap t
  pub valid :
      (t u n c : ℕ) → t < 32 → u < 32 → n < 8 → c < 32 → u ≢ t → 0 < S.fin t → S.tag t n ≡ 5 → G.hold n c ≡ true → 0 < S.rd t c
      → 0 < S.fin u → 0 < S.wr u c → S.tag u n ≡ 5 → S.snap t ≤ S.fin u → S.fin t < S.fin u

-- ---- chains

-- the version is what a finished writer wrote
pub data From (S : Slots) (n c k v : ℕ) : Type 0 where
  from : (t : ℕ) → t < 32 → 0 < S.fin t → S.wr t c ≡ suc v → S.tag t n ≡ 5 → k ≡ S.fin t → From S n c k v

-- what a finished writer wrote is a version
pub data Into (K : Links) (n c k w : ℕ) : Type 0 where
  into : (i : ℕ) → 0 < i → i < K.len c n → K.vnum c n i ≡ k → w ≡ suc (K.vval c n i) → Into K n c k w

pub record Chaining (G : Ground) (C : Nodes) (S : Slots) (K : Links) : Type 0 where
  pub some : (n c : ℕ) → n < 8 → c < 32 → G.hold n c ≡ true → (1 ≤ K.len c n) × (K.len c n ≤ 8)
  pub zero : (n c : ℕ) → n < 8 → c < 32 → G.hold n c ≡ true → (K.vnum c n 0 ≡ 0) × (K.vval c n 0 ≡ G.first c)
  pub up : (n c i j : ℕ) → n < 8 → c < 32 → G.hold n c ≡ true → i < j → j < K.len c n → K.vnum c n i < K.vnum c n j
  pub under : (n c i : ℕ) → n < 8 → c < 32 → G.hold n c ≡ true → i < K.len c n → K.vnum c n i ≤ C.cmt n
  pub made :
      (n c i : ℕ) → n < 8 → c < 32 → G.hold n c ≡ true → 0 < i → i < K.len c n → From S n c (K.vnum c n i) (K.vval c n i)
  pub kept :
      (n c t : ℕ) → n < 8 → c < 32 → t < 32 → G.hold n c ≡ true → 0 < S.fin t → 0 < S.wr t c → S.tag t n ≡ 5
      → Into K n c (S.fin t) (S.wr t c)

-- ---- reads

-- what the copy holds in cell c after all numbers up to k
pub data Latest (G : Ground) (S : Slots) (c k v : ℕ) : Type 0 where
  untouched : ((t : ℕ) → t < 32 → 0 < S.fin t → 0 < S.wr t c → k < S.fin t) → v ≡ G.first c → Latest G S c k v
  last :
      (t : ℕ) → t < 32 → 0 < S.fin t → S.wr t c ≡ suc v → S.fin t ≤ k
      → ((u : ℕ) → u < 32 → 0 < S.fin u → 0 < S.wr u c → S.fin u ≤ k → S.fin u ≤ S.fin t) → Latest G S c k v

-- a value v of cell c that node n gave at s, or has noted
pub record Given (G : Ground) (C : Nodes) (S : Slots) (n c s v : ℕ) : Type 0 where
  pub node_low : n < 8
  pub cell_low : c < 32
  pub holder : G.hold n c ≡ true
  pub counted : s ≤ C.cnt n
  pub later : (u : ℕ) → u < 32 → 3 ≤ S.tag u n → S.tag u n ≤ 4 → 0 < S.wr u c → s < S.num u n
  pub latest : Latest G S c s v

-- the transaction that it was handed to
pub record Took (S : Slots) (h : Handed) : Type 0 where
  pub slot_low : h.slot < 32
  pub fixed : S.snap h.slot ≡ suc h.s
  pub joined : 0 < S.rd h.slot h.cell
  pub ahead : 3 ≤ S.tag h.slot h.node → S.tag h.slot h.node ≤ 4 → h.s < S.num h.slot h.node
  pub after : 0 < S.fin h.slot → h.s < S.fin h.slot

pub record Handing (G : Ground) (C : Nodes) (S : Slots) (H : List Handed) : Type 0 where
  pub given : (h : Handed) → Memᴰ h H → Given G C S h.node h.cell h.s h.value
  pub took : (h : Handed) → Memᴰ h H → Took S h

-- ---- slots

-- what a transaction asks for, and what was noted for it
pub record Reading (G : Ground) (C : Nodes) (S : Slots) (t : ℕ) (a : Ask) (v : Note) : Type 0 where
  pub asked : S.stg t ≡ 2 → (a.node < 8) × (a.cell < 32) × (G.hold a.node a.cell ≡ true) × (a.carried < word)
  pub exact : S.stg t ≡ 2 → 0 < S.snap t → (a.exact ≡ true) × (S.snap t ≡ suc a.carried)
  pub served : S.stg t ≡ 3 → Given G C S v.node v.cell v.s v.value
  pub same : S.stg t ≡ 3 → 0 < S.snap t → S.snap t ≡ suc v.s
  pub unused : S.stg t ≡ 0 → S.snap t ≡ 0
  pub bounded : S.snap t ≤ word

-- ---- all of it

pub record Inv (G : Ground) (C : Nodes) (S : Slots) (K : Links) (a : ℕ → Ask) (v : ℕ → Note) (H : List Handed) : Type 0 where
  pub counting : Counting C S
  pub numbering : Numbering C S
  pub deciding : (t : ℕ) → t < 32 → Transaction G C S t
  pub locking : Locking G S K
  pub chaining : Chaining G C S K
  pub reading : (t : ℕ) → t < 32 → Reading G C S t (a t) (v t)
  pub handing : Handing G C S H
