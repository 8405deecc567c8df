-- A change of counters alone: none falls, and a commit number stays below what is pending.
-- Assumes nothing.
use mathlib.Core.List.{List}
use Prim.Native.Nat.{ℕ, ◌%◌, ◌≤◌, ◌<◌}
use native.Mathlib.Omega.{arith}
use Rattle.tables.specs.Pair.{word}
use Rattle.group.specs.declared.Ask.{Ask}
use Rattle.group.specs.declared.Note.{Note}
use Rattle.serial.specs.Serial.{Handed}
use Rattle.serial.proofs.Inv.{Nodes, Slots, Links, Ground, Counting, Numbering, Transaction, Chaining, Given, Reading, Inv}

pub record Rises (C C' : Nodes) (S : Slots) : Type 0 where
  pub cnt : (n : ℕ) → n < 8 → C.cnt n ≤ C'.cnt n
  pub cmt : (n : ℕ) → n < 8 → C.cmt n ≤ C'.cmt n
  pub fits : (n : ℕ) → n < 8 → C'.cnt n < word
  pub commit : (n : ℕ) → n < 8 → C'.cmt n ≤ C'.cnt n
  pub seen : (n : ℕ) → n < 8 → C'.see n ≤ C'.cnt n
  pub pending : (t n : ℕ) → t < 32 → n < 8 → 3 ≤ S.tag t n → S.tag t n ≤ 4 → C'.cmt n < S.num t n

module _ (C C' : Nodes) (S : Slots) (q : Rises C C' S) where
  pub rises_counting : Counting C S → Counting C' S
  rises_counting a = record {
    fits = q.fits;
    commit = q.commit;
    seen = q.seen;
    pending = λ t n ht hn l h. omega (arith, q.pending t n ht hn l h, a.pending t n ht hn l h, q.cnt n hn);
  }

  pub rises_numbering : Numbering C S → Numbering C' S
  rises_numbering a = record {
    own = a.own;
    apart = a.apart;
    given = λ t ht f. omega (arith, a.given t ht f, q.cnt (S.fin t % 8) (omega arith));
    once = a.once;
    finals = a.finals;
  }

  pub rises_transaction : (G : Ground) (t : ℕ) → Transaction G C S t → Transaction G C' S t
  rises_transaction G t a = record {
    low = a.low;
    outside = a.outside;
    early = a.early;
    plain = a.plain;
    voting = a.voting;
    voted = a.voted;
    below = a.below;
    learned = a.learned;
    past = λ n hn f e. omega (arith, a.past n hn f e, q.cmt n hn);
    stage = a.stage;
    wrote = a.wrote;
    votes = a.votes;
    in_run = a.in_run;
    values = a.values;
    sent = a.sent;
    entered = a.entered;
  }

  pub rises_chaining : (G : Ground) (K : Links) → Chaining G C S K → Chaining G C' S K
  rises_chaining G K a = record {
    some = a.some;
    zero = a.zero;
    up = a.up;
    under = λ n c i hn hc g l. omega (arith, a.under n c i hn hc g l, q.cmt n hn);
    made = a.made;
    kept = a.kept;
  }

  pub rises_given : (G : Ground) (n c s v : ℕ) → Given G C S n c s v → Given G C' S n c s v
  rises_given G n c s v a = record {
    node_low = a.node_low;
    cell_low = a.cell_low;
    holder = a.holder;
    counted = omega (arith, a.counted, q.cnt n a.node_low);
    later = a.later;
    latest = a.latest;
  }

  pub rises_reading : (G : Ground) (t : ℕ) (a : Ask) (v : Note) → Reading G C S t a v → Reading G C' S t a v
  rises_reading G t a v r = record { asked = r.asked; exact = r.exact; served = λ e. rises_given G _ _ _ _ (r.served e); same = r.same; unused = r.unused; bounded = r.bounded }

  pub rises : (G : Ground) (K : Links) (a : ℕ → Ask) (v : ℕ → Note) (H : List Handed) → Inv G C S K a v H → Inv G C' S K a v H
  rises G K a v H i = record {
    counting = rises_counting i.counting;
    numbering = rises_numbering i.numbering;
    deciding = λ t ht. rises_transaction G t (i.deciding t ht);
    locking = i.locking;
    chaining = rises_chaining G K i.chaining;
    reading = λ t ht. rises_reading G t (a t) (v t) (i.reading t ht);
    handing = record { given = λ h m. rises_given G _ _ _ _ (i.handing.given h m); took = i.handing.took };
  }
