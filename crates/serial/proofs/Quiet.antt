-- A quiet change: of one transaction that is no writer before or after, with nothing newly pending. Whatever speaks of pending entries and of
-- writers stays.
-- Assumes nothing.
use mathlib.Core.Path.{◌≡◌, sym, ap, ◌∙◌}
use mathlib.Core.Logic.{◌≢◌, ◌⊎◌, ⊎_elim}
use mathlib.Core.List.{List, Memᴰ}
use Prim.Native.Nat.{ℕ, ◌%◌, ◌≤◌, ◌<◌}
use native.Mathlib.Omega.{arith}
use native.Mathlib.Decide.{ℕ_discrete}
use Rattle.group.specs.declared.Ask.{Ask}
use Rattle.group.specs.declared.Note.{Note}
use Rattle.serial.specs.Serial.{Handed}
use Rattle.serial.proofs.Inv.{Nodes, Slots, Links, Ground, Counting, Numbering, Writes, writes, Transaction, Locking, From, from, Chaining, Latest, untouched, last, Given, Took, Reading, Inv}

-- transaction u looks the same
pub record Alike (S S' : Slots) (u : ℕ) : Type 0 where
  pub stg : S'.stg u ≡ S.stg u
  pub fin : S'.fin u ≡ S.fin u
  pub snap : S'.snap u ≡ S.snap u
  pub tag : (n : ℕ) → n < 8 → S'.tag u n ≡ S.tag u n
  pub num : (n : ℕ) → n < 8 → S'.num u n ≡ S.num u n
  pub wr : (c : ℕ) → c < 32 → S'.wr u c ≡ S.wr u c
  pub rd : (c : ℕ) → c < 32 → S'.rd u c ≡ S.rd u c

-- what is pending was pending, finals stay, and writers look the same
pub record Still (S S' : Slots) : Type 0 where
  pub fin : (u : ℕ) → u < 32 → S'.fin u ≡ S.fin u
  pub writer : (u : ℕ) → u < 32 → 0 < S.fin u → Alike S S' u
  pub tag : (u n : ℕ) → u < 32 → n < 8 → 3 ≤ S'.tag u n → S'.tag u n ≤ 4 → S'.tag u n ≡ S.tag u n
  pub num : (u n : ℕ) → u < 32 → n < 8 → 3 ≤ S'.tag u n → S'.tag u n ≤ 4 → S'.num u n ≡ S.num u n
  pub wr : (u n c : ℕ) → u < 32 → n < 8 → c < 32 → 3 ≤ S'.tag u n → S'.tag u n ≤ 4 → S'.wr u c ≡ S.wr u c
  pub rd : (u n c : ℕ) → u < 32 → n < 8 → c < 32 → 3 ≤ S'.tag u n → S'.tag u n ≤ 4 → S'.rd u c ≡ S.rd u c
  pub snap : (u n : ℕ) → u < 32 → n < 8 → 3 ≤ S'.tag u n → S'.tag u n ≤ 4 → S'.snap u ≡ S.snap u

module _ (S S' : Slots) (q : Still S S') where
  was : (t n : ℕ) → t < 32 → n < 8 → 3 ≤ S'.tag t n → S'.tag t n ≤ 4 → (3 ≤ S.tag t n) × (S.tag t n ≤ 4)
  was t n ht hn l h = omega (arith, q.tag t n ht hn l h)

  pub still_counting : (C : Nodes) → Counting C S → Counting C S'
  still_counting C a = record {
    fits = a.fits;
    commit = a.commit;
    seen = a.seen;
    pending = λ t n ht hn l h. let w = was t n ht hn l h in rw (q.num t n ht hn l h) (a.pending t n ht hn w.0 w.1);
  }

  pub still_numbering : (C : Nodes) → Numbering C S → Numbering C S'
  still_numbering C a = record {
    own = λ t n ht hn e. let l : 3 ≤ S'.tag t n = omega arith in let h : S'.tag t n ≤ 4 = omega arith in
        rw (q.num t n ht hn l h) (a.own t n ht hn (sym (q.tag t n ht hn l h) ∙ e));
    apart = λ t u n ht hu hn d l h l' h'. let w = was t n ht hn l h in let w' = was u n hu hn l' h' in
        rw (q.num t n ht hn l h, q.num u n hu hn l' h') (a.apart t u n ht hu hn d w.0 w.1 w'.0 w'.1);
    given = λ t ht f. rw (q.fin t ht) (a.given t ht (omega (arith, q.fin t ht)));
    once = λ t u ht hu d f e. let p : S.fin t % 8 < 8 = omega arith in let e' : S'.tag u (S.fin t % 8) ≡ 3 = rw (q.fin t ht) at e in
        let l : 3 ≤ S'.tag u (S.fin t % 8) = omega arith in let h : S'.tag u (S.fin t % 8) ≤ 4 = omega arith in
        rw (q.fin t ht, q.num u (S.fin t % 8) hu p l h) (a.once t u ht hu d (omega (arith, q.fin t ht)) (sym (q.tag u (S.fin t % 8) hu p l h) ∙ e'));
    finals = λ t u ht hu d f f'. rw (q.fin t ht, q.fin u hu) (a.finals t u ht hu d (omega (arith, q.fin t ht)) (omega (arith, q.fin u hu)));
  }

  -- a writer after the change was one before
  wrote : (u : ℕ) → u < 32 → 0 < S'.fin u → 0 < S.fin u
  wrote u hu f = omega (arith, q.fin u hu)

  pub still_locking : (G : Ground) (K : Links) → Locking G S K → Locking G S' K
  still_locking G K a = record {
    alone = λ t u n c ht hu hn hc d l h l' h' g w. let x = was t n ht hn l h in let y = was u n hu hn l' h' in
        rw (q.rd u n c hu hn hc l' h', q.wr u n c hu hn hc l' h') (a.alone t u n c ht hu hn hc d x.0 x.1 y.0 y.1 g (omega (arith, q.wr t n c ht hn hc l h)));
    room = λ t n c ht hn hc l h g w. let x = was t n ht hn l h in a.room t n c ht hn hc x.0 x.1 g (omega (arith, q.wr t n c ht hn hc l h));
    current = λ t u n c ht hu hn hc d l h g r f w e. let x = was t n ht hn l h in let k = q.writer u hu (wrote u hu f) in
        rw (k.fin, q.snap t n ht hn l h) (a.current t u n c ht hu hn hc d x.0 x.1 g (omega (arith, q.rd t n c ht hn hc l h)) (wrote u hu f) (omega (arith, k.wr c hc)) (sym (k.tag n hn) ∙ e));
    valid = λ t u n c ht hu hn hc d f e g r f' w e' b. let k = q.writer u hu (wrote u hu f') in let m = q.writer t ht (wrote t ht f) in
        rw (k.fin, m.fin) (a.valid t u n c ht hu hn hc d (wrote t ht f) (sym (m.tag n hn) ∙ e) g (omega (arith, m.rd c hc)) (wrote u hu f') (omega (arith, k.wr c hc)) (sym (k.tag n hn) ∙ e') (omega (arith, m.snap, k.fin)));
  }

  pub still_chaining : (G : Ground) (C : Nodes) (K : Links) → Chaining G C S K → Chaining G C S' K
  still_chaining G C K a = record {
    some = a.some;
    zero = a.zero;
    up = a.up;
    under = a.under;
    made = λ n c i hn hc g l h. again n c hn hc (a.made n c i hn hc g l h);
    kept = λ n c t hn hc ht g f w e. let k = q.writer t ht (wrote t ht f) in
        rw (k.fin, k.wr c hc) (a.kept n c t hn hc ht g (wrote t ht f) (omega (arith, k.wr c hc)) (sym (k.tag n hn) ∙ e));
  }
    where
      again : {k v : ℕ} (n c : ℕ) → n < 8 → c < 32 → From S n c k v → From S' n c k v
      again n c hn hc (from t ht f w e b) = let k = q.writer t ht f in from t ht (omega (arith, k.fin)) (k.wr c hc ∙ w) (k.tag n hn ∙ e) (b ∙ sym k.fin)

  pub still_latest : (G : Ground) (c k v : ℕ) → c < 32 → Latest G S c k v → Latest G S' c k v
  still_latest G c k v hc (untouched f e) =
      untouched (λ t ht g w. let m = q.writer t ht (wrote t ht g) in omega (arith, m.fin, f t ht (wrote t ht g) (omega (arith, m.wr c hc)))) e
  still_latest G c k v hc (last t ht f w l m) =
      let x = q.writer t ht f in
      last t ht (omega (arith, x.fin)) (x.wr c hc ∙ w) (omega (arith, x.fin))
      (λ u hu g z b. let y = q.writer u hu (wrote u hu g) in omega (arith, x.fin, y.fin, m u hu (wrote u hu g) (omega (arith, y.wr c hc)) (omega (arith, y.fin))))

  pub still_given : (G : Ground) (C : Nodes) (n c s v : ℕ) → Given G C S n c s v → Given G C S' n c s v
  still_given G C n c s v a = record {
    node_low = a.node_low;
    cell_low = a.cell_low;
    holder = a.holder;
    counted = a.counted;
    later = λ u hu l h w. let x = was u n hu a.node_low l h in
        rw (q.num u n hu a.node_low l h) (a.later u hu x.0 x.1 (omega (arith, q.wr u n c hu a.node_low a.cell_low l h)));
    latest = still_latest G c s v a.cell_low a.latest;
  }

-- a transaction that looks the same is as it was
pub alike_transaction : (G : Ground) (C : Nodes) (S S' : Slots) (u : ℕ) → Alike S S' u → Transaction G C S u → Transaction G C S' u
alike_transaction G C S S' u k a = record {
  low = λ n hn. rw (k.tag n hn) (a.low n hn);
  outside = λ n hn o. k.tag n hn ∙ a.outside n hn o;
  early = λ n hn e. k.tag n hn ∙ a.early n hn (rw k.stg at e);
  plain = λ n hn e f. k.tag n hn ∙ a.plain n hn (sym k.stg ∙ e) (sym k.fin ∙ f);
  voting = λ n hn e. rw (k.tag n hn) (a.voting n hn (sym k.stg ∙ e));
  voted = λ n hn f e. rw (k.tag n hn) (a.voted n hn (rw k.fin at f) (rw (k.tag n hn) at e));
  below = λ n hn f e. rw (k.num n hn, k.fin) (a.below n hn (rw k.fin at f) (sym (k.tag n hn) ∙ e));
  learned = λ n hn e. rw (k.num n hn, k.fin) (a.learned n hn (sym (k.tag n hn) ∙ e));
  past = λ n hn f e. rw k.fin (a.past n hn (rw k.fin at f) (sym (k.tag n hn) ∙ e));
  stage = λ f. k.stg ∙ a.stage (rw k.fin at f);
  wrote = λ c hc e w. rw k.fin (a.wrote c hc (sym k.stg ∙ e) (rw (k.wr c hc) at w));
  votes = λ e. again (a.votes (sym k.stg ∙ e));
  in_run = λ c hc e w. a.in_run c hc (rw k.stg at e) (rw (k.wr c hc) at w);
  values = λ c hc. rw (k.wr c hc) (a.values c hc);
  sent = λ n c hn hc e g w. rw (k.tag n hn) (a.sent n c hn hc (sym k.stg ∙ e) g (rw (k.rd c hc, k.wr c hc) at w));
  entered = λ n c hn hc f g w. rw (k.tag n hn) (a.entered n c hn hc (rw k.fin at f) g (rw (k.rd c hc, k.wr c hc) at w));
}
  where
    again : Writes G S u → Writes G S' u
    again (writes c hc l w) = writes c hc l (rw (k.wr c hc) w)

-- ---- the change

-- transaction t before and after: no writer, nothing newly pending; and what it was handed still counts
pub record QuietAt (S S' : Slots) (t : ℕ) : Type 0 where
  pub none : S.fin t ≡ 0
  pub none' : S'.fin t ≡ 0
  pub tag : (n : ℕ) → n < 8 → 3 ≤ S'.tag t n → S'.tag t n ≤ 4 → S'.tag t n ≡ S.tag t n
  pub num : (n : ℕ) → n < 8 → 3 ≤ S'.tag t n → S'.tag t n ≤ 4 → S'.num t n ≡ S.num t n
  pub wr : (n c : ℕ) → n < 8 → c < 32 → 3 ≤ S'.tag t n → S'.tag t n ≤ 4 → S'.wr t c ≡ S.wr t c
  pub rd : (n c : ℕ) → n < 8 → c < 32 → 3 ≤ S'.tag t n → S'.tag t n ≤ 4 → S'.rd t c ≡ S.rd t c
  pub snap : (n : ℕ) → n < 8 → 3 ≤ S'.tag t n → S'.tag t n ≤ 4 → S'.snap t ≡ S.snap t
  pub fixed : 0 < S.snap t → S'.snap t ≡ S.snap t
  pub joined : (c : ℕ) → c < 32 → 0 < S.snap t → 0 < S.rd t c → 0 < S'.rd t c

module _ (S S' : Slots) (t : ℕ) (others : (u : ℕ) → u < 32 → u ≢ t → Alike S S' u) (q : QuietAt S S' t) where
  pub still : Still S S'
  still = record {
    fin = λ u hu. elim (ℕ_discrete u t) [ yes e ↦ rw e (q.none' ∙ sym q.none) | no e ↦ (others u hu e).fin ];
    writer = λ u hu f. elim (ℕ_discrete u t) [ yes e ↦ absurd (omega (arith, ap S.fin e, q.none)) | no e ↦ others u hu e ];
    tag = λ u n hu hn l h. elim (ℕ_discrete u t) [ yes e ↦ rw e (q.tag n hn (rw e at l) (rw e at h)) | no e ↦ (others u hu e).tag n hn ];
    num = λ u n hu hn l h. elim (ℕ_discrete u t) [ yes e ↦ rw e (q.num n hn (rw e at l) (rw e at h)) | no e ↦ (others u hu e).num n hn ];
    wr = λ u n c hu hn hc l h. elim (ℕ_discrete u t) [ yes e ↦ rw e (q.wr n c hn hc (rw e at l) (rw e at h)) | no e ↦ (others u hu e).wr c hc ];
    rd = λ u n c hu hn hc l h. elim (ℕ_discrete u t) [ yes e ↦ rw e (q.rd n c hn hc (rw e at l) (rw e at h)) | no e ↦ (others u hu e).rd c hc ];
    snap = λ u n hu hn l h. elim (ℕ_discrete u t) [ yes e ↦ rw e (q.snap n hn (rw e at l) (rw e at h)) | no e ↦ (others u hu e).snap ];
  }

  took : (h : Handed) → h.node < 8 → h.cell < 32 → Took S h → Took S' h
  took h hn hc k = record {
    slot_low = k.slot_low;
    fixed = elim (ℕ_discrete h.slot t) [
      | yes e ↦ rw e (q.fixed (omega (arith, ap S.snap e, k.fixed)) ∙ ap S.snap (sym e) ∙ k.fixed)
      | no e ↦ (others h.slot k.slot_low e).snap ∙ k.fixed
    ];
    joined = elim (ℕ_discrete h.slot t) [
      | yes e ↦ rw e (q.joined h.cell hc (omega (arith, ap S.snap e, k.fixed)) (rw e at k.joined))
      | no e ↦ rw ((others h.slot k.slot_low e).rd h.cell hc) k.joined
    ];
    ahead = λ l b. rw (still.num h.slot h.node k.slot_low hn l b) (k.ahead (rw (still.tag h.slot h.node k.slot_low hn l b) at l) (rw (still.tag h.slot h.node k.slot_low hn l b) at b));
    after = λ f. rw (still.fin h.slot k.slot_low) (k.after (rw (still.fin h.slot k.slot_low) at f));
  }

  module _ (G : Ground) (C : Nodes) (K : Links) (a a' : ℕ → Ask) (v v' : ℕ → Note) (H H' : List Handed)
      (asks : (u : ℕ) → u ≢ t → a' u ≡ a u) (notes : (u : ℕ) → u ≢ t → v' u ≡ v u)
      (own : Transaction G C S' t) (its : Reading G C S' t (a' t) (v' t))
      (new : (h : Handed) → Memᴰ h H' → Memᴰ h H ⊎ (Given G C S' h.node h.cell h.s h.value × Took S' h)) (i : Inv G C S K a v H) where
    others_read : (u : ℕ) → u < 32 → u ≢ t → Reading G C S' u (a' u) (v' u)
    others_read u hu e = let k = others u hu e in let r = i.reading u hu in rw (asks u e, notes u e) (record {
      asked = λ g. r.asked (sym k.stg ∙ g);
      exact = λ g f. rw k.snap (r.exact (sym k.stg ∙ g) (rw k.snap at f));
      served = λ g. still_given S S' still G C _ _ _ _ (r.served (sym k.stg ∙ g));
      same = λ g f. k.snap ∙ r.same (sym k.stg ∙ g) (rw k.snap at f);
      unused = λ g. k.snap ∙ r.unused (sym k.stg ∙ g);
      bounded = rw k.snap r.bounded;
    })

    pub quiet : Inv G C S' K a' v' H'
    quiet = record {
      counting = still_counting S S' still C i.counting;
      numbering = still_numbering S S' still C i.numbering;
      deciding = λ u hu. elim (ℕ_discrete u t) [ yes e ↦ rw e own | no e ↦ alike_transaction G C S S' u (others u hu e) (i.deciding u hu) ];
      locking = still_locking S S' still G K i.locking;
      chaining = still_chaining S S' still G C K i.chaining;
      reading = λ u hu. elim (ℕ_discrete u t) [ yes e ↦ rw e its | no e ↦ others_read u hu e ];
      handing = record {
        given = λ h m. ⊎_elim (λ x. still_given S S' still G C _ _ _ _ (i.handing.given h x)) (λ x. x.0) (new h m);
        took = λ h m. ⊎_elim (λ x. let g = i.handing.given h x in took h g.node_low g.cell_low (i.handing.took h x)) (λ x. x.1) (new h m);
      };
    }
