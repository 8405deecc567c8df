-- An entry becomes pending, or takes a higher number, and the counter is at least that: a yes vote, and the learning of a commit.
-- Assumes nothing.
use mathlib.Core.Path.{◌≡◌, refl, sym, ap, ◌∙◌}
use mathlib.Core.Logic.{◌≢◌}
use mathlib.Core.Bool.{true}
use mathlib.Core.List.{List}
use Prim.Native.Nat.{ℕ, ◌%◌, ◌≤◌, ◌<◌}
use native.Mathlib.Omega.{arith}
use native.Mathlib.Decide.{ℕ_discrete}
use Rattle.group.specs.declared.Ask.{Ask}
use Rattle.group.specs.declared.Note.{Note}
use Rattle.serial.specs.Serial.{Handed}
use Rattle.serial.proofs.Inv.{Nodes, Slots, Links, Ground, Counting, Numbering, Transaction, Locking, From, from, Chaining, Latest, untouched, last, Given, Took, Inv}
use Rattle.serial.proofs.Counts.{Rises, rises_transaction}
use Rattle.serial.proofs.Quiet.{alike_transaction}

-- the views with other entries
abbrev pub with_entries : Slots → (ℕ → ℕ → ℕ) → (ℕ → ℕ → ℕ) → Slots
with_entries S tag num = record { stg = S.stg; fin = S.fin; snap = S.snap; tag = tag; num = num; wr = S.wr; rd = S.rd }

-- the entry of t at n is another, and all others are as they were
pub data Entry (S : Slots) (tag num : ℕ → ℕ → ℕ) (t n g k u m : ℕ) : Type 0 where
  here : u ≡ t → m ≡ n → tag u m ≡ g → num u m ≡ k → Entry S tag num t n g k u m
  away : (u ≡ t → m ≢ n) → tag u m ≡ S.tag u m → num u m ≡ S.num u m → Entry S tag num t n g k u m

pub record JoinsAt (G : Ground) (C C' : Nodes) (S : Slots) (K : Links) (t n g k : ℕ) : Type 0 where
  pub slot_low : t < 32
  pub node_low : n < 8
  pub pending : (3 ≤ g) × (g ≤ 4)
  pub before : S.tag t n ≢ 5
  pub above : C.cmt n < k
  pub counted : k ≤ C'.cnt n
  pub stays : (m : ℕ) → m < 8 → C'.cmt m ≡ C.cmt m
  pub own : g ≡ 3 → k % 8 ≡ n
  pub apart : (u : ℕ) → u < 32 → u ≢ t → 3 ≤ S.tag u n → S.tag u n ≤ 4 → S.num u n ≢ k
  pub once : (u : ℕ) → u < 32 → u ≢ t → 0 < S.fin u → S.fin u % 8 ≡ n → g ≡ 3 → k ≢ S.fin u
  pub alone :
      (u c : ℕ) → u < 32 → c < 32 → u ≢ t → 3 ≤ S.tag u n → S.tag u n ≤ 4 → G.hold n c ≡ true
      → (0 < S.wr t c → (S.rd u c ≡ 0) × (S.wr u c ≡ 0)) × (0 < S.wr u c → (S.rd t c ≡ 0) × (S.wr t c ≡ 0))
  pub room : (c : ℕ) → c < 32 → G.hold n c ≡ true → 0 < S.wr t c → K.len c n ≤ 7
  pub current :
      (u c : ℕ) → u < 32 → c < 32 → u ≢ t → G.hold n c ≡ true → 0 < S.rd t c → 0 < S.fin u → 0 < S.wr u c → S.tag u n ≡ 5
      → S.fin u < S.snap t
  pub over : (c s v : ℕ) → Given G C S n c s v → 0 < S.wr t c → s < k
  pub ahead : (h : Handed) → Given G C S h.node h.cell h.s h.value → Took S h → h.slot ≡ t → h.node ≡ n → h.s < k

module _ (G : Ground) (C C' : Nodes) (S : Slots) (tag num : ℕ → ℕ → ℕ) (K : Links) (t n g k : ℕ)
    (look : (u m : ℕ) → u < 32 → m < 8 → Entry S tag num t n g k u m) (up : Rises C C' S) (q : JoinsAt G C C' S K t n g k) where
  abbrev S' : Slots
  S' = with_entries S tag num

  joins_counting : Counting C S → Counting C' S'
  joins_counting a = record {
    fits = up.fits;
    commit = up.commit;
    seen = up.seen;
    pending = λ u m hu hm l h. elim (look u m hu hm) [
      | here e d x y ↦ rw (y, d) (omega (arith, q.above, q.stays n q.node_low), q.counted)
      | away e x y ↦ rw y (omega (arith, a.pending u m hu hm (omega arith) (omega arith), up.cnt m hm, q.stays m hm))
    ];
  }

  joins_numbering : Numbering C S → Numbering C' S'
  joins_numbering a = record {
    own = λ u m hu hm e. elim (look u m hu hm) [
      | here i d x y ↦ rw (y, d) (q.own (sym x ∙ e))
      | away i x y ↦ rw y (a.own u m hu hm (sym x ∙ e))
    ];
    apart = λ u w m hu hw hm d l h l' h'. elim (look u m hu hm) [
      | here i j x y ↦ elim (look w m hw hm) [
        | here i' j' x' y' ↦ absurd (d (i ∙ sym i'))
        | away i' x' y' ↦ λ z. q.apart w hw (λ b. d (i ∙ sym b)) (omega (arith, ap (S.tag w) j)) (omega (arith, ap (S.tag w) j)) (ap (S.num w) (sym j) ∙ sym y' ∙ sym z ∙ y)
      ]
      | away i x y ↦ elim (look w m hw hm) [
        | here i' j' x' y' ↦ λ z. q.apart u hu (λ b. d (b ∙ sym i')) (omega (arith, ap (S.tag u) j')) (omega (arith, ap (S.tag u) j')) (ap (S.num u) (sym j') ∙ sym y ∙ z ∙ y')
        | away i' x' y' ↦ rw (y, y') (a.apart u w m hu hw hm d (omega arith) (omega arith) (omega arith) (omega arith))
      ]
    ];
    given = λ u hu f. omega (arith, a.given u hu f, up.cnt (S.fin u % 8) (omega arith));
    once = λ u w hu hw d f e. elim (look w (S.fin u % 8) hw (omega arith)) [
      | here i j x y ↦ rw y (q.once u hu (λ b. d (i ∙ sym b)) f j (sym x ∙ e))
      | away i x y ↦ rw y (a.once u w hu hw d f (sym x ∙ e))
    ];
    finals = a.finals;
  }

  -- what is finished was finished
  done : (u m : ℕ) → u < 32 → m < 8 → tag u m ≡ 5 → S.tag u m ≡ 5
  done u m hu hm e = elim (look u m hu hm) [ here i j x y ↦ absurd (omega (arith, q.pending)) | away i x y ↦ sym x ∙ e ]

  -- and stays so
  ends : (u m : ℕ) → u < 32 → m < 8 → S.tag u m ≡ 5 → tag u m ≡ 5
  ends u m hu hm e = elim (look u m hu hm) [ here i j x y ↦ absurd (q.before (sym (ap (λ (z : ℕ). S.tag z n) i) ∙ sym (ap (S.tag u) j) ∙ e)) | away i x y ↦ x ∙ e ]

  joins_locking : Locking G S K → Locking G S' K
  joins_locking a = record {
    alone = λ u w m c hu hw hm hc d l h l' h' b z. elim (look u m hu hm) [
      | here i j x y ↦ elim (look w m hw hm) [
        | here i' j' x' y' ↦ absurd (d (i ∙ sym i'))
        | away i' x' y' ↦ (q.alone w c hw hc (λ o. d (i ∙ sym o)) (omega (arith, ap (S.tag w) j)) (omega (arith, ap (S.tag w) j)) (rw j at b)).0 (rw i at z)
      ]
      | away i x y ↦ elim (look w m hw hm) [
        | here i' j' x' y' ↦ rw i' ((q.alone u c hu hc (λ o. d (o ∙ sym i')) (omega (arith, ap (S.tag u) j')) (omega (arith, ap (S.tag u) j')) (rw j' at b)).1 z)
        | away i' x' y' ↦ a.alone u w m c hu hw hm hc d (omega arith) (omega arith) (omega arith) (omega arith) b z
      ]
    ];
    room = λ u m c hu hm hc l h b z. elim (look u m hu hm) [
      | here i j x y ↦ rw j (q.room c hc (rw j at b) (rw i at z))
      | away i x y ↦ a.room u m c hu hm hc (omega arith) (omega arith) b z
    ];
    current = λ u w m c hu hw hm hc d l h b r f z e. elim (look u m hu hm) [
      | here i j x y ↦ rw i (q.current w c hw hc (λ o. d (o ∙ sym i)) (rw j at b) (rw i at r) f z (rw j at (done w m hw hm e)))
      | away i x y ↦ a.current u w m c hu hw hm hc d (omega arith) (omega arith) b r f z (done w m hw hm e)
    ];
    valid = λ u w m c hu hw hm hc d f e b r f' z e' o. a.valid u w m c hu hw hm hc d f (done u m hu hm e) b r f' z (done w m hw hm e') o;
  }

  joins_chaining : Chaining G C S K → Chaining G C' S' K
  joins_chaining a = record {
    some = a.some;
    zero = a.zero;
    up = a.up;
    under = λ m c i hm hc b l. omega (arith, a.under m c i hm hc b l, q.stays m hm);
    made = λ m c i hm hc b l h. again m c hm (a.made m c i hm hc b l h);
    kept = λ m c u hm hc hu b f z e. a.kept m c u hm hc hu b f z (done u m hu hm e);
  }
    where
      again : {x y : ℕ} (m c : ℕ) → m < 8 → From S m c x y → From S' m c x y
      again m c hm (from u hu f w e o) = from u hu f w (ends u m hu hm e) o

  latest_same : (c s v : ℕ) → Latest G S c s v → Latest G S' c s v
  latest_same c s v (untouched f e) = untouched f e
  latest_same c s v (last u hu f w l m) = last u hu f w l m

  joins_given : (m c s v : ℕ) → Given G C S m c s v → Given G C' S' m c s v
  joins_given m c s v a = record {
    node_low = a.node_low;
    cell_low = a.cell_low;
    holder = a.holder;
    counted = omega (arith, a.counted, up.cnt m a.node_low);
    later = λ u hu l h w. elim (look u m hu a.node_low) [
      | here i j x y ↦ rw y (q.over c s v (rw j at a) (rw i at w))
      | away i x y ↦ rw y (a.later u hu (omega arith) (omega arith) w)
    ];
    latest = latest_same c s v a.latest;
  }

  joins_took : (h : Handed) → Given G C S h.node h.cell h.s h.value → Took S h → Took S' h
  joins_took h b a = record {
    slot_low = a.slot_low;
    fixed = a.fixed;
    joined = a.joined;
    ahead = λ l o. elim (look h.slot h.node a.slot_low b.node_low) [
      | here i j x y ↦ rw y (q.ahead h b a i j)
      | away i x y ↦ rw y (a.ahead (omega arith) (omega arith))
    ];
    after = a.after;
  }

  joins_other : (u : ℕ) → u < 32 → u ≢ t → Transaction G C S u → Transaction G C' S' u
  joins_other u hu d a = let look' : (m : ℕ) → m < 8 → tag u m ≡ S.tag u m = λ m hm. elim (look u m hu hm) [ here i j x y ↦ absurd (d i) | away i x y ↦ x ] in
      let num' : (m : ℕ) → m < 8 → num u m ≡ S.num u m = λ m hm. elim (look u m hu hm) [ here i j x y ↦ absurd (d i) | away i x y ↦ y ] in
      alike_transaction G C' S S' u (record { stg = refl; fin = refl; snap = refl; tag = look'; num = num'; wr = λ c hc. refl; rd = λ c hc. refl }) (rises_transaction C C' S up G u a)

  pub joins : (a : ℕ → Ask) (v : ℕ → Note) (H : List Handed) → Transaction G C' S' t → Inv G C S K a v H → Inv G C' S' K a v H
  joins a v H own i = record {
    counting = joins_counting i.counting;
    numbering = joins_numbering i.numbering;
    deciding = λ u hu. elim (ℕ_discrete u t) [ yes e ↦ rw e own | no e ↦ joins_other u hu e (i.deciding u hu) ];
    locking = joins_locking i.locking;
    chaining = joins_chaining i.chaining;
    reading = λ u hu. let r = i.reading u hu in record { asked = r.asked; exact = r.exact; served = λ e. joins_given _ _ _ _ (r.served e); same = r.same; unused = r.unused; bounded = r.bounded };
    handing = record {
      given = λ h m. joins_given _ _ _ _ (i.handing.given h m);
      took = λ h m. joins_took h (i.handing.given h m) (i.handing.took h m);
    };
  }
