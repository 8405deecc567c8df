-- A transaction whose votes are all yes is committed with the largest proposal.
-- Assumes nothing.
use mathlib.Core.Path.{◌≡◌, refl, sym, ap, ◌∙◌}
use mathlib.Core.Logic.{◌≢◌}
use mathlib.Core.Bool.{true}
use mathlib.Core.List.{List}
use Prim.Native.Nat.{ℕ, ◌+◌, ◌%◌, ◌≤◌, ◌<◌}
use native.Mathlib.Omega.{arith}
use native.Mathlib.Decide.{ℕ_discrete}
use Rattle.group.specs.declared.Ask.{Ask}
use Rattle.group.specs.declared.Note.{Note}
use Rattle.serial.specs.Serial.{Handed}
use Rattle.serial.proofs.Inv.{Nodes, Slots, Links, Ground, Numbering, Transaction, Locking, From, from, Chaining, Latest, untouched, last, Given, Took, Reading, Inv}
use Rattle.serial.proofs.Quiet.{alike_transaction}

-- the views with other stages and final numbers
abbrev pub with_stages : Slots → (ℕ → ℕ) → (ℕ → ℕ) → Slots
with_stages S stg fin = record { stg = stg; fin = fin; snap = S.snap; tag = S.tag; num = S.num; wr = S.wr; rd = S.rd }

pub record DecidesAt (S : Slots) (stg fin : ℕ → ℕ) (t f p : ℕ) : Type 0 where
  pub slot_low : t < 32
  pub voting : S.stg t ≡ 4
  pub positive : 0 < f
  pub stg_here : stg t ≡ 5
  pub fin_here : fin t ≡ f
  pub stg_away : (u : ℕ) → u ≢ t → stg u ≡ S.stg u
  pub fin_away : (u : ℕ) → u ≢ t → fin u ≡ S.fin u
  -- all votes are in and are yes, and the largest proposal is that of node p
  pub all_yes : (n : ℕ) → n < 8 → 1 ≤ S.tag t n → S.tag t n ≡ 3
  pub largest : (n : ℕ) → n < 8 → S.tag t n ≡ 3 → S.num t n ≤ f
  pub node_low : p < 8
  pub its_tag : S.tag t p ≡ 3
  pub its_num : S.num t p ≡ f

module _ (G : Ground) (C : Nodes) (S : Slots) (stg fin : ℕ → ℕ) (K : Links) (a a' : ℕ → Ask) (v v' : ℕ → Note) (H : List Handed) (t f p : ℕ)
    (asks : (u : ℕ) → u ≢ t → a' u ≡ a u) (notes : (u : ℕ) → u ≢ t → v' u ≡ v u) (q : DecidesAt S stg fin t f p) (i : Inv G C S K a v H) where
  abbrev S' : Slots
  S' = with_stages S stg fin

  -- it was no writer
  none : S.fin t ≡ 0
  none = elim (ℕ_discrete (S.fin t) 0) [ yes e ↦ e | no e ↦ absurd (omega (arith, q.voting, (i.deciding t q.slot_low).stage (omega arith))) ]

  -- nothing of it is learned
  unlearned : (n : ℕ) → n < 8 → S.tag t n ≢ 5
  unlearned n hn e = omega (arith, q.all_yes n hn (omega arith))

  -- the proposal is node p's own
  mine : f % 8 ≡ p
  mine = ap (◌% 8) (sym q.its_num) ∙ i.numbering.own t p q.slot_low q.node_low q.its_tag

  -- a writer is t, or was one
  pub data Who (u : ℕ) : Type 0 where
    new : u ≡ t → fin u ≡ f → Who u
    old : u ≢ t → fin u ≡ S.fin u → Who u

  who : (u : ℕ) → Who u
  who u = elim (ℕ_discrete u t) [ yes e ↦ new e (ap fin e ∙ q.fin_here) | no e ↦ old e (q.fin_away u e) ]

  numbering : Numbering C S'
  numbering = let b = i.numbering in record {
    own = b.own;
    apart = b.apart;
    given = λ u hu g. elim (who u) [
      | new e x ↦ rw (x, mine) (omega (arith, i.counting.pending t p q.slot_low q.node_low (omega (arith, q.its_tag)) (omega (arith, q.its_tag)), q.its_num))
      | old e x ↦ rw x (b.given u hu (rw x at g))
    ];
    once = λ u w hu hw d g e. elim (who u) [
      | new o x ↦ rw x (λ z. let e' : S.tag w p ≡ 3 = rw (x, mine) at e in let z' : S.num w p ≡ f = ap (S.num w) (sym mine) ∙ z in
          b.apart t w p q.slot_low hw q.node_low (λ y. d (sym y ∙ sym o)) (omega (arith, q.its_tag)) (omega (arith, q.its_tag)) (omega arith) (omega arith) (q.its_num ∙ sym z'))
      | old o x ↦ rw x (b.once u w hu hw d (rw x at g) (rw x at e))
    ];
    finals = λ u w hu hw d g g'. elim (who u) [
      | new o x ↦ elim (who w) [
        | new o' x' ↦ absurd (d (o ∙ sym o'))
        | old o' x' ↦ rw (x, x') (clash w hw o' (rw x' at g'))
      ]
      | old o x ↦ elim (who w) [
        | new o' x' ↦ rw (x, x') (λ z. clash u hu o (rw x at g) (sym z))
        | old o' x' ↦ rw (x, x') (b.finals u w hu hw d (rw x at g) (rw x' at g'))
      ]
    ];
  }
    where
      clash : (u : ℕ) → u < 32 → u ≢ t → 0 < S.fin u → f ≢ S.fin u
      clash u hu d g z = let m : S.fin u % 8 ≡ p = ap (◌% 8) (sym z) ∙ mine in
          i.numbering.once u t hu q.slot_low (λ y. d (sym y)) g (ap (S.tag t) m ∙ q.its_tag) (ap (S.num t) m ∙ q.its_num ∙ z)

  transaction : (u : ℕ) → u < 32 → Transaction G C S' u
  transaction u hu = elim (ℕ_discrete u t) [ yes e ↦ rw e own | no e ↦ same u hu e ]
    where
      b : Transaction G C S t
      b = i.deciding t q.slot_low

      own : Transaction G C S' t
      own = record {
        low = b.low;
        outside = b.outside;
        early = λ n hn e. absurd (omega (arith, q.stg_here));
        plain = λ n hn e g. absurd (omega (arith, q.fin_here, q.positive));
        voting = λ n hn e. absurd (omega (arith, q.stg_here));
        voted = λ n hn g e. omega (arith, q.all_yes n hn e);
        below = λ n hn g e. rw q.fin_here (q.largest n hn e);
        learned = λ n hn e. absurd (omega (arith, q.all_yes n hn (omega arith)));
        past = λ n hn g e. absurd (unlearned n hn e);
        stage = λ g. q.stg_here;
        wrote = λ c hc e w. rw q.fin_here q.positive;
        votes = λ e. absurd (omega (arith, q.stg_here));
        in_run = λ c hc e w. b.in_run c hc (omega (arith, q.voting)) w;
        values = b.values;
        sent = λ n c hn hc e. absurd (omega (arith, q.stg_here));
        entered = λ n c hn hc g. b.sent n c hn hc q.voting;
      }

      same : (u : ℕ) → u < 32 → u ≢ t → Transaction G C S' u
      same u hu d =
          alike_transaction G C S S' u (record { stg = q.stg_away u d; fin = q.fin_away u d; snap = refl; tag = λ n hn. refl; num = λ n hn. refl; wr = λ c hc. refl; rd = λ c hc. refl }) (i.deciding u hu)

  locking : Locking G S' K
  locking = let b = i.locking in record {
    alone = b.alone;
    room = b.room;
    current = λ u w n c hu hw hn hc d l h o r g z e. elim (who w) [
      | new x y ↦ absurd (unlearned n hn (rw x at e))
      | old x y ↦ rw y (b.current u w n c hu hw hn hc d l h o r (rw y at g) z e)
    ];
    valid = λ u w n c hu hw hn hc d g e o r g' z e' j. elim (who u) [
      | new x y ↦ absurd (unlearned n hn (rw x at e))
      | old x y ↦ elim (who w) [
        | new x' y' ↦ absurd (unlearned n hn (rw x' at e'))
        | old x' y' ↦ rw (y, y') (b.valid u w n c hu hw hn hc d (rw y at g) e o r (rw y' at g') z e' (rw y' at j))
      ]
    ];
  }

  chaining : Chaining G C S' K
  chaining = let b = i.chaining in record {
    some = b.some;
    zero = b.zero;
    up = b.up;
    under = b.under;
    made = λ n c j hn hc o l h. again n c (b.made n c j hn hc o l h);
    kept = λ n c u hn hc hu o g z e. elim (who u) [
      | new x y ↦ absurd (unlearned n hn (rw x at e))
      | old x y ↦ rw y (b.kept n c u hn hc hu o (rw y at g) z e)
    ];
  }
    where
      again : {x y : ℕ} (n c : ℕ) → From S n c x y → From S' n c x y
      again n c (from u hu g w e o) = elim (who u) [
        | new x y ↦ absurd (omega (arith, ap S.fin x, none))
        | old x y ↦ from u hu (rw y g) w e (o ∙ sym y)
      ]

  -- where t writes a cell that n holds, its entry there is pending with a number that is at most f
  pends : (n c : ℕ) → n < 8 → c < 32 → G.hold n c ≡ true → 0 < S.rd t c + S.wr t c → (S.tag t n ≡ 3) × (S.num t n ≤ f)
  pends n c hn hc o w = let e = q.all_yes n hn ((i.deciding t q.slot_low).sent n c hn hc q.voting o w) in (e, q.largest n hn e)

  given : (n c s x : ℕ) → Given G C S n c s x → Given G C S' n c s x
  given n c s x b = record { node_low = b.node_low; cell_low = b.cell_low; holder = b.holder; counted = b.counted; later = b.later; latest = again b.latest }
    where
      above : 0 < S.wr t c → s < f
      above w = let e = pends n c b.node_low b.cell_low b.holder (omega arith) in omega (arith, e, b.later t q.slot_low (omega (arith, e)) (omega (arith, e)) w)

      again : Latest G S c s x → Latest G S' c s x
      again (untouched g e) = untouched (λ u hu k w. elim (who u) [ new y z ↦ rw z (above (rw y at w)) | old y z ↦ rw z (g u hu (rw z at k) w) ]) e
      again (last u hu g w l m) = elim (who u) [
        | new y z ↦ absurd (omega (arith, ap S.fin y, none))
        | old y z ↦ last u hu (rw z g) w (rw z l) (λ o ho k j b'. elim (who o) [
          | new y' z' ↦ absurd (omega (arith, above (rw y' at j)))
          | old y' z' ↦ rw (z, z') (m o ho (rw z' at k) j (rw z' at b'))
        ])
      ]

  took : (h : Handed) → Given G C S h.node h.cell h.s h.value → Took S h → Took S' h
  took h b k = record {
    slot_low = k.slot_low;
    fixed = k.fixed;
    joined = k.joined;
    ahead = k.ahead;
    after = λ g. elim (who h.slot) [
      | new x y ↦ let e = pends h.node h.cell b.node_low b.cell_low b.holder (omega (arith, ap (λ (z : ℕ). S.rd z h.cell) x, k.joined)) in
          let e' : S.tag h.slot h.node ≡ 3 = ap (λ (z : ℕ). S.tag z h.node) x ∙ e.0 in
          rw y (omega (arith, e, ap (λ (z : ℕ). S.num z h.node) x, k.ahead (omega arith) (omega arith)))
      | old x y ↦ rw y (k.after (rw y at g))
    ];
  }

  reading : (u : ℕ) → u < 32 → Reading G C S' u (a' u) (v' u)
  reading u hu = let r = i.reading u hu in elim (ℕ_discrete u t) [
    | yes e ↦ let x : stg u ≡ 5 = ap stg e ∙ q.stg_here in
        record { asked = λ z. absurd (omega arith); exact = λ z. absurd (omega arith); served = λ z. absurd (omega arith); same = λ z. absurd (omega arith); unused = λ z. absurd (omega arith); bounded = r.bounded }
    | no e ↦ let x = q.stg_away u e in rw (asks u e, notes u e) (
        record { asked = λ z. r.asked (sym x ∙ z); exact = λ z. r.exact (sym x ∙ z); served = λ z. given _ _ _ _ (r.served (sym x ∙ z)); same = λ z. r.same (sym x ∙ z); unused = λ z. r.unused (sym x ∙ z); bounded = r.bounded })
  ]

  pub decided : Inv G C S' K a' v' H
  decided = record {
    counting = record { fits = i.counting.fits; commit = i.counting.commit; seen = i.counting.seen; pending = i.counting.pending };
    numbering = numbering;
    deciding = transaction;
    locking = locking;
    chaining = chaining;
    reading = reading;
    handing = record { given = λ h m. given _ _ _ _ (i.handing.given h m); took = λ h m. took h (i.handing.given h m) (i.handing.took h m) };
  }
