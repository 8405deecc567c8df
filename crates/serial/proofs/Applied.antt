-- The entry with the least number at a node, learned, is applied: it is finished, a version is added for each cell it wrote there, and the
-- commit number becomes its number.
-- Assumes nothing.
use mathlib.Core.Path.{◌≡◌, refl, sym, ap, ◌∙◌}
use mathlib.Core.Logic.{◌≢◌}
use mathlib.Core.Bool.{true}
use mathlib.Core.List.{List}
use Prim.Native.Nat.{ℕ, suc, ◌%◌, ◌≤◌, ◌<◌}
use native.Mathlib.Omega.{arith}
use native.Mathlib.Decide.{ℕ_discrete}
use Rattle.group.specs.declared.Ask.{Ask}
use Rattle.group.specs.declared.Note.{Note}
use Rattle.serial.specs.Serial.{Handed}
use Rattle.serial.proofs.Inv.{Nodes, Slots, Links, Ground, Counting, Numbering, Writes, writes, Transaction, Locking, From, from, Into, into, Chaining, Latest, untouched, last, Given, Took, Inv}
use Rattle.serial.proofs.Joins.{with_entries, Entry, here, away}

-- the views with other commit numbers
abbrev pub with_commits : Nodes → (ℕ → ℕ) → Nodes
with_commits C cmt = record { cnt = C.cnt; cmt = cmt; see = C.see }

-- the chain of cell c at node m: with one version more, or as it was
pub data Grown (G : Ground) (S : Slots) (K K' : Links) (t n c m : ℕ) : Type 0 where
  grown :
      m ≡ n → G.hold n c ≡ true → 0 < S.wr t c → K'.len c m ≡ suc (K.len c m) → K'.vnum c m (K.len c m) ≡ S.num t n
      → S.wr t c ≡ suc (K'.vval c m (K.len c m)) → ((j : ℕ) → j < K.len c m → (K'.vnum c m j ≡ K.vnum c m j) × (K'.vval c m j ≡ K.vval c m j))
      → Grown G S K K' t n c m
  same :
      (m ≡ n → G.hold n c ≡ true → S.wr t c ≡ 0) → K'.len c m ≡ K.len c m
      → ((j : ℕ) → j < K.len c m → (K'.vnum c m j ≡ K.vnum c m j) × (K'.vval c m j ≡ K.vval c m j)) → Grown G S K K' t n c m

pub record AppliesAt (G : Ground) (C : Nodes) (S : Slots) (cmt : ℕ → ℕ) (t n : ℕ) : Type 0 where
  pub slot_low : t < 32
  pub node_low : n < 8
  pub learned : S.tag t n ≡ 4
  pub least : (u : ℕ) → u < 32 → u ≢ t → 3 ≤ S.tag u n → S.tag u n ≤ 4 → S.num t n < S.num u n
  pub cmt_here : cmt n ≡ S.num t n
  pub cmt_away : (m : ℕ) → m ≢ n → cmt m ≡ C.cmt m

module _ (G : Ground) (C : Nodes) (S : Slots) (K K' : Links) (cmt : ℕ → ℕ) (tag num : ℕ → ℕ → ℕ) (a : ℕ → Ask) (v : ℕ → Note) (H : List Handed) (t n : ℕ)
    (look : (u m : ℕ) → u < 32 → m < 8 → Entry S tag num t n 5 0 u m)
    (grow : (c m : ℕ) → c < 32 → m < 8 → G.hold m c ≡ true → Grown G S K K' t n c m) (q : AppliesAt G C S cmt t n) (i : Inv G C S K a v H) where
  abbrev S' : Slots
  S' = with_entries S tag num

  abbrev C' : Nodes
  C' = with_commits C cmt

  ht : t < 32
  ht = q.slot_low

  hn : n < 8
  hn = q.node_low

  -- its number is its final one, above the commit number and at most the counter
  final : (0 < S.fin t) × (S.num t n ≡ S.fin t)
  final = (i.deciding t ht).learned n hn q.learned

  bounds : (C.cmt n < S.num t n) × (S.num t n ≤ C.cnt n)
  bounds = i.counting.pending t n ht hn (omega (arith, q.learned)) (omega (arith, q.learned))

  rises : (m : ℕ) → m < 8 → (C.cmt m ≤ cmt m) × (cmt m ≤ C.cnt m)
  rises m hm = elim (ℕ_discrete m n) [
    | yes e ↦ rw (e, q.cmt_here) (omega (arith, bounds), bounds.1)
    | no e ↦ rw (q.cmt_away m e) (omega arith, i.counting.commit m hm)
  ]

  counting : Counting C' S'
  counting = record {
    fits = i.counting.fits;
    commit = λ m hm. (rises m hm).1;
    seen = i.counting.seen;
    pending = λ u m hu hm l h. elim (look u m hu hm) [
      | here e d x y ↦ absurd (omega arith)
      | away e x y ↦ let b = i.counting.pending u m hu hm (omega arith) (omega arith) in elim (ℕ_discrete m n) [
        | yes d ↦ rw y (omega (arith, ap cmt d, q.cmt_here, ap (S.num u) d, q.least u hu (λ z. e z d) (omega (arith, ap (S.tag u) d)) (omega (arith, ap (S.tag u) d))), b.1)
        | no d ↦ rw (y, q.cmt_away m d) b
      ]
    ];
  }

  numbering : Numbering C' S'
  numbering = let b = i.numbering in record {
    own = λ u m hu hm e. elim (look u m hu hm) [ here z d x y ↦ absurd (omega arith) | away z x y ↦ rw y (b.own u m hu hm (sym x ∙ e)) ];
    apart = λ u w m hu hw hm d l h l' h'. elim (look u m hu hm) [
      | here z j x y ↦ absurd (omega arith)
      | away z x y ↦ elim (look w m hw hm) [
        | here z' j' x' y' ↦ absurd (omega arith)
        | away z' x' y' ↦ rw (y, y') (b.apart u w m hu hw hm d (omega arith) (omega arith) (omega arith) (omega arith))
      ]
    ];
    given = b.given;
    once = λ u w hu hw d f e. elim (look w (S.fin u % 8) hw (omega arith)) [ here z j x y ↦ absurd (omega arith) | away z x y ↦ rw y (b.once u w hu hw d f (sym x ∙ e)) ];
    finals = b.finals;
  }

  -- what is finished was so, or is the entry that was applied
  data Ended (u m : ℕ) : Type 0 where
    now : u ≡ t → m ≡ n → Ended u m
    long : S.tag u m ≡ 5 → Ended u m

  ended : (u m : ℕ) → u < 32 → m < 8 → tag u m ≡ 5 → Ended u m
  ended u m hu hm e = elim (look u m hu hm) [ here z d x y ↦ now z d | away z x y ↦ long (sym x ∙ e) ]

  stays : (u m : ℕ) → u < 32 → m < 8 → S.tag u m ≡ 5 → tag u m ≡ 5
  stays u m hu hm e = elim (look u m hu hm) [ here z d x y ↦ x | away z x y ↦ x ∙ e ]

  transaction : (u : ℕ) → u < 32 → Transaction G C' S' u
  transaction u hu = let b = i.deciding u hu in record {
    low = λ m hm. elim (look u m hu hm) [ here z d x y ↦ omega arith | away z x y ↦ rw x (b.low m hm) ];
    outside = λ m hm o. elim (look u m hu hm) [ here z d x y ↦ absurd (omega (arith, q.learned, (i.deciding t ht).outside n hn (omega arith))) | away z x y ↦ x ∙ b.outside m hm o ];
    early = λ m hm e. elim (look u m hu hm) [ here z d x y ↦ absurd (omega (arith, ap S.stg z, stage)) | away z x y ↦ x ∙ b.early m hm e ];
    plain = λ m hm e f. elim (look u m hu hm) [ here z d x y ↦ absurd (omega (arith, ap S.fin z, final)) | away z x y ↦ x ∙ b.plain m hm e f ];
    voting = λ m hm e. elim (look u m hu hm) [ here z d x y ↦ absurd (omega (arith, ap S.stg z, stage)) | away z x y ↦ rw x (b.voting m hm e) ];
    voted = λ m hm f e. elim (look u m hu hm) [ here z d x y ↦ omega arith | away z x y ↦ rw x (b.voted m hm f (rw x at e)) ];
    below = λ m hm f e. elim (look u m hu hm) [ here z d x y ↦ absurd (omega arith) | away z x y ↦ rw y (b.below m hm f (sym x ∙ e)) ];
    learned = λ m hm e. elim (look u m hu hm) [ here z d x y ↦ absurd (omega arith) | away z x y ↦ rw y (b.learned m hm (sym x ∙ e)) ];
    past = λ m hm f e. elim (ended u m hu hm e) [
      | now z d ↦ rw (z, d, q.cmt_here) (omega (arith, final))
      | long x ↦ omega (arith, b.past m hm f x, rises m hm)
    ];
    stage = b.stage;
    wrote = b.wrote;
    votes = λ e. again (b.votes e);
    in_run = b.in_run;
    values = b.values;
    sent = λ m c hm hc e o w. elim (look u m hu hm) [ here z d x y ↦ omega arith | away z x y ↦ rw x (b.sent m c hm hc e o w) ];
    entered = λ m c hm hc f o w. elim (look u m hu hm) [ here z d x y ↦ omega arith | away z x y ↦ rw x (b.entered m c hm hc f o w) ];
  }
    where
      again : Writes G S u → Writes G S' u
      again (writes c hc l w) = writes c hc l w

      stage : S.stg t ≡ 5
      stage = (i.deciding t ht).stage final.0

  -- where t was pending with another, they have no cell in common
  alone : (u c : ℕ) → u < 32 → c < 32 → u ≢ t → 3 ≤ S.tag u n → S.tag u n ≤ 4 → G.hold n c ≡ true → 0 < S.wr t c → (S.rd u c ≡ 0) × (S.wr u c ≡ 0)
  alone u c hu hc d l h o w = i.locking.alone t u n c ht hu hn hc (λ z. d (sym z)) (omega (arith, q.learned)) (omega (arith, q.learned)) l h o w

  locking : Locking G S' K'
  locking = let b = i.locking in record {
    alone = λ u w m c hu hw hm hc d l h l' h' o z. elim (look u m hu hm) [
      | here e j x y ↦ absurd (omega arith)
      | away e x y ↦ elim (look w m hw hm) [
        | here e' j' x' y' ↦ absurd (omega arith)
        | away e' x' y' ↦ b.alone u w m c hu hw hm hc d (omega arith) (omega arith) (omega arith) (omega arith) o z
      ]
    ];
    room = λ u m c hu hm hc l h o z. elim (look u m hu hm) [
      | here e j x y ↦ absurd (omega arith)
      | away e x y ↦ elim (grow c m hc hm o) [
        | grown d o' w _ _ _ _ ↦ absurd (omega (arith, alone u c hu hc (λ p. e p d) (omega (arith, ap (S.tag u) d)) (omega (arith, ap (S.tag u) d)) o' w))
        | same d x' _ ↦ rw x' (b.room u m c hu hm hc (omega arith) (omega arith) o z)
      ]
    ];
    current = λ u w m c hu hw hm hc d l h o r f z e. elim (look u m hu hm) [
      | here p j x y ↦ absurd (omega arith)
      | away p x y ↦ elim (ended w m hw hm e) [
        | now e' d' ↦ absurd (omega (arith, alone u c hu hc (λ k. p k d') (omega (arith, ap (S.tag u) d')) (omega (arith, ap (S.tag u) d')) (rw d' at o) (rw e' at z)))
        | long e' ↦ b.current u w m c hu hw hm hc d (omega arith) (omega arith) o r f z e'
      ]
    ];
    valid = λ u w m c hu hw hm hc d f e o r f' z e' j. elim (ended u m hu hm e) [
      | now x y ↦ elim (ended w m hw hm e') [
        | now x' y' ↦ absurd (d (x' ∙ sym x))
        | long x' ↦ absurd (omega (arith, ap S.snap x, b.current t w n c ht hw hn hc (λ k. d (k ∙ sym x)) (omega (arith, q.learned)) (omega (arith, q.learned)) (rw y at o) (rw x at r) f' z (rw y at x')))
      ]
      | long x ↦ elim (ended w m hw hm e') [
        | now x' y' ↦ omega (arith, (i.deciding u hu).past n hn f (rw y' at x), bounds, final, ap S.fin x')
        | long x' ↦ b.valid u w m c hu hw hm hc d f x o r f' z x' j
      ]
    ];
  }

  chaining : Chaining G C' S' K'
  chaining = let b = i.chaining in record {
    some = λ m c hm hc o. elim (grow c m hc hm o) [
      | grown d o' w x _ _ _ ↦ rw x (omega arith, omega (arith, ap (K.len c) d, i.locking.room t n c ht hn hc (omega (arith, q.learned)) (omega (arith, q.learned)) o' w))
      | same d x _ ↦ rw x (b.some m c hm hc o)
    ];
    zero = λ m c hm hc o. elim (grow c m hc hm o) [
      | grown d o' w x _ _ y ↦ let z = y 0 (omega (arith, b.some m c hm hc o)) in rw (z.0, z.1) (b.zero m c hm hc o)
      | same d x y ↦ let z = y 0 (omega (arith, b.some m c hm hc o)) in rw (z.0, z.1) (b.zero m c hm hc o)
    ];
    up = λ m c j k hm hc o l h. elim (grow c m hc hm o) [
      | grown d o' w x e _ y ↦ elim (ℕ_discrete k (K.len c m)) [
        | yes z ↦ omega (arith, ap (K'.vnum c m) z, e, y j (omega arith), b.under m c j hm hc o (omega arith), ap C.cmt d, bounds)
        | no z ↦ omega (arith, y j (omega arith), y k (omega arith), b.up m c j k hm hc o l (omega arith))
      ]
      | same d x y ↦ omega (arith, y j (omega arith), y k (omega arith), b.up m c j k hm hc o l (omega arith))
    ];
    under = λ m c j hm hc o l. elim (grow c m hc hm o) [
      | grown d o' w x e _ y ↦ elim (ℕ_discrete j (K.len c m)) [
        | yes z ↦ omega (arith, ap (K'.vnum c m) z, e, ap cmt d, q.cmt_here)
        | no z ↦ omega (arith, y j (omega arith), b.under m c j hm hc o (omega arith), rises m hm)
      ]
      | same d x y ↦ omega (arith, y j (omega arith), b.under m c j hm hc o (omega arith), rises m hm)
    ];
    made = λ m c j hm hc o l h. elim (grow c m hc hm o) [
      | grown d o' w x e g y ↦ elim (ℕ_discrete j (K.len c m)) [
        | yes z ↦ from t ht final.0 (g ∙ ap (λ (k : ℕ). suc (K'.vval c m k)) (sym z)) (its m d) (ap (K'.vnum c m) z ∙ e ∙ final.1)
        | no z ↦ let p = y j (omega arith) in rw (p.0, p.1) (again m c hm (b.made m c j hm hc o l (omega arith)))
      ]
      | same d x y ↦ let p = y j (omega arith) in rw (p.0, p.1) (again m c hm (b.made m c j hm hc o l (omega arith)))
    ];
    kept = λ m c u hm hc hu o f w e. elim (grow c m hc hm o) [
      | grown d o' w' x p g y ↦ elim (ended u m hu hm e) [
        | now z d' ↦ into (K.len c m) (omega (arith, b.some m c hm hc o)) (omega arith) (p ∙ final.1 ∙ ap S.fin (sym z)) (ap (λ (k : ℕ). S.wr k c) z ∙ g)
        | long z ↦ further m c (omega arith) y (b.kept m c u hm hc hu o f w z)
      ]
      | same d x y ↦ elim (ended u m hu hm e) [
        | now z d' ↦ absurd (omega (arith, d d' (rw d' at o), ap (λ (k : ℕ). S.wr k c) z))
        | long z ↦ further m c (omega arith) y (b.kept m c u hm hc hu o f w z)
      ]
    ];
  }
    where
      its : (m : ℕ) → m ≡ n → tag t m ≡ 5
      its m d = elim (look t m ht (rw d hn)) [ here z j x y ↦ x | away z x y ↦ absurd (z refl d) ]

      again : {x y : ℕ} (m c : ℕ) → m < 8 → From S m c x y → From S' m c x y
      again m c hm (from u hu f w e o) = from u hu f w (stays u m hu hm e) o

      further : {x y : ℕ} (m c : ℕ) → K.len c m ≤ K'.len c m → ((j : ℕ) → j < K.len c m → (K'.vnum c m j ≡ K.vnum c m j) × (K'.vval c m j ≡ K.vval c m j)) → Into K m c x y → Into K' m c x y
      further m c l f (into j p h e w) = into j p (omega arith) ((f j h).0 ∙ e) (w ∙ ap suc (sym (f j h).1))

  latest : (c s x : ℕ) → Latest G S c s x → Latest G S' c s x
  latest c s x (untouched f e) = untouched f e
  latest c s x (last u hu f w l m) = last u hu f w l m

  given : (m c s x : ℕ) → Given G C S m c s x → Given G C' S' m c s x
  given m c s x b = record {
    node_low = b.node_low;
    cell_low = b.cell_low;
    holder = b.holder;
    counted = b.counted;
    later = λ u hu l h w. elim (look u m hu b.node_low) [ here z d x' y ↦ absurd (omega arith) | away z x' y ↦ rw y (b.later u hu (omega arith) (omega arith) w) ];
    latest = latest c s x b.latest;
  }

  took : (h : Handed) → h.node < 8 → Took S h → Took S' h
  took h hm k = record {
    slot_low = k.slot_low;
    fixed = k.fixed;
    joined = k.joined;
    ahead = λ l o. elim (look h.slot h.node k.slot_low hm) [ here z d x y ↦ absurd (omega arith) | away z x y ↦ rw y (k.ahead (omega arith) (omega arith)) ];
    after = k.after;
  }

  pub applied : Inv G C' S' K' a v H
  applied = record {
    counting = counting;
    numbering = numbering;
    deciding = transaction;
    locking = locking;
    chaining = chaining;
    reading = λ u hu. let r = i.reading u hu in record { asked = r.asked; exact = r.exact; served = λ e. given _ _ _ _ (r.served e); same = r.same; unused = r.unused; bounded = r.bounded };
    handing = record { given = λ h m. given _ _ _ _ (i.handing.given h m); took = λ h m. took h (i.handing.given h m).node_low (i.handing.took h m) };
  }
