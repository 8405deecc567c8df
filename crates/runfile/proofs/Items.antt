-- Items one after the other, read and written: stated once over the item's width, reader, writer and test.
-- Assumes nothing.
use mathlib.Core.Path.{◌≡◌, refl, sym, ap, ap₂, ◌∙◌}
use mathlib.Core.Bool.{Bool, true, false}
use mathlib.Core.List.{List, [], ◌∷◌, ◌++◌, append_assoc}
use Prim.Native.Nat.{ℕ, zero, suc, ◌+◌, ◌*◌, ◌≤◌, ◌<◌}
use native.Mathlib.Nat.{mul-zero, mul-suc}
use native.Mathlib.Omega.{arith}
use lib.Dec.{leb}
use lib.ListN.{length, take, drop, get_or, length-append, length-drop, length-take, take-append-drop}
use lib.Seq.{take_at, drop-cons, drop-append-add, drop_at, length-take-le, get_or-drop, get_or-take}
use borrow.Author.Tests.{le-leb, leb-true, leb-false, not-false}
use Rattle.tables.specs.Table.{at}
use Rattle.tables.proofs.Choice.{by_test, or_false}
use Rattle.runfile.specs.declared.Fault.{Fault}
use Rattle.runfile.specs.declared.Fault.TheVariants.{Short}
use Rattle.little.proofs.Laws.{Bytes}
use Rattle.runfile.specs.File.{Read, code_of, got, fault, and_then, read_bytes, tested, read_items, joined, some_bad}

-- ---- what was read, taken apart

pub data Then {A B : Type 0} (x : Read A) (f : A → List ℕ → Read B) (b : B) (s : List ℕ) : Type 0 where
  then : (a : A) (r : List ℕ) → x ≡ got a r → f a r ≡ got b s → Then x f b s

pub and_then_lem : {A B : Type 0} (x : Read A) (f : A → List ℕ → Read B) (b : B) (s : List ℕ) → and_then x f ≡ got b s → Then x f b s
and_then_lem (got a r) f b s e = then a r refl e
and_then_lem (fault c) f b s e = absurd (let z : ◌≡◌ {A = ℕ} 0 1 = cc in omega arith)

-- a fault's number is from 32 to 36
pub data Coded {A : Type 0} : Read A → Type 0 where
  fine : {a : A} {r : List ℕ} → Coded (got a r)
  code : {c : Fault} → 32 ≤ code_of c → code_of c ≤ 36 → Coded (fault c)

pub coded_then : {A B : Type 0} (x : Read A) (f : A → List ℕ → Read B) → Coded x → ((a : A) (r : List ℕ) → Coded (f a r)) → Coded (and_then x f)
coded_then (got a r) f k g = g a r
coded_then (fault c) f (code l h) g = code l h

-- ---- bytes, cut in two

pub bytes_take : (k : ℕ) (b : List ℕ) → Bytes b → Bytes (take k b)
unfolding at
bytes_take k b h i l = let m = length-take k b in let p : i < k = omega arith in rw get_or-take (h i (omega arith))

pub bytes_drop : (k : ℕ) (b : List ℕ) → Bytes b → Bytes (drop k b)
unfolding at
bytes_drop k b h i l = let m = length-drop k b in rw get_or-drop (h (k + i) (omega arith))

-- ---- a fact at each item

abbrev pub All : {A : Type 0} → (A → Type 0) → List A → Type 0
All P [] = Unit {0}
All P (a ∷ xs) = P a × All P xs

-- ---- an item

pub record Item (A : Type 0) : Type 1 where
  pub width : ℕ
  pub from : List ℕ → A
  pub bytes : A → List ℕ
  pub ok : A → Bool
  pub code : Fault
  -- its numbers fit the bytes that they have
  pub Fit : A → Type 0
  pub size : (a : A) → length (bytes a) ≡ width
  pub from_bytes : (a : A) → Fit a → from (bytes a) ≡ a
  pub bytes_from : (i : List ℕ) → length i ≡ width → Bytes i → bytes (from i) ≡ i
  pub fit_from : (i : List ℕ) → length i ≡ width → Bytes i → Fit (from i)
  pub coded : (32 ≤ code_of code) × (code_of code ≤ 36)

module _ {A : Type 0} (I : Item A) where
  unfoldable pub read_item : List ℕ → Read A
  read_item b = and_then (read_bytes I.width b) (λ i rest. tested (I.ok (I.from i)) I.code (I.from i) rest)

  abbrev pub Good : A → Type 0
  Good a = I.Fit a × (I.ok a ≡ true)

  -- the three ways that it goes
  pub data Went (b : List ℕ) : Read A → Type 0 where
    cut : length b < I.width → Went b (fault Short)
    bad : I.width ≤ length b → I.ok (I.from (take I.width b)) ≡ false → Went b (fault I.code)
    good : I.width ≤ length b → I.ok (I.from (take I.width b)) ≡ true → Went b (got (I.from (take I.width b)) (drop I.width b))

  pub item_cut : (b : List ℕ) → leb I.width (length b) ≡ false → read_item b ≡ fault Short
  unfolding read_item read_bytes
  item_cut b e = rw e

  pub item_bad : (b : List ℕ) → leb I.width (length b) ≡ true → I.ok (I.from (take I.width b)) ≡ false → read_item b ≡ fault I.code
  unfolding read_item read_bytes
  item_bad b e q = rw (e, q)

  pub item_good :
      (b : List ℕ) → leb I.width (length b) ≡ true → I.ok (I.from (take I.width b)) ≡ true
      → read_item b ≡ got (I.from (take I.width b)) (drop I.width b)
  unfolding read_item read_bytes
  item_good b e q = rw (e, q)

  pub went : (b : List ℕ) → Went b (read_item b)
  went b =
      by_test (leb I.width (length b))
      (λ e. by_test (I.ok (I.from (take I.width b)))
      (λ q. rw (item_good b e q) (good (leb-true _ _ e) q))
      (λ q. rw (item_bad b e q) (bad (leb-true _ _ e) q)))
      (λ e. rw (item_cut b e) (cut (leb-false _ _ e)))

  pub item_coded : (b : List ℕ) → Coded (read_item b)
  item_coded b = go (read_item b) (went b)
    where
      go : (r : Read A) → Went b r → Coded r
      go (fault c) (cut l) = code {c = Short} (omega arith) (omega arith)
      go (fault c) (bad l q) = code I.coded.0 I.coded.1
      go (got a s) (good l q) = fine

  -- what was written comes back
  pub item_written : (a : A) (rest : List ℕ) → Good a → read_item (I.bytes a ++ rest) ≡ got a rest
  unfolding read_item read_bytes
  item_written a rest g =
      let s = I.size a in
      let l : leb I.width (length (I.bytes a ++ rest)) ≡ true = le-leb I.width (length (I.bytes a ++ rest)) (omega (arith, length-append (I.bytes a) rest)) in
      rw (l, take_at (I.bytes a) rest I.width s, drop_at (I.bytes a) rest I.width s, I.from_bytes a g.0, g.1)

  -- what was read was written
  pub item_read :
      (b : List ℕ) (a : A) (r : List ℕ) → Bytes b → read_item b ≡ got a r → (b ≡ I.bytes a ++ r) × Good a × Bytes r
  item_read b a r h e = go (read_item b) e (went b)
    where
      go : (x : Read A) → x ≡ got a r → Went b x → (b ≡ I.bytes a ++ r) × Good a × Bytes r
      go (fault c) e' (cut l) = absurd (let z : ◌≡◌ {A = ℕ} 0 1 = cc in omega arith)
      go (fault c) e' (bad l q) = absurd (let z : ◌≡◌ {A = ℕ} 0 1 = cc in omega arith)
      go (got x s) e' (good l q) =
          let ea : I.from (take I.width b) ≡ a = cc in
          let er : drop I.width b ≡ r = cc in
          let t = length-take-le I.width b l in
          let ht = bytes_take I.width b h in (
            sym (ap₂ ◌++◌ (ap I.bytes (sym ea) ∙ I.bytes_from (take I.width b) t ht) (sym er) ∙ take-append-drop I.width b),
            (rw ea at (I.fit_from (take I.width b) t ht), rw ea at q),
            rw er at (bytes_drop I.width b h),
          )

  -- ---- items

  pub items_coded : (k : ℕ) (b : List ℕ) → Coded (read_items read_item k b)
  unfolding read_items
  items_coded zero b = fine
  items_coded (suc k) b = coded_then _ _ (item_coded b) (λ a r. coded_then _ _ (items_coded k r) (λ more r'. fine))

  pub items_written : (xs : List A) (rest : List ℕ) → All Good xs → read_items read_item (length xs) (joined I.bytes xs ++ rest) ≡ got xs rest
  unfolding read_items joined
  items_written [] rest g = refl
  items_written (a ∷ xs) rest g = rw (append_assoc, item_written a (joined I.bytes xs ++ rest) g.0, items_written xs rest g.1)

  -- that many items were written one after the other, and then r
  abbrev pub Were : ℕ → List ℕ → List A → List ℕ → Type 0
  Were k b xs r = (length xs ≡ k) × (b ≡ joined I.bytes xs ++ r) × All Good xs × Bytes r

  pub items_read : (k : ℕ) (b : List ℕ) (xs : List A) (r : List ℕ) → Bytes b → read_items read_item k b ≡ got xs r → Were k b xs r
  unfolding read_items joined
  items_read zero b xs r h e =
      let ex : [] ≡ xs = cc in
      let er : b ≡ r = cc in
      rw (← ex, ← er) (refl, refl, tt, h)
  items_read (suc k) b xs r h e = one (items_read k) (and_then_lem (read_item b) _ xs r e)
    where
      more :
          ((b : List ℕ) (xs : List A) (r : List ℕ) → Bytes b → read_items read_item k b ≡ got xs r → Were k b xs r) → (a : A) (s : List ℕ)
          → read_item b ≡ got a s → Then (read_items read_item k s) (λ ys t. got (a ∷ ys) t) xs r → Were (suc k) b xs r
      more ih a s ea (then ys t ey e') =
          let ex : a ∷ ys ≡ xs = cc in
          let er : t ≡ r = cc in
          let p = item_read b a s h ea in
          let q = ih s ys t p.2 ey in
          rw (← ex, ← er) (ap suc q.0, p.0 ∙ ap (◌++◌ (I.bytes a)) q.1 ∙ sym (append_assoc (I.bytes a) _ t), (p.1, q.2), q.3)

      one :
          ((b : List ℕ) (xs : List A) (r : List ℕ) → Bytes b → read_items read_item k b ≡ got xs r → Were k b xs r)
          → Then (read_item b) (λ a s. and_then (read_items read_item k s) (λ ys t. got (a ∷ ys) t)) xs r → Were (suc k) b xs r
      one ih (then a s ea e') = more ih a s ea (and_then_lem (read_items read_item k s) _ xs r e')

-- ---- their bytes

pub joined_append : {A : Type 0} (f : A → List ℕ) (xs ys : List A) → joined f (xs ++ ys) ≡ joined f xs ++ joined f ys
unfolding joined
joined_append f [] ys = refl
joined_append f (a ∷ xs) ys = rw (joined_append f xs ys) (sym (append_assoc (f a) (joined f xs) (joined f ys)))

module _ {A : Type 0} (I : Item A) where
  pub joined_size : (xs : List A) → length (joined I.bytes xs) ≡ I.width * length xs
  unfolding joined
  joined_size [] = sym (mul-zero I.width)
  joined_size (a ∷ xs) =
      length-append (I.bytes a) (joined I.bytes xs) ∙ ap₂ ◌+◌ (I.size a) (joined_size xs) ∙ omega (arith, mul-suc I.width (length xs))

  pub joined_drop : (i : ℕ) (xs : List A) → i ≤ length xs → drop (I.width * i) (joined I.bytes xs) ≡ joined I.bytes (drop i xs)
  unfolding joined
  joined_drop zero xs h = rw (mul-zero I.width)
  joined_drop (suc i) [] h = absurd (omega arith)
  joined_drop (suc i) (a ∷ xs) h =
      let e : I.width * suc i ≡ length (I.bytes a) + I.width * i = omega (arith, mul-suc I.width i, I.size a) in
      rw (e, drop-append-add (I.bytes a) (joined I.bytes xs) (I.width * i)) (joined_drop i xs (omega arith))

  -- the bytes of item i
  pub joined_at :
      (i : ℕ) (xs : List A) (d : A) → i < length xs → take I.width (drop (I.width * i) (joined I.bytes xs)) ≡ I.bytes (at xs i d)
  unfolding joined at
  joined_at i xs d h =
      rw (joined_drop i xs (omega arith), drop-cons xs i d h) (take_at (I.bytes (get_or xs i d)) (joined I.bytes (drop (suc i) xs)) I.width (I.size (get_or xs i d)))

-- ---- a fact at each item, joined and changed

pub all_map : {A : Type 0} (P Q : A → Type 0) (xs : List A) → ((a : A) → P a → Q a) → All P xs → All Q xs
all_map P Q [] f p = tt
all_map P Q (a ∷ xs) f p = (f a p.0, all_map P Q xs f p.1)

pub all_both : {A : Type 0} (P Q : A → Type 0) (xs : List A) → All P xs → All Q xs → All (λ a. P a × Q a) xs
all_both P Q [] p q = tt
all_both P Q (a ∷ xs) p q = ((p.0, q.0), all_both P Q xs p.1 q.1)

pub all_any : {A : Type 0} (P : A → Type 0) (xs : List A) → ((a : A) → P a) → All P xs
all_any P [] f = tt
all_any P (a ∷ xs) f = (f a, all_any P xs f)

pub all_at : {A : Type 0} (P : A → Type 0) (xs : List A) (i : ℕ) (d : A) → All P xs → i < length xs → P (at xs i d)
unfolding at
all_at P [] i d p h = absurd (omega arith)
all_at P (a ∷ xs) zero d p h = p.0
all_at P (a ∷ xs) (suc i) d p h = all_at P xs i d p.1 (omega arith)

-- no item fails its test
pub bad_none : {A : Type 0} (ok : A → Bool) (xs : List A) → All (λ a. ok a ≡ true) xs → some_bad ok xs ≡ false
unfolding some_bad
bad_none ok [] p = refl
bad_none ok (a ∷ xs) p = rw p.0 (bad_none ok xs p.1)

pub none_bad : {A : Type 0} (ok : A → Bool) (xs : List A) → some_bad ok xs ≡ false → All (λ a. ok a ≡ true) xs
unfolding some_bad
none_bad ok [] e = tt
none_bad ok (a ∷ xs) e = let q = or_false _ _ e in (not-false _ q.0, none_bad ok xs q.1)
