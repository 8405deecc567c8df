-- A step and its number: each is the other again, and the number is that of the step's bytes.
-- Assumes nothing.
use mathlib.Core.Path.{◌≡◌, refl, sym, ap, ◌∙◌}
use mathlib.Core.List.{List, ◌∷◌, ◌++◌}
use Prim.Native.Nat.{ℕ, zero, suc, ◌+◌, ◌*◌, ◌/◌, ◌%◌, ◌<◌, ◌^◌}
use native.Mathlib.Nat.{div-div-eq-div-mul, mod-lt, pow-suc, one-le-pow}
use native.Mathlib.Omega.{arith}
use lib.Arith.{mod-mul, digits_div, digits_mod}
use lib.Dec.{lit<}
use Rattle.tables.specs.Pair.{word}
use Rattle.kinds.specs.declared.Step.{Step}
use Rattle.little.specs.Little.{digits}
use Rattle.runfile.specs.File.{step_bytes}
use Rattle.runfile.proofs.FileItems.{StepFits}
use Rattle.runwrite.specs.Writing.{word_of, step_of}

-- byte by byte, as the number is taken apart
twice : (w : ℕ) → w / 65536 ≡ w / 256 / 256
twice w = sym (div-div-eq-div-mul w 256 256)

thrice : (w : ℕ) → w / 16777216 ≡ w / 256 / 256 / 256
thrice w = sym (ap (λ (x : ℕ). x / 256) (div-div-eq-div-mul w 256 256) ∙ div-div-eq-div-mul w 65536 256)

four : (w : ℕ) → w / word ≡ w / 256 / 256 / 256 / 256
four w = sym (ap (λ (x : ℕ). x / 256) (sym (thrice w)) ∙ div-div-eq-div-mul w 16777216 256)

pub step_word : (x : Step) → StepFits x → step_of (word_of x) ≡ x
step_word x h =
    let w = word_of x in
    let u₃ = x.cell + 256 * x.value in
    let u₂ = x.node + 256 * u₃ in
    let u₁ = x.slot + 256 * u₂ in
    let d₁ : w / 256 ≡ u₁ = omega arith in
    let d₂ : u₁ / 256 ≡ u₂ = omega arith in
    let d₃ : u₂ / 256 ≡ u₃ = omega arith in
    let d₄ : u₃ / 256 ≡ x.value = omega arith in
    let k : w % 256 ≡ x.kind = omega arith in
    let s : u₁ % 256 ≡ x.slot = omega arith in
    let n : u₂ % 256 ≡ x.node = omega arith in
    let c : u₃ % 256 ≡ x.cell = omega arith in
    rw (twice w, thrice w, four w, d₁, d₂, d₃, d₄, k, s, n, c)

pub word_step : (w : ℕ) → word_of (step_of w) ≡ w
word_step w = rw (twice w, thrice w, four w) (omega arith)

-- ---- the number and the bytes

digits_low : (k x : ℕ) → digits k (x % 256 ^ k) ≡ digits k x
unfolding digits
digits_low zero x = refl
digits_low (suc k) x =
    let p : 0 < 256 ^ k = one-le-pow k 256 (lit< tt) in
    let e : x % 256 ^ suc k ≡ (x / 256 % 256 ^ k) * 256 + x % 256 = ap (λ (m : ℕ). x % m) (pow-suc 256 k) ∙ mod-mul x p (lit< tt) in
    let d : ((x / 256 % 256 ^ k) * 256 + x % 256) / 256 ≡ x / 256 % 256 ^ k = digits_div (x / 256 % 256 ^ k) (mod-lt x (lit< tt)) in
    let m : ((x / 256 % 256 ^ k) * 256 + x % 256) % 256 ≡ x % 256 = digits_mod (x / 256 % 256 ^ k) (mod-lt x (lit< tt)) in
    rw (e, d, m) (ap (◌∷◌ (x % 256)) (digits_low k (x / 256)))

word_digits : (w : ℕ) → step_bytes (step_of w) ≡ digits 4 w ++ digits 4 (w / word)
unfolding digits
word_digits w = rw (twice w, thrice w)

pub word_bytes : (w : ℕ) → step_bytes (step_of w) ≡ digits 4 (w % word) ++ digits 4 (w / word)
word_bytes w = word_digits w ∙ ap (λ (l : List ℕ). l ++ digits 4 (w / word)) (sym (digits_low 4 w))

-- so the bytes of a step are those of its number
pub number_bytes : (x : Step) → StepFits x → step_bytes x ≡ digits 4 (word_of x % word) ++ digits 4 (word_of x / word)
number_bytes x h = ap step_bytes (sym (step_word x h)) ∙ word_bytes (word_of x)
