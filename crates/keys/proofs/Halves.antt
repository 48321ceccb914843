-- Numbers of two halves: where the high halves are equal the low halves decide, and else the high halves do.
use mathlib.Core.Path.{◌≡◌, refl, sym, ap, ◌∙◌}
use mathlib.Core.Logic.{◌≢◌}
use mathlib.Core.Bool.{cond}
use Prim.Native.Nat.{ℕ, zero, suc, ◌+◌, ◌-◌, ◌*◌, ◌/◌, ◌%◌, ◌^◌, ◌<◌}
use native.Mathlib.Nat.{add-suc, add-zero, mul-one, mul-le-mul_right}
use native.Mathlib.Omega.{arith}
use native.Mathlib.Decide.{ℕ_discrete, dec_lt}
use lib.Arith.{lt-one, digits_div}
use lib.Bits.{block_half}
use lib.Dec.{ltb, eqb}
use lib.Pow.{high, low, shr-shr, field, mod-mod-pow}
use borrow.Author.Tests.{lt-ltb, le-ltb, eq-eqb, ne_eqb}
use Rattle.keys.specs.Common.{common_of}
use Rattle.keys.specs.Width.{count_equal, count_cut}

-- ---- a bit, d places from the right

pub high_bit : (k q r d : ℕ) → r < 2 ^ k → (q * 2 ^ k + r) / 2 ^ (k + d) ≡ q / 2 ^ d
high_bit k q r d f = rw (← (shr-shr (q * 2 ^ k + r) k d), high q k f)

pub low_bit : (k q r d : ℕ) → r < 2 ^ k → d < k → (q * 2 ^ k + r) / 2 ^ d % 2 ≡ r / 2 ^ d % 2
low_bit k q r d f l =
    let n : ℕ = q * 2 ^ k + r in
    let e : k - suc d + 1 + d ≡ k = omega arith in
    let cut : n % 2 ^ k / 2 ^ d ≡ n / 2 ^ d % 2 ^ (k - suc d + 1) = rw e at (field n (k - suc d + 1) d) in
    sym (mod-mod-pow (n / 2 ^ d) (k - suc d) 1) ∙ ap (λ (m : ℕ). m % 2) (sym cut) ∙ ap (λ (m : ℕ). m / 2 ^ d % 2) (low q k f)

-- ---- order

above : (q r s t c : ℕ) → q < s → r < c → q * c + r < s * c + t
above q r s t c h f = omega (arith, mul-le-mul_right c h)

pub halves_less : (q r s t : ℕ) {c : ℕ} → r < c → t < c → ltb (q * c + r) (s * c + t) ≡ cond (eqb q s) (ltb r t) (ltb q s)
halves_less q r s t {c} f g = go (ℕ_discrete q s) (dec_lt r t) (dec_lt q s)
  where
    go : Dec (q ≡ s) → Dec (r < t) → Dec (q < s) → ltb (q * c + r) (s * c + t) ≡ cond (eqb q s) (ltb r t) (ltb q s)
    go (yes e) (yes l) _ = rw (eq-eqb q s e, lt-ltb r t l, e) (lt-ltb (s * c + r) (s * c + t) (omega arith))
    go (yes e) (no n) _ = rw (eq-eqb q s e, le-ltb r t (omega arith), e) (le-ltb (s * c + r) (s * c + t) (omega arith))
    go (no d) _ (yes l) = rw (ne_eqb q s d, lt-ltb q s l) (lt-ltb _ _ (above q r s t c l f))
    go (no d) _ (no n) =
        let l : s * c + t < q * c + r = above s t q r c (omega arith) g in
        rw (ne_eqb q s d, le-ltb q s (omega arith)) (le-ltb (q * c + r) (s * c + t) (omega arith))

-- ---- leading equal bits

high_differ : (q r s t : ℕ) {c : ℕ} → r < c → t < c → q ≢ s → q * c + r ≢ s * c + t
high_differ q r s t {c} f g d e = d (sym (digits_div q f) ∙ ap (λ (n : ℕ). n / c) e ∙ digits_div s g)

half : (k n : ℕ) → n < 2 ^ suc k → n / 2 < 2 ^ k
half k n l = omega arith

pub halves_count : (width k q r s t : ℕ) → r < 2 ^ k → t < 2 ^ k
    → common_of (width + k) (q * 2 ^ k + r) (s * 2 ^ k + t) ≡ cond (eqb q s) (width + common_of k r t) (common_of width q s)
unfolding common_of
halves_count width zero q r s t f g = go (ℕ_discrete q s)
  where
    go : Dec (q ≡ s) → common_of (width + zero) (q * 1 + r) (s * 1 + t) ≡ cond (eqb q s) (width + common_of zero r t) (common_of width q s)
    go (yes e) = simp (lt-one f, lt-one g, add-zero, mul-one, eq-eqb q s e, count_equal width e)
    go (no d) = simp (lt-one f, lt-one g, add-zero, mul-one, ne_eqb q s d)
halves_count width (suc k) q r s t f g =
    go (ℕ_discrete q s) (ℕ_discrete r t) (halves_count width k q (r / 2) s (t / 2) (half k r f) (half k t g))
  where
    go : Dec (q ≡ s) → Dec (r ≡ t)
        → common_of (width + k) (q * 2 ^ k + r / 2) (s * 2 ^ k + t / 2) ≡ cond (eqb q s) (width + common_of k (r / 2) (t / 2)) (common_of width q s)
        → common_of (width + suc k) (q * 2 ^ suc k + r) (s * 2 ^ suc k + t) ≡ cond (eqb q s) (width + common_of (suc k) r t) (common_of width q s)
    go (yes e) (yes l) rest = rw (eq-eqb q s e, count_equal (suc k) l, e, l) (count_equal (width + suc k) refl)
    go (yes e) (no d) rest =
        let n : q * 2 ^ suc k + r ≢ s * 2 ^ suc k + t = rw e (λ h. d (omega arith)) in
        rw (add-suc, count_cut (width + k) n, block_half q k r, block_half s k t, count_cut k d) rest
    go (no d) _ rest =
        let n : q * 2 ^ suc k + r ≢ s * 2 ^ suc k + t = high_differ q r s t f g d in
        rw (add-suc, count_cut (width + k) n, block_half q k r, block_half s k t, rest, ne_eqb q s d)
