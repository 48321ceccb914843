-- A key as a number. "A key is two 64-bit words, high and low; bit 0 is the most significant" (the rules P), so the
-- high word is the upper half of a 128-bit number.
use Rattle.std.specs.Prelude.{◌≡◌, ℕ, ◌+◌, ◌*◌, ◌/◌, ◌%◌, ◌^◌, ◌<◌}
use Rattle.std.proofs.Common.{sym, ap, ◌∙◌}
use Rattle.std.proofs.Math.Arith.{digits_lt, digits_div, digits_mod}
use Rattle.keys.specs.declared.Key.{Key}

unfoldable pub number_of : Key → ℕ
number_of k = k.high * 2 ^ 64 + k.low

-- Both words fit 64 bits, as they do in every key that a function takes or answers.
pub record Fits (k : Key) : Type 0 where
  pub high_fits : k.high < 2 ^ 64
  pub low_fits : k.low < 2 ^ 64

pub number_bounded : {k : Key} → Fits k → number_of k < 2 ^ 128
unfolding number_of
number_bounded f = digits_lt f.high_fits f.low_fits

-- ---- the number gives the words back

pub number_high : {k : Key} → Fits k → number_of k / 2 ^ 64 ≡ k.high
unfolding number_of
number_high {k} f = digits_div k.high f.low_fits

pub number_low : {k : Key} → Fits k → number_of k % 2 ^ 64 ≡ k.low
unfolding number_of
number_low {k} f = digits_mod k.high f.low_fits

-- Keys with equal numbers are equal keys.
pub number_equal : {a b : Key} → Fits a → Fits b → number_of a ≡ number_of b → a ≡ b
number_equal {a} {b} f g e =
    let high : a.high ≡ b.high = sym (number_high f) ∙ ap (λ (n : ℕ). n / 2 ^ 64) e ∙ number_high g in
    let low : a.low ≡ b.low = sym (number_low f) ∙ ap (λ (n : ℕ). n % 2 ^ 64) e ∙ number_low g in
    λ ι. record { high = high ι; low = low ι }
