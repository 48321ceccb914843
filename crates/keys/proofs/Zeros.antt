-- At any width, the leading zeros of the exclusive or of two numbers are as many as their leading equal bits.
use mathlib.Core.Path.{◌≡◌, refl, sym, ap, ◌∙◌}
use mathlib.Core.Logic.{◌≢◌}
use Prim.Native.Nat.{ℕ, zero, suc, ◌/◌}
use native.Mathlib.Omega.{arith}
use native.Mathlib.Decide.{ℕ_discrete}
use lib.Bits.{bit_xor, xor_shr, xor_self, xor_add_and, and_le_l, and_le_r}
use lib.Count.{count_leading_zeros, leading_of_zero}
use Rattle.keys.specs.Common.{common_of}
use Rattle.keys.specs.Width.{count_equal, count_cut}

xor_zero : (a b : ℕ) → bit_xor a b ≡ zero → a ≡ b
xor_zero a b e = omega (arith, xor_add_and a b, and_le_l a b, and_le_r a b)

zeros_cut : (width n : ℕ) → n ≢ zero → count_leading_zeros (suc width) n ≡ count_leading_zeros width (n / 2)
unfolding count_leading_zeros
zeros_cut width zero d = absurd (d refl)
zeros_cut width (suc n) d = refl

pub zeros_count : (width a b : ℕ) → count_leading_zeros width (bit_xor a b) ≡ common_of width a b
unfolding count_leading_zeros common_of
zeros_count zero a b = refl
zeros_count (suc width) a b = go (ℕ_discrete a b) (zeros_count width (a / 2) (b / 2))
  where
    go : Dec (a ≡ b) → count_leading_zeros width (bit_xor (a / 2) (b / 2)) ≡ common_of width (a / 2) (b / 2)
        → count_leading_zeros (suc width) (bit_xor a b) ≡ common_of (suc width) a b
    go (yes e) rest =
        ap (count_leading_zeros (suc width)) (ap (bit_xor a) (sym e) ∙ xor_self a) ∙ leading_of_zero (suc width) ∙ sym (count_equal (suc width) e)
    go (no d) rest =
        zeros_cut width (bit_xor a b) (λ z. d (xor_zero a b z)) ∙ ap (count_leading_zeros width) (xor_shr a b 1) ∙ rest ∙ sym (count_cut width d)
