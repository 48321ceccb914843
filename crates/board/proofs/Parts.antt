-- A part of a buffer that is written as a whole: eight bytes from a place on.
use Rattle.std.specs.Prelude.{◌≡◌, refl, List, [], ◌∷◌, ℕ, zero, suc, ◌+◌, ◌≤◌, length, set}
use Rattle.std.proofs.Common.{ap, arith}
use borrow.Rule.Slice.PartMut.{put_mid}

-- eight bytes put in the place of eight are eight bytes stored
pub put_eight : (at : ℕ) (bytes : List ℕ) (a b c d e f g i : ℕ) → at + 8 ≤ length bytes
    → put_mid at 8 bytes (a ∷ b ∷ c ∷ d ∷ e ∷ f ∷ g ∷ i ∷ []) ≡ set (set (set (set (set (set (set (set bytes at a) (at + 1) b) (at + 2) c) (at + 3) d) (at + 4) e) (at + 4 + 1) f) (at + 4 + 2) g) (at + 4 + 3) i
put_eight zero [] a b c d e f g i h = absurd (omega arith)
put_eight zero (x ∷ []) a b c d e f g i h = absurd (omega arith)
put_eight zero (x ∷ y ∷ []) a b c d e f g i h = absurd (omega arith)
put_eight zero (x ∷ y ∷ z ∷ []) a b c d e f g i h = absurd (omega arith)
put_eight zero (x ∷ y ∷ z ∷ w ∷ []) a b c d e f g i h = absurd (omega arith)
put_eight zero (x ∷ y ∷ z ∷ w ∷ p ∷ []) a b c d e f g i h = absurd (omega arith)
put_eight zero (x ∷ y ∷ z ∷ w ∷ p ∷ q ∷ []) a b c d e f g i h = absurd (omega arith)
put_eight zero (x ∷ y ∷ z ∷ w ∷ p ∷ q ∷ r ∷ []) a b c d e f g i h = absurd (omega arith)
put_eight zero (x ∷ y ∷ z ∷ w ∷ p ∷ q ∷ r ∷ s ∷ bytes) a b c d e f g i h = refl
put_eight (suc at) [] a b c d e f g i h = absurd (omega arith)
put_eight (suc at) (x ∷ bytes) a b c d e f g i h =
    let one : suc at + 1 ≡ suc (at + 1) = omega arith in
    let two : suc at + 2 ≡ suc (at + 2) = omega arith in
    let three : suc at + 3 ≡ suc (at + 3) = omega arith in
    let four : suc at + 4 ≡ suc (at + 4) = omega arith in
    let five : suc (at + 4) + 1 ≡ suc (at + 4 + 1) = omega arith in
    let six : suc (at + 4) + 2 ≡ suc (at + 4 + 2) = omega arith in
    let seven : suc (at + 4) + 3 ≡ suc (at + 4 + 3) = omega arith in
    rw (one, two, three, four, five, six, seven) (ap (λ l. x ∷ l) (put_eight at bytes a b c d e f g i (omega arith)))
