-- A part of a buffer that is written as a whole: four bytes from a place on.
use Rattle.std.specs.Prelude.{◌≡◌, refl, List, [], ◌∷◌, ℕ, zero, suc, ◌+◌, ◌≤◌, length, set}
use Rattle.std.proofs.Common.{ap, arith}
use borrow.Rule.Slice.PartMut.{put_mid}

-- four bytes put in the place of four are four bytes stored
pub put_four : (at : ℕ) (bytes : List ℕ) (a b c d : ℕ) → at + 4 ≤ length bytes
    → put_mid at 4 bytes (a ∷ b ∷ c ∷ d ∷ []) ≡ set (set (set (set bytes at a) (at + 1) b) (at + 2) c) (at + 3) d
put_four zero [] a b c d h = absurd (omega arith)
put_four zero (x ∷ []) a b c d h = absurd (omega arith)
put_four zero (x ∷ y ∷ []) a b c d h = absurd (omega arith)
put_four zero (x ∷ y ∷ z ∷ []) a b c d h = absurd (omega arith)
put_four zero (x ∷ y ∷ z ∷ w ∷ bytes) a b c d h = refl
put_four (suc at) [] a b c d h = absurd (omega arith)
put_four (suc at) (x ∷ bytes) a b c d h =
    let one : suc at + 1 ≡ suc (at + 1) = omega arith in
    let two : suc at + 2 ≡ suc (at + 2) = omega arith in
    let three : suc at + 3 ≡ suc (at + 3) = omega arith in
    rw (one, two, three) (ap (λ l. x ∷ l) (put_four at bytes a b c d (omega arith)))
