-- The number of leading equal bits of two keys, which "is 0..128, 128 for equal keys" (the rules S), and the bit of a key at a
-- place, where "bit 0 is the most significant" ("The part that is ported").
use Rattle.std.specs.Prelude.{Bool, ◌&&◌, cond, ℕ, zero, suc, ◌-◌, ◌/◌, ◌%◌, ◌^◌, ltb, eqb}

-- At any width: equal numbers share every bit; of two that differ the last bit is cut off, and what is left of them has one bit less.
unfoldable pub common_of : ℕ → ℕ → ℕ → ℕ
common_of zero a b = zero
common_of (suc width) a b = cond (eqb a b) (suc width) (common_of width (a / 2) (b / 2))

unfoldable pub common : ℕ → ℕ → ℕ
common a b = common_of 128 a b

-- whether bit p is 1; past the last place, 127, there is none
unfoldable pub bit_of : ℕ → ℕ → Bool
bit_of a p = ltb p 128 && eqb (a / 2 ^ (127 - p) % 2) 1
