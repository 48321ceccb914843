-- Bits and common prefixes: below `common a b` the bits of two numbers agree, and at `common a b` they differ. So a descent "by the key's bit at the
-- prefix length" (the rules S) parts the numbers that share no more than the prefix.
use Rattle.std.specs.Prelude.{◌≡◌, refl, ◌≢◌, Bool, true, false, ℕ, ◌+◌, ◌-◌, ◌*◌, ◌/◌, ◌%◌, ◌^◌, ◌≤◌, ◌<◌, ltb, eqb}
use Rattle.std.proofs.Common.{sym, ap, ◌∙◌, le_refl, lt_of_not-le, arith, shr-shr, ltb-true, lt-ltb, eq-eqb, ne_eqb}
use Rattle.std.proofs.lemmas.Bool.{false≢true}
use Rattle.std.proofs.Math.Bool.{and-eq-true_iff}
use Rattle.std.proofs.Math.Decide.{ℕ_discrete, dec_le}
use Rattle.keys.specs.Common.{common, bit_of}
use Rattle.keys.specs.Prefixes.{prefix_of, common_at_most, common_prefix, prefix_common, common_exactly}

-- ---- the first p + 1 bits are the first p and the bit at p

-- a bit as a number
abbrev pub digit : Bool → ℕ
digit true = 1
digit false = 0

digit_small : (x : Bool) → digit x < 2
digit_small true = omega arith
digit_small false = omega arith

digit_equal : (x y : Bool) → digit x ≡ digit y → x ≡ y
digit_equal true true e = refl
digit_equal true false e = absurd (omega arith)
digit_equal false true e = absurd (omega arith)
digit_equal false false e = refl

last_bit : (n : ℕ) → n % 2 ≡ digit (eqb (n % 2) 1)
last_bit n = go (ℕ_discrete (n % 2) 1)
  where
    go : Dec (n % 2 ≡ 1) → n % 2 ≡ digit (eqb (n % 2) 1)
    go (yes e) = rw (eq-eqb (n % 2) 1 e) e
    go (no d) = rw (ne_eqb (n % 2) 1 d) (omega arith)

pub prefix_more : (a : ℕ) {p : ℕ} → p < 128 → prefix_of a (p + 1) ≡ prefix_of a p * 2 + digit (bit_of a p)
unfolding bit_of
prefix_more a {p} h =
    let e : 128 - p ≡ 127 - p + 1 = omega arith in
    let f : 128 - (p + 1) ≡ 127 - p = omega arith in
    rw (lt-ltb p 128 h, e, f, ← (shr-shr a (127 - p) 1), ← (last_bit (a / 2 ^ (127 - p)))) (omega arith)

-- ---- bits that agree, and bits that differ

-- A bit that is 1 stands below 128.
pub bit_inside : (a : ℕ) {p : ℕ} → bit_of a p ≡ true → p < 128
unfolding bit_of
bit_inside a {p} e = ltb-true p 128 ((and-eq-true_iff (ltb p 128) (eqb (a / 2 ^ (127 - p) % 2) 1)).0 e).0

pub bits_agree : (a b : ℕ) {p : ℕ} → p < common a b → bit_of a p ≡ bit_of b p
bits_agree a b {p} h =
    let l : p < 128 = omega (arith, common_at_most a b) in
    let e : prefix_of a (p + 1) ≡ prefix_of b (p + 1) = common_prefix a b (omega arith) (omega arith) in
    digit_equal (bit_of a p) (bit_of b p)
    (omega (arith, prefix_more a l, prefix_more b l, digit_small (bit_of a p), digit_small (bit_of b p)))

-- Bits that differ at p bound the count.
pub bits_apart : (a b : ℕ) {p : ℕ} → bit_of a p ≡ false → bit_of b p ≡ true → common a b ≤ p
bits_apart a b {p} x y = go (dec_le (common a b) p)
  where
    go : Dec (common a b ≤ p) → common a b ≤ p
    go (yes h) = h
    go (no n) = absurd (false≢true (sym x ∙ bits_agree a b (lt_of_not-le n) ∙ y))

-- p common bits and the same bit at p are p + 1 common bits.
pub common_more : {a b p : ℕ} → a < 2 ^ 128 → b < 2 ^ 128 → p < 128 → p ≤ common a b → bit_of a p ≡ bit_of b p → p + 1 ≤ common a b
common_more {a} {b} {p} f g l h e =
    let s : prefix_of a p ≡ prefix_of b p = (common_exactly f g p (omega arith)).0 h in
    prefix_common a b (omega arith) (omega (arith, prefix_more a l, prefix_more b l, ap digit e))

pub bits_differ : {a b : ℕ} → a < 2 ^ 128 → b < 2 ^ 128 → common a b < 128 → bit_of a (common a b) ≢ bit_of b (common a b)
bits_differ f g l e = omega (arith, common_more f g l (le_refl _) e)
