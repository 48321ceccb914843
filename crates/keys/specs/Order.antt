-- Order and common prefixes: what lies between two numbers shares what they share, and two that part at a bit are ordered by it. So leaves with
-- "bit p 0 on the left and 1 on the right" (the rules T) stand from left to right as in the ascending list (the rules P).
use Rattle.std.specs.Prelude.{◌≡◌, refl, ◌↔◌, Bool, true, false, ℕ, zero, suc, ◌+◌, ◌-◌, ◌^◌, ◌≤◌, ◌<◌, min}
use Rattle.std.proofs.Common.{sym, ap, ◌∙◌, zero-le, le_refl, le_of_eq, le_antisymm, lt_of_not-le, not-le_of_lt, lt_trans, arith}
use Rattle.std.proofs.Math.Nat.{div-eq_of_lt}
use Rattle.std.proofs.Math.Pow.{shr_mono}
use Rattle.keys.specs.Common.{common, bit_of}
use Rattle.keys.specs.Prefixes.{prefix_of, common_at_most, common_turned, common_prefix, prefix_common, common_all, common_through}
use Rattle.keys.specs.Bits.{digit, prefix_more, bit_inside, bits_differ}

-- ---- between two

shared : (p : ℕ) {a b c : ℕ} → a ≤ b → b ≤ c → p ≤ common a c → p ≤ common a b
shared zero h k s = zero-le
shared (suc p) {a} {b} {c} h k s =
    let above : prefix_of b (suc p) ≤ prefix_of a (suc p) = rw (common_prefix a c (omega arith) s) (shr_mono (128 - suc p) k) in
    prefix_common a b (omega (arith, common_at_most a c)) (le_antisymm (shr_mono (128 - suc p) h) above)

-- What lies between two that share p bits shares them too: the outer two share just what both share with the one between.
pub common_between : {a b c : ℕ} → a ≤ b → b ≤ c → common a c ≡ min (common a b) (common b c)
common_between {a} {b} {c} h k =
    omega (arith, shared (common a c) h k (le_refl _), common_through a b c, common_through b a c, common_turned a b)

-- ---- parting at a bit

below : (p : ℕ) {a : ℕ} (b : ℕ) → a < 2 ^ 128 → p ≤ common a b → prefix_of a p ≤ prefix_of b p
below zero b f h = rw (div-eq_of_lt f) zero-le
below (suc p) {a} b f h = le_of_eq (common_prefix a b (omega arith) h)

-- Two that part at p are ordered by their bit at p.
pub order_of_bits : {a b p : ℕ} → a < 2 ^ 128 → p ≤ common a b → bit_of a p ≡ false → bit_of b p ≡ true → a < b
order_of_bits {a} {b} {p} f h x y =
    let l : p < 128 = bit_inside b y in
    let less : prefix_of a (p + 1) < prefix_of b (p + 1) = omega (arith, below p b f h, prefix_more a l, prefix_more b l, ap digit x, ap digit y) in
    lt_of_not-le (λ k. not-le_of_lt less (shr_mono (128 - (p + 1)) k))

pub bits_of_order : {a b : ℕ} → b < 2 ^ 128 → a < b → (bit_of a (common a b) ≡ false) × (bit_of b (common a b) ≡ true)
bits_of_order {a} {b} g l = go (bit_of a (common a b)) (bit_of b (common a b)) refl refl
  where
    parted : common a b < 128
    parted = lt_of_not-le (λ h. let e : a ≡ b = common_all h in omega arith)

    go : (x y : Bool) → bit_of a (common a b) ≡ x → bit_of b (common a b) ≡ y → (bit_of a (common a b) ≡ false) × (bit_of b (common a b) ≡ true)
    go false true x y = (x, y)
    go true false x y = absurd (omega (arith, order_of_bits g (le_of_eq (common_turned a b)) y x))
    go true true x y = absurd (bits_differ (lt_trans l g) g parted (x ∙ sym y))
    go false false x y = absurd (bits_differ (lt_trans l g) g parted (x ∙ sym y))

-- Of two numbers the smaller has 0 where they part, and the other has 1.
pub order_exactly : {a b : ℕ} → a < 2 ^ 128 → b < 2 ^ 128 → (a < b) ↔ ((bit_of a (common a b) ≡ false) × (bit_of b (common a b) ≡ true))
order_exactly f g = (bits_of_order g, λ h. order_of_bits f (le_refl _) h.0 h.1)
