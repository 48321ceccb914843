-- Common prefixes. That one number "shares the first p bits" of another (the rules T) is `p ≤ common a b`: here is what it says
-- of the two, and how the counts of three go together.
use Rattle.std.specs.Prelude.{◌≡◌, refl, ◌↔◌, ℕ, zero, suc, ◌+◌, ◌-◌, ◌/◌, ◌^◌, ◌≤◌, ◌<◌, min}
use Rattle.std.proofs.Common.{sym, ◌∙◌, zero-le, div-one, arith}
use Rattle.std.proofs.Math.Nat.{div-eq_of_lt, min-le_left, min-le_right}
use Rattle.keys.specs.Common.{common}
use Rattle.keys.specs.Width.{count_equal, count_at_most, count_turned, count_exactly}

pub common_at_most : (a b : ℕ) → common a b ≤ 128
unfolding common
common_at_most a b = count_at_most 128 a b

pub common_itself : (a : ℕ) → common a a ≡ 128
unfolding common
common_itself a = count_equal 128 refl

pub common_turned : (a b : ℕ) → common a b ≡ common b a
unfolding common
common_turned a b = count_turned 128 a b

-- ---- what is shared

-- the number that the first p bits of a make
abbrev pub prefix_of : ℕ → ℕ → ℕ
prefix_of a p = a / 2 ^ (128 - p)

pub common_prefix : (a b : ℕ) {p : ℕ} → 0 < p → p ≤ common a b → prefix_of a p ≡ prefix_of b p
unfolding common
common_prefix a b {p} l h =
    let e : p + (128 - p) ≡ 128 = omega (arith, common_at_most a b) in
    (count_exactly p (128 - p) a b l).0 (rw e h)

pub prefix_common : (a b : ℕ) {p : ℕ} → p ≤ 128 → prefix_of a p ≡ prefix_of b p → p ≤ common a b
unfolding common
prefix_common a b {p = zero} l e = zero-le
prefix_common a b {p = suc p} l e =
    let w : suc p + (128 - suc p) ≡ 128 = omega arith in
    rw w at ((count_exactly (suc p) (128 - suc p) a b (omega arith)).1 e)

-- Two numbers share p bits exactly if their first p bits make one number.
pub common_exactly : {a b : ℕ} → a < 2 ^ 128 → b < 2 ^ 128 → (p : ℕ) → p ≤ 128 → (p ≤ common a b) ↔ (a / 2 ^ (128 - p) ≡ b / 2 ^ (128 - p))
common_exactly {a} {b} f g p l = (go p, prefix_common a b l)
  where
    go : (p : ℕ) → p ≤ common a b → prefix_of a p ≡ prefix_of b p
    go zero h = div-eq_of_lt f ∙ sym (div-eq_of_lt g)
    go (suc p) h = common_prefix a b (omega arith) h

-- 128 common bits are equal numbers.
pub common_all : {a b : ℕ} → 128 ≤ common a b → a ≡ b
common_all {a} {b} h = sym (div-one a) ∙ common_prefix a b (omega arith) h ∙ div-one b

-- ---- three numbers

shared : (p a b c : ℕ) → p ≤ common a b → p ≤ common b c → p ≤ common a c
shared zero a b c h k = zero-le
shared (suc p) a b c h k =
    prefix_common a c (omega (arith, common_at_most a b)) (common_prefix a b (omega arith) h ∙ common_prefix b c (omega arith) k)

-- What a shares with b and b with c, a shares with c.
pub common_through : (a b c : ℕ) → min (common a b) (common b c) ≤ common a c
common_through a b c = shared (min (common a b) (common b c)) a b c (min-le_left _ _) (min-le_right _ _)
