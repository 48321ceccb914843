-- Shifts that tell how many leading zeros a 64-bit word has, and the place of a bit from the right.
use mathlib.Core.Path.{◌≡◌}
use mathlib.Core.Bool.{not}
use Prim.Native.Nat.{ℕ, ◌+◌, ◌-◌, ◌*◌, ◌/◌, ◌%◌, ◌^◌, ◌<◌, ◌≤◌}
use native.Mathlib.Omega.{arith}
use native.Mathlib.Decide.{dec_lt}
use lib.Bits.{bit_xor, bit_and, xor_add_and, and_mask}
use lib.Count.{count_leading_zeros, leading_length}
use lib.Dec.{ltb, leb}
use lib.Pow.{pow_mono, pow-add, shr_lt, shr_mono, shl-shr}
use borrow.Author.Tests.{lt-ltb, le-ltb, le-leb, lt-leb}

pub place_right : (p : ℕ) → p < 64 → bit_xor p 63 ≡ 63 - p
place_right p l =
    let mask : bit_and p 63 ≡ p % 64 = and_mask p 6 in
    omega (arith, xor_add_and p 63, mask)

few : (x k m : ℕ) → x < 2 ^ m → m ≤ 1 + k → x / 2 ^ k ≤ 1
few x k m f l =
    let p = pow_mono l in
    let s : x / 2 ^ k < 2 ^ 1 = shr_lt 1 k (omega arith) in
    omega arith

many : (x k m : ℕ) → 2 ^ m ≤ 2 * x + 1 → 2 + k ≤ m → 1 < x / 2 ^ k
many x k m f l =
    let p = pow_mono l in
    let q : 2 ^ (2 + k) ≡ 4 * 2 ^ k = pow-add 2 2 k in
    let c : 2 * 2 ^ k ≤ x = omega arith in
    let s : 2 * 2 ^ k / 2 ^ k ≤ x / 2 ^ k = shr_mono k c in
    omega (arith, shl-shr 2 k)

-- A 64-bit word has at least p leading zeros exactly if its upper p + 1 bits are at most 1.
pub zeros_place : (x p : ℕ) → x < 2 ^ 64 → p < 64 → leb (x / 2 ^ (63 - p)) 1 ≡ not (ltb (count_leading_zeros 64 x) p)
zeros_place x p f l = go (dec_lt (count_leading_zeros 64 x) p) (leading_length 64 x f)
  where
    go : Dec (count_leading_zeros 64 x < p) → ((m : ℕ) × (count_leading_zeros 64 x + m ≡ 64) × (x < 2 ^ m) × (2 ^ m ≤ 2 * x + 1)) → leb (x / 2 ^ (63 - p)) 1 ≡ not (ltb (count_leading_zeros 64 x) p)
    go (yes s) (m, e, u, v) = rw (lt-ltb (count_leading_zeros 64 x) p s) (lt-leb (x / 2 ^ (63 - p)) 1 (many x (63 - p) m v (omega arith)))
    go (no n) (m, e, u, v) = rw (le-ltb (count_leading_zeros 64 x) p (omega arith)) (le-leb (x / 2 ^ (63 - p)) 1 (few x (63 - p) m u (omega arith)))
