-- What a machine finds of the words of a key or of two keys, as a fact of their numbers.
use mathlib.Core.Path.{◌≡◌, refl, ap, ◌∙◌}
use mathlib.Core.Bool.{Bool, true, false, cond, not, ◌&&◌}
use Prim.Native.Nat.{ℕ, ◌+◌, ◌-◌, ◌/◌, ◌%◌, ◌^◌, ◌<◌}
use native.Mathlib.Decide.{ℕ_discrete, dec_lt}
use native.Mathlib.Omega.{arith}
use lib.Bits.{bit_xor, xor_lt, xor_self}
use lib.Count.{count_leading_zeros, leading_of_zero}
use lib.Dec.{ltb, leb, eqb}
use Rattle.std.specs.Prelude.{Some}
use Rattle.std.specs.Ordering.{is_some_and, is_lt, partial_ordering_then, nat_cmp}
use borrow.Author.Tests.{lt-ltb, le-ltb, eq-eqb, ne_eqb}
use Rattle.keys.specs.declared.Key.{Key}
use Rattle.keys.specs.declared.Way.{Way}
use Rattle.keys.specs.declared.Way.TheVariants.{Parts}
use Rattle.keys.specs.Common.{common, bit_of}
use Rattle.keys.specs.Ways.{way_to, way_of}
use Rattle.keys.specs.Number.{number_of, Fits, number_equal}
use Rattle.keys.proofs.Halves.{high_bit, low_bit, halves_less, halves_count}
use Rattle.keys.proofs.Zeros.{zeros_count}
use Rattle.keys.proofs.Places.{place_right, zeros_place}

pub words_common : {a b : Key} → Fits a → Fits b
    → common (number_of a) (number_of b)
    ≡ cond (eqb a.high b.high) (64 + count_leading_zeros 64 (bit_xor a.low b.low)) (count_leading_zeros 64 (bit_xor a.high b.high))
unfolding common number_of
words_common {a} {b} f g =
    rw (zeros_count 64 a.low b.low, zeros_count 64 a.high b.high)
    (halves_count 64 64 a.high a.low b.high b.low f.low_fits g.low_fits)

pub words_less : {a b : Key} → Fits a → Fits b
    → ltb (number_of a) (number_of b) ≡ cond (eqb a.high b.high) (ltb a.low b.low) (ltb a.high b.high)
unfolding number_of
words_less {a} {b} f g = halves_less a.high a.low b.high b.low f.low_fits g.low_fits

-- what a comparison of pairs of words answers: high words first
pub ordered_less : (q s r t : ℕ) → is_some_and is_lt (partial_ordering_then (Some (nat_cmp q s)) (Some (nat_cmp r t))) ≡ cond (eqb q s) (ltb r t) (ltb q s)
ordered_less q s r t = go (dec_lt q s) (ℕ_discrete q s) (dec_lt r t) (ℕ_discrete r t)
  where
    go : Dec (q < s) → Dec (q ≡ s) → Dec (r < t) → Dec (r ≡ t)
        → is_some_and is_lt (partial_ordering_then (Some (nat_cmp q s)) (Some (nat_cmp r t))) ≡ cond (eqb q s) (ltb r t) (ltb q s)
    go (yes l) _ _ _ = simp (lt-ltb q s l, ne_eqb q s (λ e. absurd (omega arith)))
    go (no n) (no d) _ _ = simp (le-ltb q s (omega (arith, n)), ne_eqb q s d)
    go (no n) (yes e) (yes l) _ = simp (le-ltb q s (omega (arith, n)), eq-eqb q s e, lt-ltb r t l)
    go (no n) (yes e) (no m) (yes h) = simp (le-ltb q s (omega (arith, n)), eq-eqb q s e, le-ltb r t (omega (arith, m)), eq-eqb r t h)
    go (no n) (yes e) (no m) (no d) = simp (le-ltb q s (omega (arith, n)), eq-eqb q s e, le-ltb r t (omega (arith, m)), ne_eqb r t d)

pub words_same : {a b : Key} → Fits a → Fits b → eqb (number_of a) (number_of b) ≡ eqb a.high b.high && eqb a.low b.low
unfolding number_of
words_same {a} {b} f g = go (ℕ_discrete a.high b.high) (ℕ_discrete a.low b.low)
  where
    go : Dec (a.high ≡ b.high) → Dec (a.low ≡ b.low) → eqb (number_of a) (number_of b) ≡ eqb a.high b.high && eqb a.low b.low
    go (yes h) (yes l) = rw (eq-eqb _ _ h, eq-eqb _ _ l) (eq-eqb (number_of a) (number_of b) (rw (h, l)))
    go (yes h) (no d) = rw (eq-eqb _ _ h, ne_eqb _ _ d) (ne_eqb (number_of a) (number_of b) (λ e. d (ap (λ (k : Key). k.low) (number_equal f g e))))
    go (no d) _ = rw (ne_eqb _ _ d) (ne_eqb (number_of a) (number_of b) (λ e. d (ap (λ (k : Key). k.high) (number_equal f g e))))

pub words_bit : {k : Key} → Fits k → (p : ℕ) → p < 128
    → bit_of (number_of k) p ≡ cond (ltb p 64) (eqb (k.high / 2 ^ (63 - p) % 2) 1) (eqb (k.low / 2 ^ (127 - p) % 2) 1)
unfolding bit_of number_of
words_bit {k} f p l = rw (lt-ltb p 128 l) (go (dec_lt p 64))
  where
    go : Dec (p < 64)
        → eqb (number_of k / 2 ^ (127 - p) % 2) 1 ≡ cond (ltb p 64) (eqb (k.high / 2 ^ (63 - p) % 2) 1) (eqb (k.low / 2 ^ (127 - p) % 2) 1)
    go (yes h) =
        let e : 127 - p ≡ 64 + (63 - p) = omega arith in
        rw (lt-ltb p 64 h, e, high_bit 64 k.high k.low (63 - p) f.low_fits)
    go (no n) = rw (le-ltb p 64 (omega arith), low_bit 64 k.high k.low (127 - p) f.low_fits (omega arith))

-- Of p below 64 the high words tell the way, shifted to the bit's place.
pub words_way : {a b : Key} → Fits a → Fits b → (p : ℕ) → p < 64
    → way_of (number_of a) (number_of b) p
    ≡ cond (leb (bit_xor a.high b.high / 2 ^ bit_xor p 63) 1) (way_to (eqb (a.high / 2 ^ bit_xor p 63 % 2) 1)) Parts
unfolding way_of
words_way {a} {b} f g p l =
    rw (place_right p l, words_bit f p (omega arith), lt-ltb p 64 l, zeros_place (bit_xor a.high b.high) p (xor_lt 64 a.high b.high f.high_fits g.high_fits) l, words_common f g)
    (go (way_to (eqb (a.high / 2 ^ (63 - p) % 2) 1)) (ℕ_discrete a.high b.high))
  where
    turn : (q : Bool) (u v : Way) → cond q u v ≡ cond (not q) v u
    turn true u v = refl
    turn false u v = refl

    go : (way : Way) → Dec (a.high ≡ b.high)
        → cond (ltb (cond (eqb a.high b.high) (64 + count_leading_zeros 64 (bit_xor a.low b.low)) (count_leading_zeros 64 (bit_xor a.high b.high))) p) Parts way
        ≡ cond (not (ltb (count_leading_zeros 64 (bit_xor a.high b.high)) p)) way Parts
    go way (no d) = rw (ne_eqb _ _ d) (turn (ltb (count_leading_zeros 64 (bit_xor a.high b.high)) p) Parts way)
    go way (yes e) =
        let none : count_leading_zeros 64 (bit_xor a.high b.high) ≡ 64 = ap (λ (h : ℕ). count_leading_zeros 64 (bit_xor h b.high)) e ∙ ap (count_leading_zeros 64) (xor_self b.high) ∙ leading_of_zero 64 in
        rw (eq-eqb _ _ e, none, le-ltb (64 + count_leading_zeros 64 (bit_xor a.low b.low)) p (omega arith), le-ltb 64 p (omega arith))
