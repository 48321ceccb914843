-- Numbers as text and back: the rules C, keys and values in 32 lowercase hexadecimal digits, indexes and counts in decimal without leading zeros.
use Rattle.std.specs.Prelude.{◌≡◌, refl, List, [], ◌∷◌, ◌++◌, Bool, true, false, cond, ◌&&◌, ◌||◌, ℕ, zero, suc, ◌+◌, ◌*◌, ◌-◌, ◌/◌, ◌%◌, ◌^◌, ◌<◌, ◌≤◌, length, get_or, set, ltb, leb, Option, Some, None}
use Rattle.std.proofs.Common.{sym, ap, ◌∙◌, ⊎_elim, append_assoc, append-nil, add-suc, mul_comm, pow-suc, add-one, arith, length-append, leb-true}
use Rattle.std.proofs.Math.Nat.{eq-or-lt_of_le, one-le-pow, pow-le-pow_right, div-div-eq-div-mul}
use Rattle.std.proofs.Math.Arith.{mod-mul}
use Rattle.std.proofs.lemmas.Bool.Decides.{nat_tests}
use Rattle.words.specs.Tests.{and_r}
use Rattle.texts.specs.Put.{put, put_none, put_last}

-- ---- a number as text

-- the byte of a digit: `0` to `9`, then `a` to `f`
unfoldable pub glyph : ℕ → ℕ
glyph d = cond (ltb d 10) (48 + d) (87 + d)

-- the last k digits of a number, the most significant first
unfoldable pub digits : ℕ → ℕ → ℕ → List ℕ
digits base zero n = []
digits base (suc k) n = digits base k (n / base) ++ (glyph (n % base) ∷ [])

pub digits_length : (base k n : ℕ) → length (digits base k n) ≡ k
unfolding digits
digits_length base zero n = refl
digits_length base (suc k) n =
    length-append (digits base k (n / base)) (glyph (n % base) ∷ []) ∙ omega (arith, digits_length base k (n / base))

-- printed from the last digit on: the last one is stored, and the others are those of the rest
pub digits_step : (base k n : ℕ) (bytes : List ℕ) (at : ℕ) → 0 < k
    → put (set bytes (at + (k - 1)) (glyph (n % base))) at (digits base (k - 1) (n / base)) ≡ put bytes at (digits base k n)
unfolding digits
digits_step base zero n bytes at h = absurd (omega arith)
digits_step base (suc k) n bytes at h =
    let less : suc k - 1 ≡ k = omega arith in
    rw less
    (sym
    (put_last bytes at (glyph (n % base)) (digits base k (n / base))
    ∙ ap (λ (j : ℕ). put (set bytes (at + j) (glyph (n % base))) at (digits base k (n / base))) (digits_length base k (n / base))))

pub digits_end : (base k n : ℕ) (bytes : List ℕ) (at : ℕ) → k ≤ 0 → put bytes at (digits base k n) ≡ bytes
unfolding digits
digits_end base zero n bytes at h = put_none bytes at
digits_end base (suc k) n bytes at h = absurd (omega arith)

-- the last hex digits, cut in two: those of the number's high part, then those of its low part
pub digits_parts : (j k n : ℕ) → digits 16 j (n / 16 ^ k) ++ digits 16 k (n % 16 ^ k) ≡ digits 16 (j + k) n
unfolding digits
digits_parts j zero n =
    let all : n / 16 ^ zero ≡ n = omega arith in
    let none : j + zero ≡ j = omega arith in
    rw (all, none) (append-nil (digits 16 j n))
digits_parts j (suc k) n =
    let whole : n % 16 ^ suc k ≡ (n / 16 % 16 ^ k) * 16 + n % 16 = ap (λ (p : ℕ). n % p) (pow-suc 16 k) ∙ mod-mul n (one-le-pow k 16 (omega arith)) (omega arith) in
    let high : n / 16 ^ suc k ≡ n / 16 / 16 ^ k = ap (λ (p : ℕ). n / p) (pow-suc 16 k ∙ mul_comm (16 ^ k) 16) ∙ sym (div-div-eq-div-mul n 16 (16 ^ k)) in
    let mid : n % 16 ^ suc k / 16 ≡ n / 16 % 16 ^ k = omega (arith, whole) in
    let low : n % 16 ^ suc k % 16 ≡ n % 16 = omega (arith, whole) in
    rw (high, mid, low, add-suc j k)
    (sym (append_assoc (digits 16 j (n / 16 / 16 ^ k)) (digits 16 k (n / 16 % 16 ^ k)) (glyph (n % 16) ∷ []))
    ∙ ap (λ (l : List ℕ). l ++ (glyph (n % 16) ∷ [])) (digits_parts j k (n / 16)))

-- a 64-bit number: sixteen hex digits
abbrev pub hex_of : ℕ → List ℕ
hex_of n = digits 16 16 n

-- how many decimal digits a 32-bit number takes
unfoldable pub width_of : ℕ → ℕ
width_of n =
    cond (ltb n 10) 1
    (cond (ltb n 100) 2
    (cond (ltb n 1000) 3
    (cond (ltb n 10000) 4
    (cond (ltb n 100000) 5
    (cond (ltb n 1000000) 6 (cond (ltb n 10000000) 7 (cond (ltb n 100000000) 8 (cond (ltb n 1000000000) 9 10))))))))

-- one more than the greatest power of ten that is not above it
pub width_is : (n k : ℕ) → k < 10 → 10 ^ k ≤ n → n < 10 * 10 ^ k → width_of n ≡ k + 1
unfolding width_of
width_is n zero h p q = grind (arith, nat_tests)
width_is n (suc zero) h p q = grind (arith, nat_tests)
width_is n (suc (suc zero)) h p q = grind (arith, nat_tests)
width_is n (suc (suc (suc zero))) h p q = grind (arith, nat_tests)
width_is n (suc (suc (suc (suc zero)))) h p q = grind (arith, nat_tests)
width_is n (suc (suc (suc (suc (suc zero))))) h p q = grind (arith, nat_tests)
width_is n (suc (suc (suc (suc (suc (suc zero)))))) h p q = grind (arith, nat_tests)
width_is n (suc (suc (suc (suc (suc (suc (suc zero))))))) h p q = grind (arith, nat_tests)
width_is n (suc (suc (suc (suc (suc (suc (suc (suc zero)))))))) h p q = grind (arith, nat_tests)
width_is n (suc (suc (suc (suc (suc (suc (suc (suc (suc zero))))))))) h p q = grind (arith, nat_tests)
width_is n (suc (suc (suc (suc (suc (suc (suc (suc (suc (suc k)))))))))) h p q = absurd (omega arith)

-- a 32-bit number in decimal, without leading zeros
unfoldable pub decimal_of : ℕ → List ℕ
decimal_of n = digits 10 (width_of n) n

-- ---- text as a number

-- a lowercase hex digit
unfoldable pub is_digit : ℕ → Bool
is_digit b = (leb 48 b && leb b 57) || (leb 97 b && leb b 102)

-- what it stands for; another byte stands for 0
unfoldable pub digit_of : ℕ → ℕ
digit_of b = cond (leb 97 b && leb b 102) (b - 87) (cond (leb 48 b && leb b 57) (b - 48) 0)

-- the k bytes from a place on are hex digits
unfoldable pub digits_at : List ℕ → ℕ → ℕ → Bool
digits_at line at zero = true
digits_at line at (suc k) = digits_at line at k && is_digit (get_or line (at + k) 0)

-- the number that they stand for, the most significant first
unfoldable pub value_at : List ℕ → ℕ → ℕ → ℕ
value_at line at zero = 0
value_at line at (suc k) = 16 * value_at line at k + digit_of (get_or line (at + k) 0)

-- one digit more
pub digits_at_more : (line : List ℕ) (at k : ℕ) → digits_at line at (k + 1) ≡ digits_at line at k && is_digit (get_or line (at + k) 0)
unfolding digits_at
digits_at_more line at k = rw (add-one k)

pub value_at_more : (line : List ℕ) (at k : ℕ) → value_at line at (k + 1) ≡ 16 * value_at line at k + digit_of (get_or line (at + k) 0)
unfolding value_at
value_at_more line at k = rw (add-one k)

-- one that is no digit
and_false : (x : Bool) → (x && false) ≡ false
and_false true = refl
and_false false = refl

pub digits_at_not : (line : List ℕ) (at j k : ℕ) → j < k → is_digit (get_or line (at + j) 0) ≡ false → digits_at line at k ≡ false
unfolding digits_at
digits_at_not line at j zero h e = absurd (omega arith)
digits_at_not line at j (suc k) h e =
    let here : j ≡ k → (digits_at line at k && is_digit (get_or line (at + k) 0)) ≡ false = λ f. rw (← f, e) (and_false (digits_at line at j)) in
    let before : j < k → (digits_at line at k && is_digit (get_or line (at + k) 0)) ≡ false = λ l. rw (digits_at_not line at j k l e) refl in
    ⊎_elim here before (eq-or-lt_of_le (omega arith))

-- what is read of a byte
pub digit_some : (b v : ℕ) → Some v ≡ cond (is_digit b) (Some (digit_of b)) None → (is_digit b ≡ true) × (v ≡ digit_of b)
digit_some b v = go (is_digit b)
  where
    go : (t : Bool) → Some v ≡ cond t (Some (digit_of b)) None → (t ≡ true) × (v ≡ digit_of b)
    go true e = (refl, cc)
    go false e = absurd (cc)

pub digit_none : (b : ℕ) → ◌≡◌ {A = Option ℕ} None (cond (is_digit b) (Some (digit_of b)) None) → is_digit b ≡ false
digit_none b = go (is_digit b)
  where
    go : (t : Bool) → ◌≡◌ {A = Option ℕ} None (cond t (Some (digit_of b)) None) → t ≡ false
    go true e = absurd (cc)
    go false e = refl

-- a digit is below 16, and k digits are below 16 ^ k: sixteen fit 64 bits
pub digit_small : (b : ℕ) → digit_of b < 16
unfolding digit_of
digit_small b =
    pick (leb 97 b && leb b 102) (leb 48 b && leb b 57) (λ e. leb-true b 102 (and_r (leb 97 b) _ e)) (λ e. leb-true b 57 (and_r (leb 48 b) _ e))
  where
    pick : (x y : Bool) → (x ≡ true → b ≤ 102) → (y ≡ true → b ≤ 57) → cond x (b - 87) (cond y (b - 48) 0) < 16
    pick true y f g = let h : b ≤ 102 = f refl in omega arith
    pick false true f g = let h : b ≤ 57 = g refl in omega arith
    pick false false f g = omega arith

pub value_below : (line : List ℕ) (at k : ℕ) → value_at line at k < 16 ^ k
unfolding value_at
value_below line at zero = omega arith
value_below line at (suc k) =
    omega (arith, value_below line at k, digit_small (get_or line (at + k) 0), pow-suc 16 k)

pub value_room : (line : List ℕ) (at k : ℕ) → k < 16 → value_at line at k < 1152921504606846976
value_room line at k h =
    let most : 16 ^ k ≤ 16 ^ 15 = pow-le-pow_right {n = 16} (omega arith) {i = k} {j = 15} (omega arith) in
    omega (arith, value_below line at k)

-- ---- examples

pub hex_example : hex_of 43981 ≡ 48 ∷ 48 ∷ 48 ∷ 48 ∷ 48 ∷ 48 ∷ 48 ∷ 48 ∷ 48 ∷ 48 ∷ 48 ∷ 48 ∷ 97 ∷ 98 ∷ 99 ∷ 100 ∷ []
unfolding digits glyph
hex_example = refl

pub decimal_example : decimal_of 4294967295 ≡ 52 ∷ 50 ∷ 57 ∷ 52 ∷ 57 ∷ 54 ∷ 55 ∷ 50 ∷ 57 ∷ 53 ∷ []
unfolding digits glyph width_of decimal_of
decimal_example = refl

pub zero_example : decimal_of 0 ≡ 48 ∷ []
unfolding digits glyph width_of decimal_of
zero_example = refl
