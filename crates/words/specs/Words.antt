-- A lent buffer of bytes as 32-bit words, lowest byte first: rule I2. The laws that callers
-- lean on: how many words there are, what a store leaves of each, and that on whole words equal words are equal bytes.
use Rattle.std.specs.Prelude.{◌≡◌, refl, List, [], ◌∷◌, ◌⊎◌, ℕ, zero, suc, ◌+◌, ◌*◌, ◌/◌, ◌%◌, ◌^◌, ◌<◌, ◌≤◌, length, get_or, set}
use Rattle.std.proofs.Common.{ap, ◌∙◌, inl, inr, ⊎_elim, arith, eq-or-lt_of_le, ext_get_or}
use Rattle.std.proofs.Math.ListN.{get_or-eq_default}
use Rattle.std.proofs.Math.Seq.{set_out}

-- the word that four bytes make
abbrev pub word_of : ℕ → ℕ → ℕ → ℕ → ℕ
word_of a b c d = a + 256 * b + 65536 * c + 16777216 * d

-- the words of a buffer; up to three bytes over are in no word
unfoldable pub words : List ℕ → List ℕ
words [] = []
words (a ∷ []) = []
words (a ∷ b ∷ []) = []
words (a ∷ b ∷ c ∷ []) = []
words (a ∷ b ∷ c ∷ d ∷ bytes) = word_of a b c d ∷ words bytes

-- ---- how many, and which bytes each is made of

pub words_length : (bytes : List ℕ) → length (words bytes) ≡ length bytes / 4
unfolding words
words_length [] = refl
words_length (a ∷ []) = refl
words_length (a ∷ b ∷ []) = refl
words_length (a ∷ b ∷ c ∷ []) = refl
words_length (a ∷ b ∷ c ∷ d ∷ bytes) = omega (arith, words_length bytes)

-- the four places of word k + 1, as places in the list behind the first four bytes
next : (k r : ℕ) → 4 * suc k + r ≡ suc (suc (suc (suc (4 * k + r))))
next k r = omega arith

first : (k : ℕ) → 4 * suc k ≡ suc (suc (suc (suc (4 * k))))
first k = omega arith

pub words_at : (bytes : List ℕ) (k : ℕ) → 4 * k + 4 ≤ length bytes
    → get_or (words bytes) k 0 ≡ word_of (get_or bytes (4 * k) 0) (get_or bytes (4 * k + 1) 0) (get_or bytes (4 * k + 2) 0) (get_or bytes (4 * k + 3) 0)
unfolding words
words_at [] k h = absurd (omega arith)
words_at (a ∷ []) k h = absurd (omega arith)
words_at (a ∷ b ∷ []) k h = absurd (omega arith)
words_at (a ∷ b ∷ c ∷ []) k h = absurd (omega arith)
words_at (a ∷ b ∷ c ∷ d ∷ bytes) zero h = refl
words_at (a ∷ b ∷ c ∷ d ∷ bytes) (suc k) h =
    rw (next k 3, next k 2, next k 1, first k) (words_at bytes k (omega arith))

-- past the end a word is 0, and a store changes nothing
pub words_past : (bytes : List ℕ) (k : ℕ) → length bytes / 4 ≤ k → get_or (words bytes) k 0 ≡ 0
words_past bytes k h = get_or-eq_default (words bytes) 0 (omega (arith, words_length bytes))

pub words_kept : (bytes : List ℕ) (k v : ℕ) → length bytes / 4 ≤ k → set (words bytes) k v ≡ words bytes
words_kept bytes k v h = set_out (words bytes) k v (omega (arith, words_length bytes))

-- ---- a store

-- four bytes stored at a word's place are one word stored
words_set : (bytes : List ℕ) (k a b c d : ℕ) → 4 * k + 4 ≤ length bytes
    → words (set (set (set (set bytes (4 * k) a) (4 * k + 1) b) (4 * k + 2) c) (4 * k + 3) d) ≡ set (words bytes) k (word_of a b c d)
unfolding words
words_set [] k a b c d h = refl
words_set (x ∷ []) k a b c d h = absurd (omega arith)
words_set (x ∷ y ∷ []) k a b c d h = absurd (omega arith)
words_set (x ∷ y ∷ z ∷ []) k a b c d h = absurd (omega arith)
words_set (x ∷ y ∷ z ∷ w ∷ bytes) zero a b c d h = refl
words_set (x ∷ y ∷ z ∷ w ∷ bytes) (suc k) a b c d h =
    rw (next k 3, next k 2, next k 1, first k) (ap (λ ws. word_of x y z w ∷ ws) (words_set bytes k a b c d (omega arith)))

word_bytes : (v : ℕ) → v < 2 ^ 32 → word_of (v % 256) (v / 256 % 256) (v / 65536 % 256) (v / 16777216) ≡ v
word_bytes v h = omega arith

-- the four bytes of a word from a byte's place on, lowest first
unfoldable pub put_word : List ℕ → ℕ → ℕ → List ℕ
put_word bytes at v =
    set (set (set (set bytes at (v % 256)) (at + 1) (v / 256 % 256)) (at + 2) (v / 65536 % 256)) (at + 3) (v / 16777216)

pub words_put : (bytes : List ℕ) (k v : ℕ) → 4 * k + 4 ≤ length bytes → v < 2 ^ 32 → words (put_word bytes (4 * k) v) ≡ set (words bytes) k v
unfolding put_word
words_put bytes k v h l = words_set bytes k _ _ _ _ h ∙ ap (set (words bytes) k) (word_bytes v l)

-- ---- whole words: where no word differs, no byte does

-- a byte is below 256; so is what stands past the end
abbrev pub Bytes : List ℕ → Type 0
Bytes bytes = (i : ℕ) → get_or bytes i 0 < 256

-- a place is one of the four of its word
place : (i : ℕ) → (i ≡ 4 * (i / 4)) ⊎ ((i ≡ 4 * (i / 4) + 1) ⊎ ((i ≡ 4 * (i / 4) + 2) ⊎ (i ≡ 4 * (i / 4) + 3)))
place i =
    let three : i % 4 ≤ 3 = omega arith in
    ⊎_elim
    (λ a. inr (inr (inr (omega arith))))
    (λ a.
    let two : i % 4 ≤ 2 = omega arith in
    ⊎_elim
    (λ b. inr (inr (inl (omega arith))))
    (λ b. let one : i % 4 ≤ 1 = omega arith in ⊎_elim (λ d. inr (inl (omega arith))) (λ d. inl (omega arith)) (eq-or-lt_of_le one))
    (eq-or-lt_of_le two))
    (eq-or-lt_of_le three)

module _ (xs ys : List ℕ) (small : Bytes xs) (small' : Bytes ys) (long : length xs ≡ length ys) (whole : length xs % 4 ≡ 0)
    (same : words xs ≡ words ys) where
  four : (k : ℕ) → 4 * k + 4 ≤ length xs
      → (get_or xs (4 * k) 0 ≡ get_or ys (4 * k) 0) × (get_or xs (4 * k + 1) 0 ≡ get_or ys (4 * k + 1) 0)
      × (get_or xs (4 * k + 2) 0 ≡ get_or ys (4 * k + 2) 0) × (get_or xs (4 * k + 3) 0 ≡ get_or ys (4 * k + 3) 0)
  four k h =
      let p = words_at xs k h in
      let q = words_at ys k (omega arith) in
      let e : get_or (words xs) k 0 ≡ get_or (words ys) k 0 = ap (λ ws. get_or ws k 0) same in
      let a = small (4 * k) in
      let b = small (4 * k + 1) in
      let c = small (4 * k + 2) in
      let d = small (4 * k + 3) in
      let a' = small' (4 * k) in
      let b' = small' (4 * k + 1) in
      let c' = small' (4 * k + 2) in
      let d' = small' (4 * k + 3) in
      (omega arith, omega arith, omega arith, omega arith)

  pub words_tell : xs ≡ ys
  words_tell = ext_get_or 0 xs ys long each
    where
      at : (i r : ℕ) → i ≡ r → get_or xs r 0 ≡ get_or ys r 0 → get_or xs i 0 ≡ get_or ys i 0
      at i r e g = rw e g

      each : (i : ℕ) → i < length xs → get_or xs i 0 ≡ get_or ys i 0
      each i h =
          let f = four (i / 4) (omega arith) in
          ⊎_elim (λ e. at i _ e f.0) (⊎_elim (λ e. at i _ e f.1) (⊎_elim (λ e. at i _ e f.2) (λ e. at i _ e f.3))) (place i)
