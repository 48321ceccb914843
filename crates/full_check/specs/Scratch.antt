-- What the check leaves of the scratch, byte by byte: rule T17. The first M words are a part of
-- the lent buffer: the laws of such a part.
use Rattle.std.specs.Prelude.{◌≡◌, refl, List, [], ◌∷◌, ◌++◌, ◌≢◌, ℕ, zero, suc, ◌*◌, ◌≤◌, ◌<◌, length, get_or, take, drop}
use Rattle.std.proofs.Common.{sym, ap, ◌∙◌, arith, lt_of_not-le, length-take, take-append-drop, take_at, get_or-take, length-take-le}
use Rattle.std.proofs.Math.Decide.{ℕ_discrete, dec_le}
use Rattle.std.proofs.Math.ListN.{get_or-eq_default}
use Rattle.std.proofs.Math.Seq.{drop_at}
use Rattle.words.specs.Words.{words, word_of, words_length, Bytes, words_tell}
use Rattle.full_check.specs.Check.{unmarked, cleared}

-- `number` is the answer's, `scratch` the words afterwards. Bytes that are in no word stand behind the first m words
pub record ScratchLeft (m : ℕ) (before after : List ℕ) (number : ℕ) (scratch : List ℕ) : Type 0 where
  pub as_words : words after ≡ scratch
  pub beyond : drop (4 * m) after ≡ drop (4 * m) before
  pub kept : number ≡ 1 → after ≡ before

-- ---- the first words of a buffer

four : (k : ℕ) (a b c d : ℕ) (xs : List ℕ) → length (a ∷ b ∷ c ∷ d ∷ xs) ≡ 4 * suc k → length xs ≡ 4 * k
four k a b c d xs e = omega arith

words_append : (k : ℕ) (xs ys : List ℕ) → length xs ≡ 4 * k → words (xs ++ ys) ≡ words xs ++ words ys
unfolding words
words_append zero [] ys e = refl
words_append zero (a ∷ xs) ys e = absurd (omega arith)
words_append (suc k) [] ys e = absurd (omega arith)
words_append (suc k) (a ∷ []) ys e = absurd (omega arith)
words_append (suc k) (a ∷ b ∷ []) ys e = absurd (omega arith)
words_append (suc k) (a ∷ b ∷ c ∷ []) ys e = absurd (omega arith)
words_append (suc k) (a ∷ b ∷ c ∷ d ∷ xs) ys e = ap (λ ws. word_of a b c d ∷ ws) (words_append k xs ys (four k a b c d xs e))

module _ (m : ℕ) (bytes : List ℕ) (fits : m ≤ length (words bytes)) where
  pub first_fits : 4 * m ≤ length bytes
  first_fits = omega (arith, words_length bytes)

  pub first_long : length (take (4 * m) bytes) ≡ 4 * m
  first_long = length-take-le (4 * m) bytes first_fits

  pub first_many : length (words (take (4 * m) bytes)) ≡ m
  first_many = omega (arith, words_length (take (4 * m) bytes), first_long)

  split : words bytes ≡ words (take (4 * m) bytes) ++ words (drop (4 * m) bytes)
  split = ap words (sym (take-append-drop (4 * m) bytes)) ∙ words_append m (take (4 * m) bytes) (drop (4 * m) bytes) first_long

  first_words : words (take (4 * m) bytes) ≡ take m (words bytes)
  first_words = sym (take_at (words (take (4 * m) bytes)) (words (drop (4 * m) bytes)) m first_many) ∙ ap (take m) (sym split)

  rest_words : words (drop (4 * m) bytes) ≡ drop m (words bytes)
  rest_words = sym (drop_at (words (take (4 * m) bytes)) (words (drop (4 * m) bytes)) m first_many) ∙ ap (drop m) (sym split)

  -- the first words were cleared, and the rest is what it was
  pub left_cleared : (part : List ℕ) (number : ℕ) → length part ≡ 4 * m → words part ≡ unmarked m → number ≢ 1
      → ScratchLeft m bytes (part ++ drop (4 * m) bytes) number (cleared m (words bytes))
  unfolding cleared
  left_cleared part number long e other =
      record {
        as_words = rw (words_append m part (drop (4 * m) bytes) long, e, rest_words);
        beyond = drop_at part (drop (4 * m) bytes) (4 * m) long;
        kept = λ one. absurd (other one);
      }

-- ---- no second outcome fits

small_part : (k : ℕ) (xs : List ℕ) → Bytes xs → Bytes (take k xs)
small_part k xs small i = go (dec_le k i)
  where
    go : Dec (k ≤ i) → get_or (take k xs) i 0 < 256
    go (yes l) = omega (arith, get_or-eq_default (take k xs) 0 {n = i} (omega (arith, length-take k xs)))
    go (no n) = rw (get_or-take k xs i 0 (lt_of_not-le n)) (small i)

-- two buffers of bytes, as long as the scratch was, that one contract allows are equal; any answer but refusal 1 has found m words
pub one_scratch : {m : ℕ} {before a b : List ℕ} {number : ℕ} {scratch : List ℕ} → (number ≢ 1 → m ≤ length (words before))
    → Bytes a → Bytes b → length a ≡ length before → length b ≡ length before
    → ScratchLeft m before a number scratch → ScratchLeft m before b number scratch → a ≡ b
one_scratch {m} {before} {a} {b} {number} fits small small' long long' x y = go (ℕ_discrete number 1)
  where
    go : Dec (number ≡ 1) → a ≡ b
    go (yes e) = x.kept e ∙ sym (y.kept e)
    go (no n) =
        let fa : m ≤ length (words a) = omega (arith, fits n, words_length a, words_length before) in
        let fb : m ≤ length (words b) = omega (arith, fits n, words_length b, words_length before) in
        let la : length (take (4 * m) a) ≡ 4 * m = first_long m a fa in
        let lb : length (take (4 * m) b) ≡ 4 * m = first_long m b fb in
        let same : words (take (4 * m) a) ≡ words (take (4 * m) b) =
        first_words m a fa ∙ ap (take m) (x.as_words ∙ sym y.as_words) ∙ sym (first_words m b fb) in
        let front : take (4 * m) a ≡ take (4 * m) b =
        words_tell (take (4 * m) a) (take (4 * m) b) (small_part (4 * m) a small) (small_part (4 * m) b small') (la ∙ sym lb) (omega arith) same in
        let back : drop (4 * m) a ≡ drop (4 * m) b = x.beyond ∙ sym y.beyond in
        sym (take-append-drop (4 * m) a) ∙ ap (λ s. s ++ drop (4 * m) a) front ∙ ap (λ s. take (4 * m) b ++ s) back ∙ take-append-drop (4 * m) b
