-- The output of a lookup, byte by byte: 16 bytes in the image's order, the first word first and the lowest byte first. Shorter is refusal 1, which touches nothing; after any other refusal the
-- 16 bytes are zero; what lies behind them is kept.
use Rattle.std.specs.Prelude.{◌≡◌, refl, List, [], ◌∷◌, ◌++◌, cond, ℕ, ◌+◌, ◌/◌, ◌%◌, ◌≤◌, ◌<◌, length, drop, eqb, leb, Err, Result}
use Rattle.std.proofs.Common.{arith, le-leb}
use Rattle.std.proofs.lemmas.Bool.{lt-leb}
use Rattle.records.specs.declared.Refusal.{Refusal}
use Rattle.words.specs.Words.{put_word}
use Rattle.keys.specs.declared.Key.{Key}
use Rattle.records.specs.declared.Value.{Value}
use Rattle.records.specs.declared.Refusal.TheVariants as no
use Rattle.records.specs.Numbers.{answer_number, got_value}
use Rattle.lookup.specs.Get.{get_of}

-- ---- the bytes

-- the four bytes of a word, lowest first
abbrev pub word_bytes : ℕ → List ℕ
word_bytes v = v % 256 ∷ v / 256 % 256 ∷ v / 65536 % 256 ∷ v / 16777216 ∷ []

-- the low word first
abbrev pub wide_bytes : ℕ → List ℕ
wide_bytes v = word_bytes (v % 4294967296) ++ word_bytes (v / 4294967296)

-- the first word first
unfoldable pub value_bytes : Value → List ℕ
value_bytes v = wide_bytes v.first ++ wide_bytes v.second

-- ---- the calls

-- an output of fewer than 16 bytes is refusal 1, before anything else
unfoldable pub lookup_of : ℕ → ℕ → List ℕ → Key → List ℕ → Result Value Refusal
lookup_of m n ws key out = cond (leb 16 (length out)) (get_of m n ws key) (Err no.Shape)

module _ (m n : ℕ) (ws : List ℕ) (key : Key) (out : List ℕ) where
  pub long_enough : 16 ≤ length out → lookup_of m n ws key out ≡ get_of m n ws key
  unfolding lookup_of
  long_enough l = simp (le-leb 16 (length out) l)

  pub too_short : length out < 16 → lookup_of m n ws key out ≡ Err no.Shape
  unfolding lookup_of
  too_short l = simp (lt-leb 16 (length out) l)

-- the output afterwards: the value of the answer, which is zeros where the answer is a refusal
unfoldable pub output_after : Result Value Refusal → List ℕ → List ℕ
output_after a out = cond (eqb (answer_number a) 1) out (value_bytes (got_value a) ++ drop 16 out)

-- ---- stored byte by byte

unfoldable pub put_wide : List ℕ → ℕ → ℕ → List ℕ
put_wide bytes at v = put_word (put_word bytes at (v % 4294967296)) (at + 4) (v / 4294967296)

-- 16 bytes stored are the value's, and the rest is what it was
pub put_value : (bytes : List ℕ) (v : Value) → 16 ≤ length bytes → put_wide (put_wide bytes 0 v.first) 8 v.second ≡ value_bytes v ++ drop 16 bytes
unfolding put_wide put_word value_bytes
put_value [] v h = absurd (omega arith)
put_value (a ∷ []) v h = absurd (omega arith)
put_value (a ∷ b ∷ []) v h = absurd (omega arith)
put_value (a ∷ b ∷ c ∷ []) v h = absurd (omega arith)
put_value (a ∷ b ∷ c ∷ d ∷ []) v h = absurd (omega arith)
put_value (a ∷ b ∷ c ∷ d ∷ e ∷ []) v h = absurd (omega arith)
put_value (a ∷ b ∷ c ∷ d ∷ e ∷ f ∷ []) v h = absurd (omega arith)
put_value (a ∷ b ∷ c ∷ d ∷ e ∷ f ∷ g ∷ []) v h = absurd (omega arith)
put_value (a ∷ b ∷ c ∷ d ∷ e ∷ f ∷ g ∷ i ∷ []) v h = absurd (omega arith)
put_value (a ∷ b ∷ c ∷ d ∷ e ∷ f ∷ g ∷ i ∷ j ∷ []) v h = absurd (omega arith)
put_value (a ∷ b ∷ c ∷ d ∷ e ∷ f ∷ g ∷ i ∷ j ∷ k ∷ []) v h = absurd (omega arith)
put_value (a ∷ b ∷ c ∷ d ∷ e ∷ f ∷ g ∷ i ∷ j ∷ k ∷ l ∷ []) v h = absurd (omega arith)
put_value (a ∷ b ∷ c ∷ d ∷ e ∷ f ∷ g ∷ i ∷ j ∷ k ∷ l ∷ m ∷ []) v h = absurd (omega arith)
put_value (a ∷ b ∷ c ∷ d ∷ e ∷ f ∷ g ∷ i ∷ j ∷ k ∷ l ∷ m ∷ n ∷ []) v h = absurd (omega arith)
put_value (a ∷ b ∷ c ∷ d ∷ e ∷ f ∷ g ∷ i ∷ j ∷ k ∷ l ∷ m ∷ n ∷ o ∷ []) v h = absurd (omega arith)
put_value (a ∷ b ∷ c ∷ d ∷ e ∷ f ∷ g ∷ i ∷ j ∷ k ∷ l ∷ m ∷ n ∷ o ∷ p ∷ []) v h = absurd (omega arith)
put_value (a ∷ b ∷ c ∷ d ∷ e ∷ f ∷ g ∷ i ∷ j ∷ k ∷ l ∷ m ∷ n ∷ o ∷ p ∷ q ∷ bytes) v h = refl
