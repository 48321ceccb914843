-- The scratch of the full check, byte by byte: rules I2 and T17.
use Rattle.std.specs.Prelude.{◌≡◌, refl, List, [], ◌∷◌, ◌++◌, Bool, ◌≢◌, ℕ, zero, suc, ◌*◌, length, get_or, eqb, Result}
use Rattle.std.proofs.Common.{sym, ◌∙◌, arith, take-append-drop, eq-eqb, ne_eqb}
use Rattle.std.proofs.Math.Path.{ap}
use Rattle.std.proofs.Math.Bool.{true, false, cond}
use Rattle.std.proofs.Math.Decide.{ℕ_discrete}
use Rattle.std.proofs.Math.ListN.{take, drop, replicate}
use Rattle.records.specs.declared.Refusal.{Refusal}
use Rattle.words.specs.Words.{words, word_of}
use Rattle.records.specs.Numbers.{answer_number, refusal_number}
use Rattle.full_check.specs.Check.{unmarked, check_shape, check_of, cleared, check_scratch}
use Rattle.full_check.specs.Scratch.{ScratchLeft}
use Rattle.full_check.specs.Promises.{shut_answer}

-- the scratch is lent as bytes
unfoldable pub board_check : ℕ → ℕ → List ℕ → List ℕ → Result Unit Refusal
board_check m n ws scratch = check_of m n ws (words scratch)

unfoldable pub scratch_after : ℕ → Result Unit Refusal → List ℕ → List ℕ
scratch_after m a scratch = cond (eqb (answer_number a) 1) scratch (replicate (4 * m) 0 ++ drop (4 * m) scratch)

-- ---- from words to bytes: a word that is 0 is four bytes that are 0

four : (k : ℕ) → 4 * suc k ≡ suc (suc (suc (suc (4 * k))))
four k = omega arith

none : {w : ℕ} {ws : List ℕ} → [] ≡ w ∷ ws → ⊥
none {ws = ws} e = let z : 0 ≡ suc (length ws) = ap length e in omega arith

zero_bytes : (k : ℕ) (bytes rest : List ℕ) → words bytes ≡ unmarked k ++ rest → take (4 * k) bytes ≡ replicate (4 * k) 0
unfolding words
zero_bytes zero bytes rest e = refl
zero_bytes (suc k) [] rest e = absurd (none e)
zero_bytes (suc k) (a ∷ []) rest e = absurd (none e)
zero_bytes (suc k) (a ∷ b ∷ []) rest e = absurd (none e)
zero_bytes (suc k) (a ∷ b ∷ c ∷ []) rest e = absurd (none e)
zero_bytes (suc k) (a ∷ b ∷ c ∷ d ∷ bytes) rest e =
    let word : word_of a b c d ≡ 0 = ap (λ (ws : List ℕ). get_or ws 0 0) e in
    let a0 : a ≡ 0 = omega arith in
    let b0 : b ≡ 0 = omega arith in
    let c0 : c ≡ 0 = omega arith in
    let d0 : d ≡ 0 = omega arith in
    let others : take (4 * k) bytes ≡ replicate (4 * k) 0 = zero_bytes k bytes rest (ap (drop 1) e) in
    rw (four k, a0, b0, c0, d0, others)

module _ (m n : ℕ) (ws before after : List ℕ)
    (left : ScratchLeft m before after (answer_number (check_of m n ws (words before))) (check_scratch m n ws (words before))) where
  opened : answer_number (check_of m n ws (words before)) ≢ 1 → (b : Bool) → check_shape m n ws (words before) ≡ b
      → words after ≡ unmarked m ++ drop m (words before)
  unfolding check_scratch cleared answer_number refusal_number
  opened other true e = let shown : check_scratch m n ws (words before) ≡ unmarked m ++ drop m (words before) = simp e in left.as_words ∙ shown
  opened other false e = absurd (other (ap answer_number (shut_answer m n ws before e)))

  -- what the full check's contract says of words and of what lies behind them is this, byte by byte
  pub scratch_bytes : after ≡ scratch_after m (board_check m n ws before) before
  unfolding scratch_after board_check
  scratch_bytes = go (ℕ_discrete (answer_number (check_of m n ws (words before))) 1)
    where
      go : Dec (answer_number (check_of m n ws (words before)) ≡ 1)
          → after ≡ cond (eqb (answer_number (check_of m n ws (words before))) 1) before (replicate (4 * m) 0 ++ drop (4 * m) before)
      go (yes e) = simp (eq-eqb _ _ e) (left.kept e)
      go (no other) =
          let front : take (4 * m) after ≡ replicate (4 * m) 0 =
          zero_bytes m after (drop m (words before)) (opened other (check_shape m n ws (words before)) refl) in
          simp (ne_eqb _ _ other)
          (sym (take-append-drop (4 * m) after) ∙ ap (λ s. s ++ drop (4 * m) after) front ∙ ap (λ s. replicate (4 * m) 0 ++ s) left.beyond)
