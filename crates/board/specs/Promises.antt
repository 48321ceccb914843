-- What the rules promise of the board's calls: each number "when, and only then", in the bytes that C lends; what the output holds after each; and that no second outcome fits. (The image is only
-- read: both contracts lend it for reading.)
use Rattle.std.specs.Prelude.{◌≡◌, refl, List, ◌∷◌, ◌++◌, true, false, ◌≢◌, ◌↔◌, ◌⊎◌, ℕ, ◌+◌, ◌*◌, ◌/◌, ◌%◌, ◌≤◌, ◌<◌, length, drop, replicate, Err, Ok, Result}
use Rattle.std.proofs.Common.{sym, ap, ◌∙◌, inl, inr, arith, lt_of_not-le, eq-eqb, ne_eqb}
use Rattle.std.proofs.Math.Decide.{dec_le}
use Rattle.records.specs.declared.Refusal.{Refusal}
use Rattle.words.specs.Words.{words, words_length}
use Rattle.keys.specs.declared.Key.{Key}
use Rattle.records.specs.declared.Value.{Value}
use Rattle.records.specs.Layout.{image_of}
use Rattle.records.specs.Records.{header_of}
use Rattle.inspection.specs.Tests.{shape_ok, top_ok}
use Rattle.inspection.specs.Room.{shaped, shaped_whole, whole_words}
use Rattle.records.specs.Numbers.{refusal_number, answer_number, got_value}
use Rattle.lookup.specs.Get.{get_of}
use Rattle.lookup.specs.Promises.{get_numbers}
use Rattle.full_check.specs.Check.{records_ok}
use Rattle.full_check.specs.Promises.{numbers}
use Rattle.board.specs.Output.{value_bytes, lookup_of, output_after, long_enough, too_short}
use Rattle.board.specs.Scratch.{board_check, scratch_after}

-- ---- the image's byte length

-- an image of any other byte length is refusal 1, by `LookupNumbers` and `CheckNumbers`
pub byte_length : (m n : ℕ) (img : List ℕ) → shape_ok m n (length (image_of img)) ≡ true → length img ≡ 48 + 48 * n + 32 * m
byte_length m n img e =
    let whole : length img % 4 ≡ 0 = shaped_whole m n img e in
    let many : length (image_of img) ≡ length img / 4 = ap length (whole_words img whole) ∙ words_length img in
    omega (arith, (shaped m n (length (image_of img)) e).words)

-- ---- lookup

pub record LookupNumbers (m n : ℕ) (ws : List ℕ) (key : Key) (out : List ℕ) (number : ℕ) : Type 0 where
  -- M or N out of limits, or the length differs, or the output has fewer than 16 bytes
  pub shape : (number ≡ 1) ↔ ((shape_ok m n (length ws) ≡ false) ⊎ (length out < 16))
  -- else it is the number of the map's own lookup, whose cases are in `lookup`'s promises
  pub other : 16 ≤ length out → number ≡ answer_number (get_of m n ws key)

pub lookup_numbers : (m n : ℕ) (ws : List ℕ) (key : Key) (out : List ℕ) → LookupNumbers m n ws key out (answer_number (lookup_of m n ws key out))
unfolding answer_number refusal_number
lookup_numbers m n ws key out = go (dec_le 16 (length out))
  where
    go : Dec (16 ≤ length out) → LookupNumbers m n ws key out (answer_number (lookup_of m n ws key out))
    go (yes l) =
        let same = ap answer_number (long_enough m n ws key out l) in
        record {
          shape = (λ e. inl ((get_numbers m n ws key).shape.0 (sym same ∙ e)), λ c. same ∙ back c);
          other = λ z. same;
        }
      where
        back : (shape_ok m n (length ws) ≡ false) ⊎ (length out < 16) → answer_number (get_of m n ws key) ≡ 1
        back (inl f) = (get_numbers m n ws key).shape.1 f
        back (inr k) = absurd (omega arith)
    go (no k) =
        let short = ap answer_number (too_short m n ws key out (lt_of_not-le k)) in
        record { shape = (λ e. inr (lt_of_not-le k), λ c. short); other = λ z. absurd (k z) }

-- the output after each answer
pub record Output (a : Result Value Refusal) (before after : List ℕ) : Type 0 where
  pub kept : answer_number a ≡ 1 → after ≡ before
  pub zeros : answer_number a ≢ 0 → answer_number a ≢ 1 → after ≡ replicate 16 0 ++ drop 16 before
  pub value : (v : Value) → a ≡ Ok v → after ≡ value_bytes v ++ drop 16 before

pub output : (a : Result Value Refusal) (before : List ℕ) → Output a before (output_after a before)
unfolding output_after answer_number got_value value_bytes
output (Ok v) before =
    record {
      kept = λ e. absurd (omega arith);
      zeros = λ n k. absurd (n refl);
      value = λ w e. ap (λ (a : Result Value Refusal). value_bytes (got_value a) ++ drop 16 before) e;
    }
output (Err r) before =
    record {
      kept = λ e. simp (eq-eqb _ _ e);
      zeros = λ n k. simp (ne_eqb _ _ k);
      value = λ w e. let z : ◌≡◌ {A = ℕ} 0 1 = cc in absurd (omega arith);
    }

-- the 16 bytes are the value's four words in the image's order
pub value_words : (v : Value) (rest : List ℕ)
    → words (value_bytes v ++ rest)
    ≡ v.first % 4294967296 ∷ v.first / 4294967296 ∷ v.second % 4294967296 ∷ v.second / 4294967296 ∷ words rest
unfolding words value_bytes
value_words v rest =
    rw (word (v.first % 4294967296), word (v.first / 4294967296), word (v.second % 4294967296), word (v.second / 4294967296))
  where
    word : (w : ℕ) → w % 256 + 256 * (w / 256 % 256) + 65536 * (w / 65536 % 256) + 16777216 * (w / 16777216) ≡ w
    word w = omega arith

-- what a lookup's contract allows: the number, and the output afterwards
pub record Looked (m n : ℕ) (img : List ℕ) (key : Key) (before : List ℕ) (number : ℕ) (after : List ℕ) : Type 0 where
  pub answer : number ≡ answer_number (lookup_of m n (image_of img) key before)
  pub output : after ≡ output_after (lookup_of m n (image_of img) key before) before

-- no second outcome fits
pub looked_once : {m n : ℕ} {img : List ℕ} {key : Key} {before : List ℕ} {number number' : ℕ} {after after' : List ℕ}
    → Looked m n img key before number after → Looked m n img key before number' after' → (number ≡ number') × (after ≡ after')
looked_once x y = (x.answer ∙ sym y.answer, x.output ∙ sym y.output)

-- ---- the full check

pub record CheckNumbers (m n : ℕ) (ws scratch : List ℕ) (number : ℕ) : Type 0 where
  -- M or N out of limits, or the length differs, or the scratch has fewer than 4M bytes
  pub shape : (number ≡ 1) ↔ ((shape_ok m n (length ws) ≡ false) ⊎ (length scratch < 4 * m))
  -- a test of the header or of a record fails
  pub damaged : (number ≡ 2)
      ↔ ((shape_ok m n (length ws) ≡ true) × (4 * m ≤ length scratch) × ((top_ok m n ws ≡ false) ⊎ (records_ok m n (header_of n ws) ws ≡ false)))
  -- the header and all records pass
  pub accepted : (number ≡ 0)
      ↔ ((shape_ok m n (length ws) ≡ true) × (4 * m ≤ length scratch) × (top_ok m n ws ≡ true) × (records_ok m n (header_of n ws) ws ≡ true))
  pub no_other : number ≤ 2

pub check_numbers : (m n : ℕ) (ws scratch : List ℕ) → CheckNumbers m n ws scratch (answer_number (board_check m n ws scratch))
unfolding board_check
check_numbers m n ws scratch =
    let k = numbers m n ws (words scratch) in
    record {
      shape = (λ e. to (k.shape.0 e), λ c. k.shape.1 (from c));
      damaged = (
        λ e. (let c = k.damaged.0 e in (c.0, bytes c.1, c.2)),
        λ c. k.damaged.1 (c.0, whole c.1, c.2),
      );
      accepted = (
        λ e. (let c = k.accepted.0 e in (c.0, bytes c.1, c.2, c.3)),
        λ c. k.accepted.1 (c.0, whole c.1, c.2, c.3),
      );
      no_other = k.no_other;
    }
  where
    bytes : m ≤ length (words scratch) → 4 * m ≤ length scratch
    bytes l = omega (arith, words_length scratch)

    whole : 4 * m ≤ length scratch → m ≤ length (words scratch)
    whole l = omega (arith, words_length scratch)

    to : (shape_ok m n (length ws) ≡ false) ⊎ (length (words scratch) < m) → (shape_ok m n (length ws) ≡ false) ⊎ (length scratch < 4 * m)
    to (inl f) = inl f
    to (inr l) = inr (omega (arith, words_length scratch))

    from : (shape_ok m n (length ws) ≡ false) ⊎ (length scratch < 4 * m) → (shape_ok m n (length ws) ≡ false) ⊎ (length (words scratch) < m)
    from (inl f) = inl f
    from (inr l) = inr (omega (arith, words_length scratch))

-- what a check's contract allows: the number, and the scratch afterwards
pub record Checked (m n : ℕ) (img before : List ℕ) (number : ℕ) (after : List ℕ) : Type 0 where
  pub answer : number ≡ answer_number (board_check m n (image_of img) before)
  pub scratch : after ≡ scratch_after m (board_check m n (image_of img) before) before

-- no second outcome fits
pub checked_once : {m n : ℕ} {img before : List ℕ} {number number' : ℕ} {after after' : List ℕ}
    → Checked m n img before number after → Checked m n img before number' after' → (number ≡ number') × (after ≡ after')
checked_once x y = (x.answer ∙ sym y.answer, x.scratch ∙ sym y.scratch)
