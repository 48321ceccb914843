-- What a call that may write leaves of the buffer: the image's words afterwards, and after a refusal every byte as it was. With the answer these determine the whole outcome.
use Rattle.std.specs.Prelude.{◌≡◌, refl, List, ◌≢◌, ℕ, ◌%◌, length}
use Rattle.std.proofs.Common.{sym, ap, ◌∙◌}
use Rattle.std.proofs.Math.Decide.{ℕ_discrete}
use Rattle.words.specs.Words.{words, Bytes, words_tell}
use Rattle.records.specs.Layout.{image_of}
use Rattle.inspection.specs.Room.{whole_words}

-- `number` is the answer's: 0 where the call does not refuse
pub record Leaves (before after : List ℕ) (number : ℕ) (image : List ℕ) : Type 0 where
  pub words : image_of after ≡ image
  pub kept : number ≢ 0 → after ≡ before

-- No second outcome fits: two buffers of bytes, as long as the buffer was, that one contract allows are equal. A call that does not refuse has found whole words.
pub one_outcome : {before a b : List ℕ} {number : ℕ} {image : List ℕ} → (number ≡ 0 → length before % 4 ≡ 0)
    → Bytes a → Bytes b → length a ≡ length before → length b ≡ length before
    → Leaves before a number image → Leaves before b number image → a ≡ b
one_outcome {before} {a} {b} {number} whole small small' long long' x y = go (ℕ_discrete number 0)
  where
    go : Dec (number ≡ 0) → a ≡ b
    go (no n) = x.kept n ∙ sym (y.kept n)
    go (yes z) =
        let w : length before % 4 ≡ 0 = whole z in
        let wa : length a % 4 ≡ 0 = ap (λ (k : ℕ). k % 4) long ∙ w in
        let wb : length b % 4 ≡ 0 = ap (λ (k : ℕ). k % 4) long' ∙ w in
        words_tell a b small small' (long ∙ sym long') wa
        (sym (whole_words a wa) ∙ x.words ∙ sym y.words ∙ whole_words b wb)

-- ---- the two ways in which a call comes to its end

-- whole words were stored
pub wrote : {before after image : List ℕ} {number : ℕ} → length before % 4 ≡ 0 → length after ≡ length before → number ≡ 0 → words after ≡ image
    → Leaves before after number image
wrote {before} {after} whole long zero e =
    record { words = whole_words after (ap (λ (k : ℕ). k % 4) long ∙ whole) ∙ e; kept = λ n. absurd (n zero) }

-- nothing was
pub left_alone : {before image : List ℕ} {number : ℕ} → image ≡ image_of before → Leaves before before number image
left_alone e = record { words = sym e; kept = λ n. refl }
