-- A whole input, byte by byte: LF (10) ends a line, the line is answered, and the next begins. What an input is answered does not depend on the pieces in which it comes.
use Rattle.std.specs.Prelude.{◌≡◌, Bool, true, false, cond, ℕ, eqb}
use Rattle.std.proofs.Math.Path.{refl, sym, ap}
use Rattle.std.proofs.Common.{◌∙◌}
use mathlib.Core.List.{List, [], ◌∷◌, ◌++◌, append_assoc, flatten}
use Rattle.texts.specs.Lines.{command_of}
use Rattle.commands.specs.Answers.{answer_of, image_after, kept_by}

-- what a byte does behind the bytes of a line that has begun: it ends the line, or belongs to it
unfoldable pub byte_text : ℕ → ℕ → List ℕ → List ℕ → ℕ → List ℕ
byte_text m n ws line b = cond (eqb b 10) (answer_of m n ws (command_of line)) []

unfoldable pub byte_image : ℕ → ℕ → List ℕ → List ℕ → ℕ → List ℕ
byte_image m n ws line b = cond (eqb b 10) (image_after m n ws (command_of line)) ws

unfoldable pub byte_line : List ℕ → ℕ → List ℕ
byte_line line b = cond (eqb b 10) [] (line ++ (b ∷ []))

-- 0 where it writes the image; anything else, and no byte of the image changes
unfoldable pub byte_kept : ℕ → ℕ → List ℕ → List ℕ → ℕ → ℕ
byte_kept m n ws line b = cond (eqb b 10) (kept_by m n ws (command_of line)) 1

-- what bytes are answered, the image behind them, and the line that has begun behind them
unfoldable pub fed_text : ℕ → ℕ → List ℕ → List ℕ → List ℕ → List ℕ
fed_text m n ws line [] = []
fed_text m n ws line (b ∷ bytes) = byte_text m n ws line b ++ fed_text m n (byte_image m n ws line b) (byte_line line b) bytes

unfoldable pub fed_image : ℕ → ℕ → List ℕ → List ℕ → List ℕ → List ℕ
fed_image m n ws line [] = ws
fed_image m n ws line (b ∷ bytes) = fed_image m n (byte_image m n ws line b) (byte_line line b) bytes

unfoldable pub fed_line : List ℕ → List ℕ → List ℕ
fed_line line [] = line
fed_line line (b ∷ bytes) = fed_line (byte_line line b) bytes

-- 0 where some line writes the image; anything else, and no byte of it changes
abbrev pub either : ℕ → ℕ → ℕ
either a b = cond (eqb a 0) 0 b

unfoldable pub fed_kept : ℕ → ℕ → List ℕ → List ℕ → List ℕ → ℕ
fed_kept m n ws line [] = 1
fed_kept m n ws line (b ∷ bytes) = either (byte_kept m n ws line b) (fed_kept m n (byte_image m n ws line b) (byte_line line b) bytes)

-- a last line without LF counts if it has a byte: what it is answered, the image behind it, and whether it writes the image
unfoldable pub last_text : ℕ → ℕ → List ℕ → List ℕ → List ℕ
last_text m n ws [] = []
last_text m n ws (b ∷ line) = answer_of m n ws (command_of (b ∷ line))

unfoldable pub last_image : ℕ → ℕ → List ℕ → List ℕ → List ℕ
last_image m n ws [] = ws
last_image m n ws (b ∷ line) = image_after m n ws (command_of (b ∷ line))

unfoldable pub last_kept : ℕ → ℕ → List ℕ → List ℕ → ℕ
last_kept m n ws [] = 1
last_kept m n ws (b ∷ line) = kept_by m n ws (command_of (b ∷ line))

-- what a whole input is answered, the image behind it, and whether it writes the image
unfoldable pub input_text : ℕ → ℕ → List ℕ → List ℕ → List ℕ
input_text m n ws bytes = fed_text m n ws [] bytes ++ last_text m n (fed_image m n ws [] bytes) (fed_line [] bytes)

unfoldable pub input_image : ℕ → ℕ → List ℕ → List ℕ → List ℕ
input_image m n ws bytes = last_image m n (fed_image m n ws [] bytes) (fed_line [] bytes)

unfoldable pub input_kept : ℕ → ℕ → List ℕ → List ℕ → ℕ
input_kept m n ws bytes = either (fed_kept m n ws [] bytes) (last_kept m n (fed_image m n ws [] bytes) (fed_line [] bytes))

-- ---- cut anywhere

module _ (m n : ℕ) where
  pub fed_text_append : (ws line s t : List ℕ)
      → fed_text m n ws line (s ++ t) ≡ fed_text m n ws line s ++ fed_text m n (fed_image m n ws line s) (fed_line line s) t
  unfolding fed_text fed_image fed_line
  fed_text_append ws line [] t = refl
  fed_text_append ws line (b ∷ s) t =
      ap (λ (x : List ℕ). byte_text m n ws line b ++ x) (fed_text_append (byte_image m n ws line b) (byte_line line b) s t)
      ∙ sym (append_assoc (byte_text m n ws line b) (fed_text m n (byte_image m n ws line b) (byte_line line b) s) _)

  pub fed_image_append : (ws line s t : List ℕ) → fed_image m n ws line (s ++ t) ≡ fed_image m n (fed_image m n ws line s) (fed_line line s) t
  unfolding fed_image fed_line
  fed_image_append ws line [] t = refl
  fed_image_append ws line (b ∷ s) t = fed_image_append (byte_image m n ws line b) (byte_line line b) s t

pub either_assoc : (a b c : ℕ) → either (either a b) c ≡ either a (either b c)
either_assoc a b c = go (eqb a 0)
  where
    go : (t : Bool) → cond (eqb (cond t 0 b) 0) 0 c ≡ cond t 0 (cond (eqb b 0) 0 c)
    go true = refl
    go false = refl

pub fed_line_append : (line s t : List ℕ) → fed_line line (s ++ t) ≡ fed_line (fed_line line s) t
unfolding fed_line
fed_line_append line [] t = refl
fed_line_append line (b ∷ s) t = fed_line_append (byte_line line b) s t

pub fed_kept_append : (m n : ℕ) (ws line s t : List ℕ)
    → fed_kept m n ws line (s ++ t) ≡ either (fed_kept m n ws line s) (fed_kept m n (fed_image m n ws line s) (fed_line line s) t)
unfolding fed_kept fed_image fed_line
fed_kept_append m n ws line [] t = refl
fed_kept_append m n ws line (b ∷ s) t =
    ap (λ (k : ℕ). either (byte_kept m n ws line b) k) (fed_kept_append m n (byte_image m n ws line b) (byte_line line b) s t)
    ∙ sym (either_assoc (byte_kept m n ws line b) (fed_kept m n (byte_image m n ws line b) (byte_line line b) s) _)

-- no other number than 0 and 1
pub fed_kept_one : (m n : ℕ) (ws line bytes : List ℕ) → either (fed_kept m n ws line bytes) 1 ≡ fed_kept m n ws line bytes
unfolding fed_kept
fed_kept_one m n ws line [] = refl
fed_kept_one m n ws line (b ∷ bytes) =
    either_assoc (byte_kept m n ws line b) (fed_kept m n (byte_image m n ws line b) (byte_line line b) bytes) 1
    ∙ ap (λ (k : ℕ). either (byte_kept m n ws line b) k) (fed_kept_one m n (byte_image m n ws line b) (byte_line line b) bytes)

-- ---- piece after piece, and then the last line

unfoldable pub pieces_text : ℕ → ℕ → List ℕ → List ℕ → List (List ℕ) → List ℕ
pieces_text m n ws line [] = last_text m n ws line
pieces_text m n ws line (p ∷ ps) = fed_text m n ws line p ++ pieces_text m n (fed_image m n ws line p) (fed_line line p) ps

unfoldable pub pieces_image : ℕ → ℕ → List ℕ → List ℕ → List (List ℕ) → List ℕ
pieces_image m n ws line [] = last_image m n ws line
pieces_image m n ws line (p ∷ ps) = pieces_image m n (fed_image m n ws line p) (fed_line line p) ps

unfoldable pub pieces_kept : ℕ → ℕ → List ℕ → List ℕ → List (List ℕ) → ℕ
pieces_kept m n ws line [] = last_kept m n ws line
pieces_kept m n ws line (p ∷ ps) = either (fed_kept m n ws line p) (pieces_kept m n (fed_image m n ws line p) (fed_line line p) ps)

module _ (m n : ℕ) where
  pieces_text_lem : (ws line : List ℕ) (ps : List (List ℕ))
      → pieces_text m n ws line ps ≡ fed_text m n ws line (flatten ps) ++ last_text m n (fed_image m n ws line (flatten ps)) (fed_line line (flatten ps))
  unfolding pieces_text flatten fed_text fed_image fed_line
  pieces_text_lem ws line [] = refl
  pieces_text_lem ws line (p ∷ ps) =
      ap (λ (x : List ℕ). fed_text m n ws line p ++ x) (pieces_text_lem (fed_image m n ws line p) (fed_line line p) ps)
      ∙ sym
      (rw (fed_text_append m n ws line p (flatten ps), fed_image_append m n ws line p (flatten ps), fed_line_append line p (flatten ps))
      (append_assoc (fed_text m n ws line p) (fed_text m n (fed_image m n ws line p) (fed_line line p) (flatten ps)) _))

  pieces_image_lem : (ws line : List ℕ) (ps : List (List ℕ))
      → pieces_image m n ws line ps ≡ last_image m n (fed_image m n ws line (flatten ps)) (fed_line line (flatten ps))
  unfolding pieces_image flatten fed_image fed_line
  pieces_image_lem ws line [] = refl
  pieces_image_lem ws line (p ∷ ps) =
      pieces_image_lem (fed_image m n ws line p) (fed_line line p) ps
      ∙ sym (rw (fed_image_append m n ws line p (flatten ps), fed_line_append line p (flatten ps)))

  pieces_kept_lem : (ws line : List ℕ) (ps : List (List ℕ))
      → pieces_kept m n ws line ps ≡ either (fed_kept m n ws line (flatten ps)) (last_kept m n (fed_image m n ws line (flatten ps)) (fed_line line (flatten ps)))
  unfolding pieces_kept flatten fed_kept fed_image fed_line
  pieces_kept_lem ws line [] = refl
  pieces_kept_lem ws line (p ∷ ps) =
      ap (λ (k : ℕ). either (fed_kept m n ws line p) k) (pieces_kept_lem (fed_image m n ws line p) (fed_line line p) ps)
      ∙ sym
      (rw (fed_kept_append m n ws line p (flatten ps), fed_image_append m n ws line p (flatten ps), fed_line_append line p (flatten ps))
      (either_assoc (fed_kept m n ws line p) (fed_kept m n (fed_image m n ws line p) (fed_line line p) (flatten ps)) _))

  -- however an input is cut, it is answered the same, and leaves the same image
  pub however_cut : (ws : List ℕ) (ps : List (List ℕ))
      → (pieces_text m n ws [] ps ≡ input_text m n ws (flatten ps))
      × (pieces_image m n ws [] ps ≡ input_image m n ws (flatten ps))
      × (pieces_kept m n ws [] ps ≡ input_kept m n ws (flatten ps))
  unfolding input_text input_image input_kept
  however_cut ws ps = (pieces_text_lem ws [] ps, pieces_image_lem ws [] ps, pieces_kept_lem ws [] ps)
