-- What a line that is not bad looks like: it is its command's own text, byte for byte, and the text of a command asks for that command. So the definitions by places in Lines say what the rules C say in
-- words: "one space parts the fields; keys and values are 32 lowercase hex digits, high or first word first", and nothing else is taken.
use Rattle.std.specs.Prelude.{◌≡◌, refl, Bool, true, false, cond, ◌&&◌, ℕ, zero, suc, ◌+◌, ◌*◌, ◌-◌, ◌/◌, ◌%◌, ◌<◌, ◌≤◌, get_or, drop, leb, eqb, Option, Some, None, option_map}
use Rattle.std.proofs.Common.{sym, ◌∙◌, ⊎_elim, add-suc, arith, drop-cons}
use Rattle.std.proofs.Math.Path.{ap}
use mathlib.Core.List.{List, [], ◌∷◌, ◌++◌, append_assoc, append-nil}
use Rattle.std.proofs.Math.ListN.{length}
use Rattle.std.proofs.Math.Seq.{drop-length}
use borrow.Author.Tests.{leb-true, lt-ltb, le-ltb, lt-leb, eqb-true}
use Rattle.words.specs.Tests.{and_l, and_r, or_cases}
use Rattle.keys.specs.declared.Key.{Key}
use Rattle.records.specs.declared.Value.{Value}
use Rattle.texts.specs.declared.Command.{Command}
use Rattle.texts.specs.declared.Command.TheVariants as command
use Rattle.texts.specs.Lines.{both, word_at, field_at, key_from, value_from, both_from, one_field, two_fields, key_asked, both_asked, alone_asked, letter_asked, command_of}
use Rattle.texts.specs.Texts.{pair_text}
use Rattle.texts.specs.Digits.{glyph, digits, hex_of, is_digit, digit_of, digit_small, digits_at, value_at}

-- ---- digits

-- a hex digit is the byte of what it stands for
pub digit_exact : (b : ℕ) → is_digit b ≡ true → glyph (digit_of b) ≡ b
unfolding is_digit digit_of glyph
digit_exact b e = ⊎_elim low high (or_cases (leb 48 b && leb b 57) (leb 97 b && leb b 102) e)
  where
    low : (leb 48 b && leb b 57) ≡ true → glyph (digit_of b) ≡ b
    low t =
        let p : 48 ≤ b = leb-true 48 b (and_l (leb 48 b) (leb b 57) t) in
        let q : b ≤ 57 = leb-true b 57 (and_r (leb 48 b) (leb b 57) t) in
        let r : b - 48 < 10 = omega arith in
        let s : 48 + (b - 48) ≡ b = omega arith in
        let n : b < 97 = omega arith in
        simp (lt-leb 97 b n, t, lt-ltb (b - 48) 10 r) s

    high : (leb 97 b && leb b 102) ≡ true → glyph (digit_of b) ≡ b
    high t =
        let p : 97 ≤ b = leb-true 97 b (and_l (leb 97 b) (leb b 102) t) in
        let r : 10 ≤ b - 87 = omega arith in
        let s : 87 + (b - 87) ≡ b = omega arith in
        simp (t, le-ltb (b - 87) 10 r) s

-- k hex digits are the k digits of their number
pub digits_exact : (line : List ℕ) (at k : ℕ) → digits_at line at k ≡ true → at + k ≤ length line
    → drop at line ≡ digits 16 k (value_at line at k) ++ drop (at + k) line
unfolding digits_at value_at digits
digits_exact line at zero e h = let z : at + zero ≡ at = omega arith in rw z
digits_exact line at (suc k) e h =
    let v = value_at line at k in
    let b = get_or line (at + k) 0 in
    let small : digit_of b < 16 = digit_small b in
    let up : (16 * v + digit_of b) / 16 ≡ v = omega arith in
    let low : (16 * v + digit_of b) % 16 ≡ digit_of b = omega arith in
    let here : drop (at + k) line ≡ b ∷ drop (suc (at + k)) line = drop-cons line (at + k) 0 (omega arith) in
    digits_exact line at k (and_l (digits_at line at k) (is_digit b) e) (omega arith)
    ∙ rw (up, low, digit_exact b (and_r (digits_at line at k) (is_digit b) e), add-suc at k)
    (ap (λ (t : List ℕ). digits 16 k v ++ t) here ∙ sym (append_assoc (digits 16 k v) (b ∷ []) (drop (suc (at + k)) line)))

-- ---- fields

-- the parts of two answers that are both there, and of a word that is
pub both_is : {A B : Type 0} (x : Option A) (y : Option B) (w : A × B) → both x y ≡ Some w → (x ≡ Some w.0) × (y ≡ Some w.1)
unfolding both
both_is None y w e = absurd (cc)
both_is (Some a) None w e = absurd (cc)
both_is (Some a) (Some b) w e = let f : (a, b) ≡ w = cc in (ap (λ (z : _ × _). Some z.0) f, ap (λ (z : _ × _). Some z.1) f)

pub word_is : (line : List ℕ) (at v : ℕ) → word_at line at ≡ Some v → (digits_at line at 16 ≡ true) × (value_at line at 16 ≡ v)
unfolding word_at
word_is line at v = go (digits_at line at 16) (value_at line at 16)
  where
    go : (t : Bool) (x : ℕ) → cond t (Some x) None ≡ Some v → (t ≡ true) × (x ≡ v)
    go true x e = (refl, cc)
    go false x e = absurd (cc)

-- a field of 32 bytes is its two words' digits
pub field_exact : (line : List ℕ) (at : ℕ) (w : ℕ × ℕ) → field_at line at ≡ Some w → at + 32 ≤ length line
    → drop at line ≡ pair_text w.0 w.1 ++ drop (at + 32) line
unfolding field_at pair_text
field_exact line at w e h =
    let words = both_is (word_at line at) (word_at line (at + 16)) w e in
    let x = word_is line at w.0 words.0 in
    let y = word_is line (at + 16) w.1 words.1 in
    let far : at + 16 + 16 ≡ at + 32 = omega arith in
    digits_exact line at 16 x.0 (omega arith)
    ∙ ap (λ (v : ℕ). hex_of v ++ drop (at + 16) line) x.1
    ∙ ap (λ (t : List ℕ). hex_of w.0 ++ t)
    (digits_exact line (at + 16) 16 y.0 (omega arith)
    ∙ ap (λ (v : ℕ). hex_of v ++ drop (at + 16 + 16) line) y.1
    ∙ ap (λ (k : ℕ). hex_of w.1 ++ drop k line) far)
    ∙ sym (append_assoc (hex_of w.0) (hex_of w.1) (drop (at + 32) line))

-- the text of a key, and of a key and a value, behind a letter
unfoldable pub key_text : ℕ → Key → List ℕ
key_text letter key = letter ∷ 32 ∷ pair_text key.high key.low

unfoldable pub both_text : ℕ → Key → Value → List ℕ
both_text letter key v = letter ∷ 32 ∷ (pair_text key.high key.low ++ (32 ∷ pair_text v.first v.second))

byte : (line : List ℕ) (at b : ℕ) → at < length line → get_or line at 0 ≡ b → drop at line ≡ b ∷ drop (suc at) line
byte line at b h e = drop-cons line at 0 h ∙ ap (λ (x : ℕ). x ∷ drop (suc at) line) e

none_left : (line : List ℕ) (at : ℕ) → length line ≡ at → drop at line ≡ []
none_left line at e = ap (λ (k : ℕ). drop k line) (sym e) ∙ drop-length line

-- a space and the field behind it
spaced : (line : List ℕ) (at : ℕ) (w : ℕ × ℕ) → get_or line at 0 ≡ 32 → field_at line (suc at) ≡ Some w → at + 33 ≤ length line
    → drop at line ≡ (32 ∷ pair_text w.0 w.1) ++ drop (at + 33) line
spaced line at w s f h =
    let far : suc at + 32 ≡ at + 33 = omega arith in
    byte line at 32 (omega arith) s ∙ ap (λ (t : List ℕ). 32 ∷ t) (rw far at (field_exact line (suc at) w f (omega arith)))

-- the last one
spaced_last : (line : List ℕ) (at : ℕ) (w : ℕ × ℕ) → get_or line at 0 ≡ 32 → field_at line (suc at) ≡ Some w → length line ≡ at + 33
    → drop at line ≡ 32 ∷ pair_text w.0 w.1
spaced_last line at w s f n =
    let t : List ℕ = 32 ∷ pair_text w.0 w.1 in
    spaced line at w s f (omega arith) ∙ ap (λ (l : List ℕ). t ++ l) (none_left line (at + 33) n) ∙ append-nil t

one_text_lem : (line : List ℕ) (letter : ℕ) (w : ℕ × ℕ) → length line ≡ 34 → get_or line 0 0 ≡ letter → get_or line 1 0 ≡ 32 → field_at line 2 ≡ Some w
    → line ≡ key_text letter (key_from w)
unfolding key_text
one_text_lem line letter w n e s f = byte line 0 letter (omega arith) e ∙ ap (λ (t : List ℕ). letter ∷ t) (spaced_last line 1 w s f n)

two_text : (line : List ℕ) (letter : ℕ) (w : (ℕ × ℕ) × (ℕ × ℕ)) → length line ≡ 67 → get_or line 0 0 ≡ letter → get_or line 1 0 ≡ 32 → get_or line 34 0 ≡ 32
    → field_at line 2 ≡ Some w.0 → field_at line 35 ≡ Some w.1
    → line ≡ both_text letter (key_from w.0) (value_from w.1)
unfolding both_text
two_text line letter w n e s s' f g =
    byte line 0 letter (omega arith) e
    ∙ ap (λ (t : List ℕ). letter ∷ t)
    (spaced line 1 w.0 s f (omega arith)
    ∙ ap (λ (t : List ℕ). (32 ∷ pair_text w.0.0 w.0.1) ++ t) (spaced_last line 34 w.1 s' g n))

-- ---- lines

-- the text that asks for a command; nothing asks for `Bad`
unfoldable pub line_text : Command → List ℕ
line_text (command.Insert key v) = both_text 105 key v
line_text (command.Remove key) = key_text 114 key
line_text (command.Get key) = key_text 103 key
line_text (command.Write key v) = both_text 119 key v
line_text command.Smallest = 110 ∷ []
line_text command.Largest = 120 ∷ []
line_text command.All = 97 ∷ []
line_text command.Bad = []

-- a line is the text of what it asks, unless it is bad
unfoldable pub Spells : List ℕ → Command → Type 0
Spells line (command.Insert key v) = line ≡ line_text (command.Insert key v)
Spells line (command.Remove key) = line ≡ line_text (command.Remove key)
Spells line (command.Get key) = line ≡ line_text (command.Get key)
Spells line (command.Write key v) = line ≡ line_text (command.Write key v)
Spells line command.Smallest = line ≡ line_text command.Smallest
Spells line command.Largest = line ≡ line_text command.Largest
Spells line command.All = line ≡ line_text command.All
Spells line command.Bad = Unit

-- a property of what a test chooses
pub pick : {A : Type 0} (P : A → Type 0) (b : Bool) (x y : A) → (b ≡ true → P x) → P y → P (cond b x y)
pick P true x y f g = f refl
pick P false x y f g = g

-- a property of what is made of an answer
pub mapped : {A B : Type 0} (P : Option B → Type 0) (make : A → B) (x : Option A) → ((a : A) → x ≡ Some a → P (Some (make a))) → P None → P (option_map make x)
mapped P make None f g = g
mapped P make (Some a) f g = f a refl

-- the fields, and a property of what is made of them
pub one_cases : (P : Option Key → Type 0) (line : List ℕ)
    → ((w : ℕ × ℕ) → length line ≡ 34 → get_or line 1 0 ≡ 32 → field_at line 2 ≡ Some w → P (Some (key_from w)))
    → P None → P (one_field line)
unfolding one_field
one_cases P line f g =
    pick P (eqb (length line) 34) _ _
    (λ e. pick P (eqb (get_or line 1 0) 32) _ _ (λ t. mapped P key_from (field_at line 2) (λ w. f w (eqb-true _ 34 e) (eqb-true _ 32 t)) g) g) g

pub two_cases : (P : Option (Key × Value) → Type 0) (line : List ℕ)
    → ((w : (ℕ × ℕ) × (ℕ × ℕ)) → length line ≡ 67 → get_or line 1 0 ≡ 32 → get_or line 34 0 ≡ 32 → field_at line 2 ≡ Some w.0 → field_at line 35 ≡ Some w.1
    → P (Some (both_from w)))
    → P None → P (two_fields line)
unfolding two_fields
two_cases P line f g =
    pick P (eqb (length line) 67) _ _
    (λ e.
    pick P (eqb (get_or line 1 0) 32 && eqb (get_or line 34 0) 32) _ _
    (λ t.
    mapped P both_from (both (field_at line 2) (field_at line 35))
    (λ w h.
    let fields = both_is (field_at line 2) (field_at line 35) w h in
    f w (eqb-true _ 67 e) (eqb-true _ 32 (search (and_l, and_r))) (eqb-true _ 32 (search (and_l, and_r))) fields.0 fields.1) g) g) g

module _ (line : List ℕ) where
  alone_case : (letter : ℕ) (c : Command) → get_or line 0 0 ≡ letter → (line ≡ letter ∷ [] → Spells line c) → Spells line (alone_asked line c)
  unfolding alone_asked Spells
  alone_case letter c e f =
      pick (Spells line) (eqb (length line) 1) c command.Bad
      (λ n.
      let n' : length line ≡ 1 = eqb-true (length line) 1 n in
      f (byte line 0 letter (omega arith) e ∙ ap (λ (t : List ℕ). letter ∷ t) (none_left line 1 n')))
      tt

  key_case : (letter : ℕ) (ask : Key → Command) → get_or line 0 0 ≡ letter → ((key : Key) → line ≡ key_text letter key → Spells line (ask key))
      → Spells line (key_asked ask (one_field line))
  unfolding key_asked Spells
  key_case letter ask e f = one_cases (λ x. Spells line (key_asked ask x)) line (λ w n s h. f _ (one_text_lem line letter w n e s h)) tt

  both_case : (letter : ℕ) (ask : Key → Value → Command) → get_or line 0 0 ≡ letter → ((key : Key) (v : Value) → line ≡ both_text letter key v → Spells line (ask key v))
      → Spells line (both_asked ask (two_fields line))
  unfolding both_asked Spells
  both_case letter ask e f = two_cases (λ x. Spells line (both_asked ask x)) line (λ w n s s' h h'. f _ _ (two_text line letter w n e s s' h h')) tt

  -- every line is the text of what it asks, or bad
  pub spelled : Spells line (command_of line)
  unfolding command_of letter_asked Spells line_text
  spelled =
      pick (Spells line) (eqb (length line) 0) _ _ (λ e. tt)
      (pick (Spells line) (eqb (get_or line 0 0) 105) _ _ (λ e. both_case 105 command.Insert (eqb-true _ 105 e) (λ key v t. t))
      (pick (Spells line) (eqb (get_or line 0 0) 114) _ _ (λ e. key_case 114 command.Remove (eqb-true _ 114 e) (λ key t. t))
      (pick (Spells line) (eqb (get_or line 0 0) 103) _ _ (λ e. key_case 103 command.Get (eqb-true _ 103 e) (λ key t. t))
      (pick (Spells line) (eqb (get_or line 0 0) 119) _ _ (λ e. both_case 119 command.Write (eqb-true _ 119 e) (λ key v t. t))
      (pick (Spells line) (eqb (get_or line 0 0) 110) _ _ (λ e. alone_case 110 command.Smallest (eqb-true _ 110 e) (λ t. t))
      (pick (Spells line) (eqb (get_or line 0 0) 120) _ _ (λ e. alone_case 120 command.Largest (eqb-true _ 120 e) (λ t. t))
      (pick (Spells line) (eqb (get_or line 0 0) 97) _ _ (λ e. alone_case 97 command.All (eqb-true _ 97 e) (λ t. t)) tt)))))))
