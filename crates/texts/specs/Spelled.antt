-- The other way round from Exact: the text of a command asks for that command. Keys and values are of 64-bit words.
use Rattle.std.specs.Prelude.{◌≡◌, refl, List, [], ◌∷◌, ◌++◌, Bool, true, false, ◌⊎◌, ℕ, zero, suc, ◌+◌, ◌*◌, ◌-◌, ◌/◌, ◌%◌, ◌^◌, ◌<◌, ◌≤◌, length, get_or, drop, ltb, eqb, Some}
use Rattle.std.proofs.Common.{sym, ap, ◌∙◌, append_assoc, append-nil, inl, inr, ⊎_elim, pow-suc, arith, length-append, get_or-drop, drop-drop, drop_at, ltb-true, ltb-false, lt-ltb, le-ltb, le-leb, eq-eqb, ne_eqb}
use Rattle.std.proofs.lemmas.List.{get_or_at}
use Rattle.std.proofs.lemmas.Bool.{lt-leb}
use Rattle.keys.specs.declared.Key.{Key}
use Rattle.records.specs.declared.Value.{Value}
use Rattle.texts.specs.declared.Command.{Command}
use Rattle.texts.specs.declared.Command.TheVariants as command
use Rattle.texts.specs.Digits.{glyph, digits, digits_length, hex_of, is_digit, digit_of, digits_at, value_at}
use Rattle.texts.specs.Lines.{both, word_at, field_at, one_field, two_fields, key_asked, both_asked, alone_asked, letter_asked, command_of}
use Rattle.texts.specs.Texts.{pair_text}
use Rattle.texts.specs.Exact.{key_text, both_text, line_text}

-- ---- digits

below : (a b : ℕ) → (a < b) ⊎ (b ≤ a)
below a b = go (ltb a b) refl
  where
    go : (x : Bool) → ltb a b ≡ x → (a < b) ⊎ (b ≤ a)
    go true e = inl (ltb-true a b e)
    go false e = inr (ltb-false a b e)

-- the byte of a digit is a hex digit, and stands for it
pub glyph_digit : (d : ℕ) → d < 16 → (is_digit (glyph d) ≡ true) × (digit_of (glyph d) ≡ d)
unfolding is_digit digit_of glyph
glyph_digit d h = ⊎_elim low high (below d 10)
  where
    low : d < 10 → (is_digit (glyph d) ≡ true) × (digit_of (glyph d) ≡ d)
    low l =
        let a : 48 ≤ 48 + d = omega arith in
        let b : 48 + d ≤ 57 = omega arith in
        let c : 48 + d < 97 = omega arith in
        let e : 48 + d - 48 ≡ d = omega arith in
        (simp (lt-ltb d 10 l, le-leb 48 (48 + d) a, le-leb (48 + d) 57 b), simp (lt-ltb d 10 l, lt-leb 97 (48 + d) c, le-leb 48 (48 + d) a, le-leb (48 + d) 57 b) e)

    high : 10 ≤ d → (is_digit (glyph d) ≡ true) × (digit_of (glyph d) ≡ d)
    high l =
        let a : 97 ≤ 87 + d = omega arith in
        let b : 87 + d ≤ 102 = omega arith in
        let c : 57 < 87 + d = omega arith in
        let f : 48 ≤ 87 + d = omega arith in
        let e : 87 + d - 87 ≡ d = omega arith in
        (simp (le-ltb d 10 l, le-leb 48 (87 + d) f, lt-leb (87 + d) 57 c, le-leb 97 (87 + d) a, le-leb (87 + d) 102 b), simp (le-ltb d 10 l, le-leb 97 (87 + d) a, le-leb (87 + d) 102 b) e)

-- a number's digits are read back
pub digits_spelled : (line : List ℕ) (at k n : ℕ) (t : List ℕ) → drop at line ≡ digits 16 k n ++ t → n < 16 ^ k
    → (digits_at line at k ≡ true) × (value_at line at k ≡ n)
unfolding digits_at value_at digits
digits_spelled line at zero n t e h = (refl, omega arith)
digits_spelled line at (suc k) n t e h =
    let f : drop at line ≡ digits 16 k (n / 16) ++ (glyph (n % 16) ∷ t) = e ∙ append_assoc (digits 16 k (n / 16)) (glyph (n % 16) ∷ []) t in
    let less : n / 16 < 16 ^ k = omega (arith, pow-suc 16 k) in
    let rest = digits_spelled line at k (n / 16) (glyph (n % 16) ∷ t) f less in
    let here : get_or line (at + k) 0 ≡ glyph (n % 16) =
    sym (get_or-drop at line k 0) ∙ ap (λ (l : List ℕ). get_or l k 0) f ∙ get_or_at (digits 16 k (n / 16)) (glyph (n % 16)) t 0 k (digits_length 16 k (n / 16)) in
    let d = glyph_digit (n % 16) (omega arith) in
    let whole : 16 * (n / 16) + n % 16 ≡ n = omega arith in
    (rw (rest.0, here) d.0, rw (rest.1, here, d.1) whole)

-- ---- fields

field_spelled : (line : List ℕ) (at a b : ℕ) (t : List ℕ) → drop at line ≡ pair_text a b ++ t → a < 2 ^ 64 → b < 2 ^ 64 → field_at line at ≡ Some (a, b)
unfolding field_at word_at both pair_text
field_spelled line at a b t e ha hb =
    let f : drop at line ≡ hex_of a ++ (hex_of b ++ t) = e ∙ append_assoc (hex_of a) (hex_of b) t in
    let g : drop (at + 16) line ≡ hex_of b ++ t =
    sym (drop-drop 16 at line) ∙ ap (λ (l : List ℕ). drop 16 l) f ∙ drop_at (hex_of a) (hex_of b ++ t) 16 (digits_length 16 16 a) in
    let x = digits_spelled line at 16 a (hex_of b ++ t) f ha in
    let y = digits_spelled line (at + 16) 16 b t g hb in
    rw (x.0, y.0, x.1, y.1) refl

pair_length : (a b : ℕ) → length (pair_text a b) ≡ 32
unfolding pair_text
pair_length a b = omega (arith, length-append (hex_of a) (hex_of b), digits_length 16 16 a, digits_length 16 16 b)

-- a key and a value are of 64-bit words
abbrev pub KeyFits : Key → Type 0
KeyFits key = (key.high < 2 ^ 64) × (key.low < 2 ^ 64)

abbrev pub ValueFits : Value → Type 0
ValueFits v = (v.first < 2 ^ 64) × (v.second < 2 ^ 64)

one_spelled : (letter : ℕ) (key : Key) → KeyFits key → one_field (key_text letter key) ≡ Some key
unfolding one_field both key_text
one_spelled letter key h =
    let p = pair_text key.high key.low in
    let n : length (letter ∷ 32 ∷ p) ≡ 34 = omega (arith, pair_length key.high key.low) in
    let f = field_spelled (letter ∷ 32 ∷ p) 2 key.high key.low [] (sym (append-nil p)) h.0 h.1 in
    simp (eq-eqb (length (letter ∷ 32 ∷ p)) 34 n, f)

two_spelled : (letter : ℕ) (key : Key) (v : Value) → KeyFits key → ValueFits v → two_fields (both_text letter key v) ≡ Some (key, v)
unfolding two_fields both both_text
two_spelled letter key v h i =
    let p = pair_text key.high key.low in
    let q = pair_text v.first v.second in
    let l = letter ∷ 32 ∷ (p ++ (32 ∷ q)) in
    let n : length l ≡ 67 = omega (arith, length-append p (32 ∷ q), pair_length key.high key.low, pair_length v.first v.second) in
    let f = field_spelled l 2 key.high key.low (32 ∷ q) refl h.0 h.1 in
    let at34 : drop 34 l ≡ 32 ∷ q = sym (drop-drop 32 2 l) ∙ drop_at p (32 ∷ q) 32 (pair_length key.high key.low) in
    let s : get_or l 34 0 ≡ 32 = sym (get_or-drop 34 l 0 0) ∙ ap (λ (t : List ℕ). get_or t 0 0) at34 in
    let at35 : drop 35 l ≡ q ++ [] = sym (drop-drop 1 34 l) ∙ ap (λ (t : List ℕ). drop 1 t) at34 ∙ sym (append-nil q) in
    let g = field_spelled l 35 v.first v.second [] at35 i.0 i.1 in
    simp (eq-eqb (length l) 67 n, eq-eqb (get_or l 34 0) 32 s, f, g)

-- ---- lines

unfoldable pub Fits : Command → Type 0
Fits (command.Insert key v) = KeyFits key × ValueFits v
Fits (command.Remove key) = KeyFits key
Fits (command.Get key) = KeyFits key
Fits (command.Write key v) = KeyFits key × ValueFits v
Fits command.Smallest = Unit
Fits command.Largest = Unit
Fits command.All = Unit
Fits command.Bad = Unit

begun : (letter : ℕ) (t : List ℕ) → eqb (length (letter ∷ t)) 0 ≡ false
begun letter t = ne_eqb (length (letter ∷ t)) 0 (λ e. omega arith)

-- the text of a command asks for it
pub asks : (c : Command) → Fits c → command_of (line_text c) ≡ c
unfolding command_of letter_asked line_text Fits key_text both_text key_asked both_asked alone_asked
asks (command.Insert key v) h =
    simp (begun 105 (32 ∷ (pair_text key.high key.low ++ (32 ∷ pair_text v.first v.second))), two_spelled 105 key v h.0 h.1)
asks (command.Remove key) h = simp (begun 114 (32 ∷ pair_text key.high key.low), one_spelled 114 key h)
asks (command.Get key) h = simp (begun 103 (32 ∷ pair_text key.high key.low), one_spelled 103 key h)
asks (command.Write key v) h =
    simp (begun 119 (32 ∷ (pair_text key.high key.low ++ (32 ∷ pair_text v.first v.second))), two_spelled 119 key v h.0 h.1)
asks command.Smallest h = refl
asks command.Largest h = refl
asks command.All h = refl
asks command.Bad h = refl
