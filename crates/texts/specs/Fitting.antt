-- What a line asks with fits the words that it goes into: sixteen hex digits are a number below 2^64. So the keys and values of a command are such as every call takes.
use Rattle.std.specs.Prelude.{◌≡◌, List, ℕ, ◌+◌, ◌^◌, ◌<◌, length, get_or, eqb, Option, Some}
use Rattle.std.proofs.Common.{subst}
use Rattle.keys.specs.declared.Key.{Key}
use Rattle.keys.specs.Number.{Fits}
use Rattle.records.specs.declared.Value.{Value}
use Rattle.texts.specs.declared.Command.{Command}
use Rattle.texts.specs.declared.Command.TheVariants as command
use Rattle.texts.specs.Digits.{value_at, value_below}
use Rattle.texts.specs.Lines.{word_at, field_at, key_from, value_from, one_field, two_fields, key_asked, both_asked, alone_asked, letter_asked, command_of}
use Rattle.texts.specs.Exact.{both_is, word_is, pick, one_cases, two_cases}

-- the two words of a value
abbrev pub FitsWords : Value → Type 0
FitsWords v = (v.first < 2 ^ 64) × (v.second < 2 ^ 64)

abbrev pub FitsCommand : Command → Type 0
FitsCommand (command.Insert key v) = Fits key × FitsWords v
FitsCommand (command.Remove key) = Fits key
FitsCommand (command.Get key) = Fits key
FitsCommand (command.Write key v) = Fits key × FitsWords v
FitsCommand command.Smallest = Unit {0}
FitsCommand command.Largest = Unit {0}
FitsCommand command.All = Unit {0}
FitsCommand command.Bad = Unit {0}

-- sixteen bytes, whatever they are, and thirty-two
word_fits : (line : List ℕ) (at : ℕ) → value_at line at 16 < 2 ^ 64
word_fits line at = value_below line at 16

key_fits : (line : List ℕ) (at : ℕ) → Fits (key_from (value_at line at 16, value_at line (at + 16) 16))
key_fits line at = record { high_fits = word_fits line at; low_fits = word_fits line (at + 16) }

value_fits : (line : List ℕ) (at : ℕ) → FitsWords (value_from (value_at line at 16, value_at line (at + 16) 16))
value_fits line at = (word_fits line at, word_fits line (at + 16))

-- so of what is read as hex digits
digits_fit : (line : List ℕ) (at v : ℕ) → word_at line at ≡ Some v → v < 2 ^ 64
digits_fit line at v e = subst (λ (n : ℕ). n < 2 ^ 64) (word_is line at v e).1 (word_fits line at)

field_fits : (line : List ℕ) (at : ℕ) (w : ℕ × ℕ) → field_at line at ≡ Some w → (w.0 < 2 ^ 64) × (w.1 < 2 ^ 64)
unfolding field_at
field_fits line at w e =
    let words = both_is (word_at line at) (word_at line (at + 16)) w e in
    (digits_fit line at w.0 words.0, digits_fit line (at + 16) w.1 words.1)

key_held : (line : List ℕ) (at : ℕ) (w : ℕ × ℕ) → field_at line at ≡ Some w → Fits (key_from w)
key_held line at w e = let f = field_fits line at w e in record { high_fits = f.0; low_fits = f.1 }

module _ (line : List ℕ) where
  key_case : (ask : Key → Command) → ((key : Key) → Fits key → FitsCommand (ask key)) → FitsCommand (key_asked ask (one_field line))
  unfolding key_asked
  key_case ask f = one_cases (λ (x : Option Key). FitsCommand (key_asked ask x)) line (λ w n s h. f _ (key_held line 2 w h)) tt

  both_case : (ask : Key → Value → Command) → ((key : Key) (v : Value) → Fits key → FitsWords v → FitsCommand (ask key v)) → FitsCommand (both_asked ask (two_fields line))
  unfolding both_asked
  both_case ask f = two_cases (λ (x : Option (Key × Value)). FitsCommand (both_asked ask x)) line (λ w n s s' h h'. f _ _ (key_held line 2 w.0 h) (field_fits line 35 w.1 h')) tt

  alone_case : (c : Command) → FitsCommand c → FitsCommand (alone_asked line c)
  unfolding alone_asked
  alone_case c f = pick FitsCommand (eqb (length line) 1) c command.Bad (λ n. f) tt

  -- whatever the line is
  pub asked_fits : FitsCommand (command_of line)
  unfolding command_of letter_asked
  asked_fits =
      pick FitsCommand (eqb (length line) 0) _ _ (λ e. tt)
      (pick FitsCommand (eqb (get_or line 0 0) 105) _ _ (λ e. both_case command.Insert (λ key v f g. (f, g)))
      (pick FitsCommand (eqb (get_or line 0 0) 114) _ _ (λ e. key_case command.Remove (λ key f. f))
      (pick FitsCommand (eqb (get_or line 0 0) 103) _ _ (λ e. key_case command.Get (λ key f. f))
      (pick FitsCommand (eqb (get_or line 0 0) 119) _ _ (λ e. both_case command.Write (λ key v f g. (f, g)))
      (pick FitsCommand (eqb (get_or line 0 0) 110) _ _ (λ e. alone_case command.Smallest tt)
      (pick FitsCommand (eqb (get_or line 0 0) 120) _ _ (λ e. alone_case command.Largest tt)
      (pick FitsCommand (eqb (get_or line 0 0) 97) _ _ (λ e. alone_case command.All tt) tt)))))))
