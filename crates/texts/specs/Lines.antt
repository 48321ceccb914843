-- What a line asks: the rules C, "The first byte of a line picks the command; one space parts the fields; keys and values are 32 lowercase hex digits, high or first word first". Anything else on a line
-- is bad: other letters, other bytes, other lengths, so also an empty line and one of more than 80 bytes.
use Rattle.std.specs.Prelude.{List, cond, ◌&&◌, ℕ, ◌+◌, length, get_or, eqb, Option, Some, None, option_map}
use Rattle.keys.specs.declared.Key.{Key}
use Rattle.records.specs.declared.Value.{Value}
use Rattle.texts.specs.declared.Command.{Command}
use Rattle.texts.specs.declared.Command.TheVariants as command
use Rattle.texts.specs.Digits.{digits_at, value_at}

-- ---- fields

-- two answers, where both are there
unfoldable pub both : {A B : Type 0} → Option A → Option B → Option (A × B)
both None y = None
both (Some a) None = None
both (Some a) (Some b) = Some (a, b)

-- sixteen hex digits: their number
unfoldable pub word_at : List ℕ → ℕ → Option ℕ
word_at line at = cond (digits_at line at 16) (Some (value_at line at 16)) None

-- thirty-two: two numbers, high or first word first
unfoldable pub field_at : List ℕ → ℕ → Option (ℕ × ℕ)
field_at line at = both (word_at line at) (word_at line (at + 16))

abbrev pub key_from : ℕ × ℕ → Key
key_from f = record { high = f.0; low = f.1 }

abbrev pub value_from : ℕ × ℕ → Value
value_from f = record { first = f.0; second = f.1 }

abbrev pub both_from : (ℕ × ℕ) × (ℕ × ℕ) → Key × Value
both_from f = (key_from f.0, value_from f.1)

-- a letter, a space (32), a key: 34 bytes
unfoldable pub one_field : List ℕ → Option Key
one_field line =
    cond (eqb (length line) 34)
    (cond (eqb (get_or line 1 0) 32) (option_map key_from (field_at line 2)) None)
    None

-- a letter, a space, a key, a space, a value: 67 bytes
unfoldable pub two_fields : List ℕ → Option (Key × Value)
two_fields line =
    cond (eqb (length line) 67)
    (cond (eqb (get_or line 1 0) 32 && eqb (get_or line 34 0) 32) (option_map both_from (both (field_at line 2) (field_at line 35))) None)
    None

-- ---- commands

-- a command with a key, and one with a key and a value; where they do not stand on the line, it is bad
unfoldable pub key_asked : (Key → Command) → Option Key → Command
key_asked ask (Some key) = ask key
key_asked ask None = command.Bad

unfoldable pub both_asked : (Key → Value → Command) → Option (Key × Value) → Command
both_asked ask (Some (key, v)) = ask key v
both_asked ask None = command.Bad

-- a letter alone: one byte
unfoldable pub alone_asked : List ℕ → Command → Command
alone_asked line c = cond (eqb (length line) 1) c command.Bad

-- the letters i, r, g, w, n, x, a
unfoldable pub letter_asked : ℕ → List ℕ → Command
letter_asked letter line =
    cond (eqb letter 105) (both_asked command.Insert (two_fields line))
    (cond (eqb letter 114) (key_asked command.Remove (one_field line))
    (cond (eqb letter 103) (key_asked command.Get (one_field line))
    (cond (eqb letter 119) (both_asked command.Write (two_fields line))
    (cond (eqb letter 110) (alone_asked line command.Smallest)
    (cond (eqb letter 120) (alone_asked line command.Largest) (cond (eqb letter 97) (alone_asked line command.All) command.Bad))))))

unfoldable pub command_of : List ℕ → Command
command_of line = cond (eqb (length line) 0) command.Bad (letter_asked (get_or line 0 0) line)
