-- The words of an answer: the rules' `full`, `none`, `set` and `bad`, keys and values as 32 hexadecimal digits, `end COUNT`. Every line ends in LF (10). A refusal that the program's own map never gives (1, 2, 5, 6)
-- is written `bad`.
use Rattle.std.specs.Prelude.{List, [], ◌∷◌, ◌++◌, cond, ℕ, eqb}
use Rattle.keys.specs.declared.Key.{Key}
use Rattle.records.specs.declared.Value.{Value}
use Rattle.records.specs.declared.Refusal.{Refusal}
use Rattle.records.specs.Numbers.{refusal_number}
use Rattle.texts.specs.Digits.{hex_of, decimal_of}

abbrev pub newline : List ℕ
newline = 10 ∷ []

-- `bad`, `full`, `none`, `set`
abbrev pub bad_text : List ℕ
bad_text = 98 ∷ 97 ∷ 100 ∷ 10 ∷ []

abbrev pub full_text : List ℕ
full_text = (102 ∷ 117 ∷ 108 ∷ 108 ∷ []) ++ newline

abbrev pub none_text : List ℕ
none_text = (110 ∷ 111 ∷ 110 ∷ 101 ∷ []) ++ newline

abbrev pub set_text : List ℕ
set_text = 115 ∷ 101 ∷ 116 ∷ 10 ∷ []

-- a key or a value: 32 hex digits, high or first word first
unfoldable pub pair_text : ℕ → ℕ → List ℕ
pair_text a b = hex_of a ++ hex_of b

-- `V`, with which a line ends
unfoldable pub value_text : Value → List ℕ
value_text v = pair_text v.first v.second ++ newline

-- `K V`
unfoldable pub entry_text : Key → Value → List ℕ
entry_text key v = pair_text key.high key.low ++ (32 ∷ []) ++ value_text v

-- `end COUNT`
unfoldable pub end_text : ℕ → List ℕ
end_text k = (101 ∷ 110 ∷ 100 ∷ 32 ∷ []) ++ decimal_of k ++ newline

-- refusals 3 and 4, and any other
unfoldable pub refusal_text : Refusal → List ℕ
refusal_text r = cond (eqb (refusal_number r) 3) full_text (cond (eqb (refusal_number r) 4) none_text bad_text)
