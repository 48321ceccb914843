-- The command program over the list: what each command answers, as bytes, and what it leaves, where the map is one ascending list of keys and values. It is what the program is proved to be (Program), so
-- it is the page by which a reviewer judges it. Nothing in it speaks of a tree, a record or a word of an image. M, here m, is the number of entries that the list can hold.
--
-- Named from crate `texts`: what a line asks (`command_of`), and the words of an answer. Named from crate `lists`: `find`, `held` and `list_end` on the ascending list, and `list_next`, what a call leaves of
-- it. A list has no node index: the one that `ok INDEX` names comes beside the command, and has its own law (`index_of`, Lines).
use Rattle.std.specs.Prelude.{◌≡◌, refl, List, [], ◌∷◌, ◌++◌, map, true, false, cond, ℕ, length, replicate, eqb}
use Rattle.std.proofs.Math.Option.{Option, none, some}
use Rattle.keys.specs.declared.Key.{Key}
use Rattle.keys.specs.Number.{number_of}
use Rattle.records.specs.declared.Value.{Value}
use Rattle.texts.specs.declared.Command.{Command}
use Rattle.texts.specs.declared.Command.TheVariants as command
use Rattle.texts.specs.Digits.{glyph, digits, width_of, decimal_of, is_digit, digit_of, digits_at, value_at}
use Rattle.texts.specs.Lines.{both, word_at, field_at, one_field, two_fields, key_asked, both_asked, alone_asked, letter_asked, command_of}
use Rattle.texts.specs.Texts.{newline, bad_text, full_text, none_text, set_text, pair_text, value_text, entry_text, end_text}
use Rattle.lists.specs.Entries.{find, held, list_end}
use Rattle.lists.specs.Machine.{insert, remove, write, Entries, full, list_next}

-- ---- one command

-- `ok INDEX`
abbrev pub ok_text : ℕ → List ℕ
ok_text i = (111 ∷ 107 ∷ 32 ∷ []) ++ decimal_of i ++ newline

-- a word and the value, or `none`
abbrev pub found_text : List ℕ → Option Value → List ℕ
found_text word none = none_text
found_text word (some v) = word ++ value_text v

abbrev pub gone_word : List ℕ
gone_word = 103 ∷ 111 ∷ 110 ∷ 101 ∷ 32 ∷ []

abbrev pub val_word : List ℕ
val_word = 118 ∷ 97 ∷ 108 ∷ 32 ∷ []

-- `K V`, or `none`
abbrev pub end_entry_text : Option (Key × Value) → List ℕ
end_entry_text none = none_text
end_entry_text (some e) = entry_text e.0 e.1

-- one `K V` a line
abbrev pub entries_text : Entries → List ℕ
entries_text [] = []
entries_text (e ∷ es) = entry_text e.0 e.1 ++ entries_text es

-- what a command is answered; i is the index of the key's node, which an insert names
abbrev pub told_text : ℕ → Entries → Command → ℕ → List ℕ
told_text m es (command.Insert key v) i = cond (full m es) full_text (ok_text i)
told_text m es (command.Remove key) i = found_text gone_word (find key es)
told_text m es (command.Get key) i = found_text val_word (find key es)
told_text m es (command.Write key v) i = cond (held key es) set_text none_text
told_text m es command.Smallest i = end_entry_text (list_end false es)
told_text m es command.Largest i = end_entry_text (list_end true es)
told_text m es command.All i = entries_text es ++ end_text (length es)
told_text m es command.Bad i = bad_text

-- what it leaves
abbrev pub told_next : ℕ → Entries → Command → Entries
told_next m es (command.Insert key v) = list_next m (insert key v) es
told_next m es (command.Remove key) = list_next m (remove key) es
told_next m es (command.Get key) = es
told_next m es (command.Write key v) = list_next m (write key v) es
told_next m es command.Smallest = es
told_next m es command.Largest = es
told_next m es command.All = es
told_next m es command.Bad = es

-- ---- commands one after the other, each with its index

abbrev pub told_all : ℕ → Entries → List (Command × ℕ) → List ℕ
told_all m es [] = []
told_all m es (c ∷ cs) = told_text m es c.0 c.1 ++ told_all m (told_next m es c.0) cs

abbrev pub told_then : ℕ → Entries → List Command → Entries
told_then m es [] = es
told_then m es (c ∷ cs) = told_then m (told_next m es c) cs

-- ---- the lines of an input

-- a last line without LF counts if it has a byte
abbrev pub last_line : List ℕ → List (List ℕ)
last_line [] = []
last_line (b ∷ line) = (b ∷ line) ∷ []

-- LF (10) ends a line; `line` has the bytes of the one that has begun
abbrev pub lines_of : List ℕ → List ℕ → List (List ℕ)
lines_of line [] = last_line line
lines_of line (b ∷ bytes) = cond (eqb b 10) (line ∷ lines_of [] bytes) (lines_of (line ++ (b ∷ [])) bytes)

abbrev pub commands_in : List ℕ → List Command
commands_in input = map command_of (lines_of [] input)

-- ---- examples: the five lines of the rules' whole case, the last one without its LF, with the indexes that the map gives

abbrev case : List ℕ
case =
    ((105 ∷ 32 ∷ 56 ∷ []) ++ replicate 31 48 ++ (32 ∷ []) ++ replicate 31 48 ++ (49 ∷ 10 ∷ []))
    ++ ((105 ∷ 32 ∷ []) ++ replicate 32 48 ++ (32 ∷ []) ++ replicate 31 48 ++ (50 ∷ 10 ∷ []))
    ++ ((105 ∷ 32 ∷ []) ++ replicate 31 48 ++ (49 ∷ 32 ∷ []) ++ replicate 31 48 ++ (51 ∷ 10 ∷ []))
    ++ ((114 ∷ 32 ∷ 56 ∷ []) ++ replicate 31 48 ++ (10 ∷ []))
    ++ (97 ∷ [])

abbrev with_indexes : List ℕ → List Command → List (Command × ℕ)
with_indexes [] cs = []
with_indexes (i ∷ is) [] = []
with_indexes (i ∷ is) (c ∷ cs) = (c, i) ∷ with_indexes is cs

pub told_case :
    told_all 256 [] (with_indexes (1 ∷ 2 ∷ 4 ∷ 0 ∷ 0 ∷ []) (commands_in case))
    ≡ (111 ∷ 107 ∷ 32 ∷ 49 ∷ 10 ∷ [])
    ++ (111 ∷ 107 ∷ 32 ∷ 50 ∷ 10 ∷ [])
    ++ (111 ∷ 107 ∷ 32 ∷ 52 ∷ 10 ∷ [])
    ++ ((103 ∷ 111 ∷ 110 ∷ 101 ∷ 32 ∷ []) ++ replicate 31 48 ++ (49 ∷ 10 ∷ []))
    ++ (replicate 32 48 ++ (32 ∷ []) ++ replicate 31 48 ++ (50 ∷ 10 ∷ []))
    ++ (replicate 31 48 ++ (49 ∷ 32 ∷ []) ++ replicate 31 48 ++ (51 ∷ 10 ∷ []))
    ++ (101 ∷ 110 ∷ 100 ∷ 32 ∷ 50 ∷ 10 ∷ [])
unfolding
    number_of glyph digits width_of decimal_of is_digit digit_of digits_at value_at both word_at field_at one_field two_fields key_asked both_asked alone_asked letter_asked command_of
    pair_text value_text entry_text end_text
told_case = refl
