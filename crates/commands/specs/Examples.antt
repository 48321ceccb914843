-- Lines and answers, and what is kept of a line that has begun, computed.
use Rattle.std.specs.Prelude.{◌≡◌, refl, List, [], ◌∷◌, ◌++◌, true, false, ℕ, ◌^◌, replicate, Some, None, Err, Ok}
use Rattle.records.specs.Numbers.{refusal_number}
use Rattle.records.specs.declared.Refusal.TheVariants as no
use Rattle.texts.specs.declared.Command.TheVariants as command
use Rattle.texts.specs.Digits.{glyph, digits, width_of, decimal_of, is_digit, digit_of, digits_at, value_at}
use Rattle.texts.specs.Lines.{both, word_at, field_at, one_field, two_fields, key_asked, both_asked, alone_asked, letter_asked, command_of}
use Rattle.texts.specs.Texts.{pair_text, value_text, entry_text, end_text, refusal_text}
use Rattle.commands.specs.Answers.{place_text, gone_text, val_text, done_text}
use Rattle.commands.specs.Pieces.{kept_of, kept_buffer}

-- thirty-one digits `0`, and a byte behind them
abbrev zeros31 : ℕ → List ℕ
zeros31 b = replicate 31 48 ++ (b ∷ [])

pub worked_lines :
    -- `g` and the key 15
    (command_of (103 ∷ 32 ∷ zeros31 102) ≡ command.Get (record { high = 0; low = 15 }))
    -- the same with `F`, with `g`, with a tab for the space, without the space, with a CR behind
    × (command_of (103 ∷ 32 ∷ zeros31 70) ≡ command.Bad)
    × (command_of (103 ∷ 32 ∷ zeros31 103) ≡ command.Bad)
    × (command_of (103 ∷ 9 ∷ zeros31 102) ≡ command.Bad)
    × (command_of (103 ∷ zeros31 102) ≡ command.Bad)
    × (command_of ((103 ∷ 32 ∷ zeros31 102) ++ (13 ∷ [])) ≡ command.Bad)
    -- `i`, the key 2 ^ 127 and the value 1
    × (command_of ((105 ∷ 32 ∷ 56 ∷ replicate 31 48) ++ (32 ∷ zeros31 49)) ≡ command.Insert (record { high = 2 ^ 63; low = 0 }) (record { first = 0; second = 1 }))
    -- a letter alone, with a space behind, in upper case; no letter at all
    × (command_of (97 ∷ []) ≡ command.All)
    × (command_of (97 ∷ 32 ∷ []) ≡ command.Bad)
    × (command_of (65 ∷ []) ≡ command.Bad)
    × (command_of [] ≡ command.Bad)
unfolding command_of letter_asked key_asked both_asked alone_asked one_field two_fields both field_at word_at digits_at value_at is_digit digit_of
worked_lines = (refl, refl, refl, refl, refl, refl, refl, refl, refl, refl, refl)

pub worked_answers :
    -- `ok 4`
    (place_text (Ok (record { 0 = 4 })) ≡ 111 ∷ 107 ∷ 32 ∷ 52 ∷ 10 ∷ [])
    -- `ok 512`
    × (place_text (Ok (record { 0 = 512 })) ≡ 111 ∷ 107 ∷ 32 ∷ 53 ∷ 49 ∷ 50 ∷ 10 ∷ [])
    -- `full`, `none`, and what the program's own map never gives
    × (place_text (Err no.Full) ≡ 102 ∷ 117 ∷ 108 ∷ 108 ∷ 10 ∷ [])
    × (val_text (Err no.Absent) ≡ 110 ∷ 111 ∷ 110 ∷ 101 ∷ 10 ∷ [])
    × (gone_text (Err no.Damaged) ≡ 98 ∷ 97 ∷ 100 ∷ 10 ∷ [])
    × (done_text (Ok tt) ≡ 115 ∷ 101 ∷ 116 ∷ 10 ∷ [])
    -- `gone` and the value 1
    × (gone_text (Ok (record { first = 0; second = 1 })) ≡ (103 ∷ 111 ∷ 110 ∷ 101 ∷ 32 ∷ []) ++ zeros31 49 ++ (10 ∷ []))
    -- `0 F` as a line of a listing, and its end
    × (entry_text (record { high = 0; low = 0 }) (record { first = 0; second = 15 }) ≡ zeros31 48 ++ (32 ∷ []) ++ zeros31 102 ++ (10 ∷ []))
    × (end_text 2 ≡ 101 ∷ 110 ∷ 100 ∷ 32 ∷ 50 ∷ 10 ∷ [])
unfolding place_text val_text gone_text done_text refusal_text refusal_number pair_text value_text entry_text end_text decimal_of width_of digits glyph
worked_answers = (refl, refl, refl, refl, refl, refl, refl, refl, refl)

pub worked_kept :
    -- the two bytes from place 3 on go to the front, and those behind them stay
    (kept_of false 3 5 ≡ Some 2)
    × (kept_buffer false 3 5 (1 ∷ 2 ∷ 3 ∷ 4 ∷ 5 ∷ []) ≡ 4 ∷ 5 ∷ 3 ∷ 4 ∷ 5 ∷ [])
    -- 80 bytes are kept, 81 are marked, and a line that is marked stays so
    × (kept_of false 0 80 ≡ Some 80)
    × (kept_of false 0 81 ≡ None)
    × (kept_of true 3 5 ≡ None)
    × (kept_buffer true 3 5 (1 ∷ 2 ∷ 3 ∷ 4 ∷ 5 ∷ []) ≡ 1 ∷ 2 ∷ 3 ∷ 4 ∷ 5 ∷ [])
worked_kept = (refl, refl, refl, refl, refl, refl)
