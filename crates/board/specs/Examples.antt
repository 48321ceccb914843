-- The board's calls on small cases: the order of the output's bytes, and a map with M = 1 and N = 2, in bytes, that holds key A: "A is 2^127, B is 0". The numbers are those of the contracts.
use Rattle.std.specs.Prelude.{◌≡◌, refl, List, [], ◌∷◌, ◌++◌, ℕ, ◌^◌, replicate, drop, set}
use Rattle.words.specs.Words.{words}
use Rattle.words.specs.Wide.{wide_at}
use Rattle.words.specs.Zeros.{zeros_at}
use Rattle.keys.specs.declared.Key.{Key}
use Rattle.keys.specs.Number.{number_of}
use Rattle.keys.specs.Common.{common_of, common, bit_of}
use Rattle.records.specs.Layout.{image_of}
use Rattle.records.specs.Records.{header_of, front_of, spare_of, node_of, padding_of, record_from}
use Rattle.descent.specs.Found.{stop_leaf}
use Rattle.inspection.specs.Tests.{arena_ok, counts_ok, header_ok, top_ok, padding_ok, form_ok, node_ok, root_ok, live_value, free_node, free_value}
use Rattle.inspection.specs.Visit.{live_of}
use Rattle.inspection.specs.Opening.{open_shaped, open_of}
use Rattle.records.specs.Numbers.{answer_number, got_value, refusal_number}
use Rattle.descent.specs.Descent.{lookup_turn, child_of, turn_at, descend, from_root}
use Rattle.lookup.specs.Get.{live_target, opened_target, target_of, target_got, get_of, leaf_target}
use Rattle.full_check.specs.Walk.{side_ok, visit_ok, leaf_walk, joined, walk_of}
use Rattle.full_check.specs.Chains.{chain_of, node_chain, value_chain, nodes_unused, values_unused}
use Rattle.full_check.specs.Check.{root_walk, tree_ok, records_ok, opened_check, check_shape, check_of}
use Rattle.board.specs.Output.{word_bytes, value_bytes, lookup_of, output_after}
use Rattle.board.specs.Scratch.{board_check, scratch_after}

-- the first word first, each with its lowest byte first
pub order : value_bytes (record { first = 578437695752307201; second = 1157159078456920585 })
    ≡ 1 ∷ 2 ∷ 3 ∷ 4 ∷ 5 ∷ 6 ∷ 7 ∷ 8 ∷ 9 ∷ 10 ∷ 11 ∷ 12 ∷ 13 ∷ 14 ∷ 15 ∷ 16 ∷ []
unfolding value_bytes
order = refl

-- ---- a map of one value record

abbrev nil : ℕ → List ℕ
nil n = replicate n 0

abbrev bytes_of : List ℕ → List ℕ
bytes_of [] = []
bytes_of (w ∷ ws) = word_bytes w ++ bytes_of ws

abbrev held : List ℕ
held =
    (0 ∷ 0 ∷ 1 ∷ 0 ∷ 1 ∷ 0 ∷ 2 ∷ 2 ∷ [])
    ++ (0 ∷ 0 ∷ 0 ∷ 1 ∷ 0 ∷ 0 ∷ 0 ∷ 2 ^ 31 ∷ 128 ∷ 0 ∷ 0 ∷ 0 ∷ [])
    ++ nil 12
    ++ (1 ∷ 0 ∷ 2 ∷ 2 ∷ [])
    ++ (0 ∷ 0 ∷ 0 ∷ 0 ∷ 258 ∷ 0 ∷ 3 ∷ 2 ^ 31 ∷ [])

abbrev A : Key
A = record { high = 2 ^ 63; low = 0 }

abbrev B : Key
B = record { high = 0; low = 0 }

-- the number, and an output of so many bytes that hold 7
abbrev got : List ℕ → Key → ℕ → ℕ × List ℕ
got img key many =
    (answer_number (lookup_of 1 2 (image_of img) key (replicate many 7)), output_after (lookup_of 1 2 (image_of img) key (replicate many 7)) (replicate many 7))

-- found; absent; a value record that was bent; a short output; an image of one byte less
pub looked :
    (got (bytes_of held) A 17 ≡ (0, 2 ∷ 1 ∷ nil 6 ++ (3 ∷ nil 6 ++ (128 ∷ 7 ∷ []))))
    × (got (bytes_of held) B 17 ≡ (4, nil 16 ++ (7 ∷ [])))
    × (got (bytes_of (set held 36 1)) A 17 ≡ (2, nil 16 ++ (7 ∷ [])))
    × (got (bytes_of held) A 15 ≡ (1, replicate 15 7))
    × (got (drop 1 (bytes_of held)) A 17 ≡ (1, replicate 17 7))
unfolding
    lookup_of output_after value_bytes answer_number got_value refusal_number image_of words get_of target_got target_of opened_target leaf_target stop_leaf live_target live_of live_value
    open_of open_shaped header_of front_of spare_of wide_at top_ok header_ok counts_ok arena_ok from_root root_ok descend turn_at lookup_turn child_of node_of padding_of padding_ok
    node_ok form_ok number_of common common_of bit_of record_from
looked = (refl, refl, refl, refl, refl)

abbrev checked : List ℕ → ℕ → ℕ × List ℕ
checked img many =
    (answer_number (board_check 1 2 (image_of img) (replicate many 7)), scratch_after 1 (board_check 1 2 (image_of img) (replicate many 7)) (replicate many 7))

-- accepted; the same bent value record; a short scratch; an image of one byte less
pub check :
    (checked (bytes_of held) 7 ≡ (0, nil 4 ++ replicate 3 7))
    × (checked (bytes_of (set held 36 1)) 7 ≡ (2, nil 4 ++ replicate 3 7))
    × (checked (bytes_of held) 3 ≡ (1, replicate 3 7))
    × (checked (drop 1 (bytes_of held)) 7 ≡ (1, replicate 7 7))
unfolding
    board_check scratch_after image_of words check_of check_shape open_of open_shaped opened_check answer_number refusal_number header_of front_of spare_of wide_at top_ok header_ok counts_ok arena_ok
    records_ok tree_ok root_ok root_walk walk_of visit_ok node_of padding_of padding_ok node_ok form_ok side_ok number_of common common_of bit_of joined leaf_walk live_value record_from
    node_chain value_chain chain_of free_node free_value nodes_unused values_unused zeros_at
check = (refl, refl, refl, refl)
