-- The bench example of remove, computed (rule B9): M = 4, N = 8, 140 words; A is 2^127, B is 0 and C is 1. Removing A
-- leaves node size 3, free nodes 2, 3 and value head 1. Removing it again answers 4 and changes nothing.
use Rattle.std.specs.Prelude.{◌≡◌, refl, List, [], ◌∷◌, ◌++◌, ℕ, ◌^◌, length, Ok}
use Rattle.words.specs.Wide.{wide_at, set_wide}
use Rattle.keys.specs.declared.Key.{Key}
use Rattle.keys.specs.Number.{number_of}
use Rattle.keys.specs.Common.{bit_of}
use Rattle.node_allocator.specs.Layout.{header_at, record_at, capacity_of}
use Rattle.node_allocator.specs.Steps.{set_counts, set_register, freed, remove_counts, remove_image}
use Rattle.records.specs.Records.{header_of, front_of, spare_of, node_of, padding_of, record_from}
use Rattle.records.specs.Numbers.{refusal_number, answer_number}
use Rattle.records.specs.Writes.{registers_set, key_set, node_set, set_node}
use Rattle.descent.specs.Found.{stop_leaf}
use Rattle.inspection.specs.Tests.{arena_ok, counts_ok, header_ok, top_ok, padding_ok, form_ok, node_ok, root_ok, kids_ok, live_value}
use Rattle.inspection.specs.Visit.{live_of}
use Rattle.inspection.specs.Opening.{open_shaped, open_of}
use Rattle.descent.specs.Descent.{child_of, bits_turn, turn_at, descend, from_root}
use Rattle.remove.specs.Plan.{sibling_of, sibling_ok, cut_plan, leaf_plan, reached_plan}
use Rattle.remove.specs.Steps.{leaf_freed, moved, place_freed, cut_image, plan_image, value_gone, opened_plan, remove_of, removed_image}

abbrev A : Key
A = record { high = 2 ^ 63; low = 0 }

abbrev four : ℕ → ℕ → ℕ → ℕ → List ℕ
four a b c d = a ∷ b ∷ c ∷ d ∷ []

-- a leaf's content, of a key below 2^32 or of A
abbrev leaf : ℕ → List ℕ
leaf key = four key 0 0 0 ++ four 128 0 0 0

abbrev leaf_a : List ℕ
leaf_a = four 0 0 0 2147483648 ++ four 128 0 0 0

abbrev never : List ℕ
never = four 0 0 0 0 ++ four 0 0 0 0 ++ four 0 0 0 0

-- node 1 parts A from B and C, node 2 parts these, and A, C, B are the leaves 3, 4, 5
abbrev three : List ℕ
three =
    four 0 0 1 0 ++ four 5 0 6 6
    ++ four 2 3 0 0 ++ four 0 0 0 0 ++ four 0 0 0 0
    ++ four 5 4 1 0 ++ four 1 0 0 0 ++ four 127 0 0 0
    ++ four 0 0 1 1 ++ leaf_a
    ++ four 0 0 2 3 ++ leaf 1
    ++ four 0 0 2 2 ++ leaf 0
    ++ never ++ never ++ never
    ++ four 3 0 4 4
    ++ four 0 0 0 0 ++ four 10 0 11 0
    ++ four 0 0 0 0 ++ four 20 0 21 0
    ++ four 0 0 0 0 ++ four 30 0 31 0
    ++ four 0 0 0 0 ++ four 0 0 0 0

-- node 2 has moved into node 1, nodes 2 and 3 are free, and node 2's Parent stays
abbrev two : List ℕ
two =
    four 0 0 1 0 ++ four 3 0 6 2
    ++ four 5 4 0 0 ++ four 1 0 0 0 ++ four 127 0 0 0
    ++ four 3 0 1 0 ++ four 1 0 0 0 ++ four 127 0 0 0
    ++ four 6 0 0 0 ++ leaf_a
    ++ four 0 0 1 3 ++ leaf 1
    ++ four 0 0 1 2 ++ leaf 0
    ++ never ++ never ++ never
    ++ four 2 0 4 1
    ++ four 4 0 0 0 ++ four 10 0 11 0
    ++ four 0 0 0 0 ++ four 20 0 21 0
    ++ four 0 0 0 0 ++ four 30 0 31 0
    ++ four 0 0 0 0 ++ four 0 0 0 0

pub worked_remove :
    (length three ≡ 140)
    × (remove_of 4 8 three A ≡ Ok (record { first = 10; second = 11 }))
    × (removed_image 4 8 three A ≡ two)
    × ((header_of 8 two).nodes ≡ record { size = 3; bump = 6; head = 2 })
    × ((node_of two 2).left.0 ≡ 3)
    × ((header_of 8 two).values ≡ record { size = 2; bump = 4; head = 1 })
    × (answer_number (remove_of 4 8 two A) ≡ 4)
    × (removed_image 4 8 two A ≡ two)
unfolding removed_image plan_image cut_image place_freed moved leaf_freed remove_image remove_counts freed set_counts set_register set_node node_set key_set registers_set header_at record_at capacity_of set_wide wide_at remove_of value_gone opened_plan open_of open_shaped reached_plan stop_leaf leaf_plan cut_plan sibling_ok sibling_of from_root descend turn_at bits_turn child_of header_of front_of spare_of node_of padding_of record_from arena_ok counts_ok header_ok top_ok padding_ok form_ok node_ok root_ok kids_ok live_value live_of number_of bit_of answer_number refusal_number
worked_remove = (refl, refl, refl, refl, refl, refl, refl, refl)
