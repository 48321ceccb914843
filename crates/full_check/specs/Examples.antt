-- The full check on the bench examples of the rules B, "A is 2^127, B is 0, C is 1; M = 4, N = 8, 140 words": the started image and the one that holds A, B and C are accepted, and the latter is refused
-- where one word of it is bent.
use Rattle.std.specs.Prelude.{◌≡◌, refl, List, [], ◌∷◌, ◌++◌, ℕ, ◌^◌, replicate, drop, set}
use Rattle.words.specs.Wide.{wide_at}
use Rattle.words.specs.Zeros.{zeros_at}
use Rattle.keys.specs.Number.{number_of}
use Rattle.keys.specs.Common.{common_of, common, bit_of}
use Rattle.records.specs.Records.{header_of, front_of, spare_of, node_of, padding_of, record_from}
use Rattle.inspection.specs.Tests.{arena_ok, counts_ok, header_ok, top_ok, padding_ok, form_ok, node_ok, root_ok, live_value, free_node, free_value}
use Rattle.inspection.specs.Opening.{open_shaped, open_of}
use Rattle.records.specs.Numbers.{answer_number, refusal_number}
use Rattle.full_check.specs.Walk.{side_ok, visit_ok, leaf_walk, joined, walk_of}
use Rattle.full_check.specs.Chains.{chain_of, node_chain, value_chain, nodes_unused, values_unused}
use Rattle.full_check.specs.Check.{root_walk, tree_ok, records_ok, opened_check, check_shape, check_of}

-- a scratch of M words that holds something
abbrev scratch : List ℕ
scratch = 7 ∷ 7 ∷ 7 ∷ 7 ∷ []

abbrev number_for : List ℕ → ℕ
number_for ws = answer_number (check_of 4 8 ws scratch)

abbrev nil : ℕ → List ℕ
nil n = replicate n 0

-- bumps and heads 1, all else 0
abbrev started : List ℕ
started = nil 6 ++ (1 ∷ 1 ∷ nil 98) ++ (1 ∷ 1 ∷ nil 32)

-- Left, Right, Parent, Value, the key's first and last word, prefix length
abbrev node : ℕ → ℕ → ℕ → ℕ → ℕ → ℕ → ℕ → List ℕ
node left right parent value lowest highest prefix =
    left ∷ right ∷ parent ∷ value ∷ lowest ∷ 0 ∷ 0 ∷ highest ∷ prefix ∷ 0 ∷ 0 ∷ 0 ∷ []

abbrev value : ℕ → List ℕ
value v = 0 ∷ 0 ∷ 0 ∷ 0 ∷ v ∷ 0 ∷ 0 ∷ 0 ∷ []

-- A, B and C, inserted in this order
abbrev held : List ℕ
held =
    (0 ∷ 0 ∷ 1 ∷ 0 ∷ 5 ∷ 0 ∷ 6 ∷ 6 ∷ [])
    ++ node 2 3 0 0 0 0 0
    ++ node 5 4 1 0 1 0 127
    ++ node 0 0 1 1 0 (2 ^ 31) 128
    ++ node 0 0 2 3 1 0 128
    ++ node 0 0 2 2 0 0 128
    ++ nil 36
    ++ (3 ∷ 0 ∷ 4 ∷ 4 ∷ [])
    ++ value 1
    ++ value 2
    ++ value 3
    ++ nil 8

-- B and C, with two free nodes and a free value record
abbrev removed : List ℕ
removed =
    (0 ∷ 0 ∷ 1 ∷ 0 ∷ 3 ∷ 0 ∷ 6 ∷ 2 ∷ [])
    ++ node 5 4 0 0 1 0 127
    ++ node 3 0 1 0 1 0 127
    ++ node 6 0 0 0 0 (2 ^ 31) 128
    ++ node 0 0 1 3 1 0 128
    ++ node 0 0 1 2 0 0 128
    ++ nil 36
    ++ (2 ∷ 0 ∷ 4 ∷ 1 ∷ [])
    ++ (4 ∷ 0 ∷ 0 ∷ 0 ∷ 1 ∷ 0 ∷ 0 ∷ 0 ∷ [])
    ++ value 2
    ++ value 3
    ++ nil 8

-- the same, where node size and n count two nodes and a value record more, which the tree does not reach
abbrev unreached : List ℕ
unreached = set (set (set (set (set (set removed 4 5) 6 8) 32 8) 104 3) 107 4) 108 0

pub accepted :
    (number_for started ≡ 0)
    × (number_for held ≡ 0)
    × (number_for removed ≡ 0)
unfolding check_of check_shape open_of open_shaped opened_check answer_number refusal_number header_of front_of spare_of wide_at top_ok header_ok counts_ok arena_ok root_ok
    records_ok tree_ok root_walk walk_of visit_ok node_of padding_of padding_ok node_ok form_ok side_ok number_of common common_of bit_of joined leaf_walk live_value record_from
    node_chain value_chain chain_of free_node free_value nodes_unused values_unused zeros_at
accepted = (refl, refl, refl)

-- 139 and 141 words, and a scratch of three words
pub misshapen :
    (number_for (0 ∷ held) ≡ 1)
    × (number_for (drop 1 held) ≡ 1)
    × (answer_number (check_of 4 8 held (drop 1 scratch)) ≡ 1)
unfolding check_of check_shape answer_number refusal_number
misshapen = (refl, refl, refl)

pub damaged :
    -- node 4's Parent names the root
    (number_for (set held 46 1) ≡ 2)
    -- the children of node 2 change sides
    × (number_for (set (set held 20 4) 21 5) ≡ 2)
    -- nodes 4 and 5 name one value record
    × (number_for (set held 59 3) ≡ 2)
    -- the value record of A is on a chain
    × (number_for (set held 108 4) ≡ 2)
    -- the last word of node 8, and of value record 4, which were never used
    × (number_for (set held 103 1) ≡ 2)
    × (number_for (set held 139 1) ≡ 2)
    -- the chain of free nodes leaves one out, and turns in a circle
    × (number_for (set removed 20 6) ≡ 2)
    × (number_for (set removed 32 2) ≡ 2)
    × (number_for unreached ≡ 2)
unfolding check_of check_shape open_of open_shaped opened_check answer_number refusal_number header_of front_of spare_of wide_at top_ok header_ok counts_ok arena_ok root_ok
    records_ok tree_ok root_walk walk_of visit_ok node_of padding_of padding_ok node_ok form_ok side_ok number_of common common_of bit_of joined leaf_walk live_value record_from
    node_chain value_chain chain_of free_node free_value nodes_unused values_unused zeros_at
damaged = (refl, refl, refl, refl, refl, refl, refl, refl, refl)
