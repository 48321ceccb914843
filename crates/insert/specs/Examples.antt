-- The bench examples of insert (rules B1 and on), computed: "A is 2^127, B is 0, C is 1; M = 4, N = 8, 140 words (139 and 141: refusal 1)".
use Rattle.std.specs.Prelude.{◌≡◌, refl, List, [], ◌∷◌, ℕ, zero, suc, ◌+◌, ◌^◌, set, Err, Ok, Result}
use Rattle.records.specs.declared.Refusal.{Refusal}
use Rattle.records.specs.declared.NodeIndex.{NodeIndex}
use Rattle.words.specs.Wide.{wide_at, set_wide}
use Rattle.words.specs.Zeros.{zeros_at}
use Rattle.keys.specs.declared.Key.{Key}
use Rattle.keys.specs.Number.{number_of}
use Rattle.keys.specs.Common.{common, common_of, bit_of}
use Rattle.node_allocator.specs.Layout.{header_at, record_at, capacity_of, width_of, values_at}
use Rattle.node_allocator.specs.Steps.{set_counts, get_register, set_register, never_used, taken, add_counts, add_image}
use Rattle.records.specs.declared.Refusal.TheVariants as no
use Rattle.records.specs.declared.Value.{Value}
use Rattle.records.specs.Layout.{image_length}
use Rattle.records.specs.Records.{header_of, front_of, spare_of, node_of, padding_of, record_from, value_record_of}
use Rattle.records.specs.Writes.{registers_set, key_set, node_set, set_node, value_set, live_record, set_value}
use Rattle.inspection.specs.Tests.{arena_ok, counts_ok, header_ok, top_ok, padding_ok, form_ok, node_ok, root_ok, kids_ok, live_value, free_node, free_value}
use Rattle.inspection.specs.Opening.{open_shaped, open_of}
use Rattle.descent.specs.Descent.{child_of, lookup_turn, turn_at, descend, from_root}
use Rattle.insert.specs.Plan.{taken_node, next_node, taken_value, leaf_tests, split_tests, stop_plan, insert_plan}
use Rattle.insert.specs.Steps.{leaf_taken, copy_index, both_taken, first_image, adopted, fork_node, forked, split_image, plan_image, plan_place, opened_plan, insert_of, insert_image}

abbrev A : Key
A = record { high = 2 ^ 63; low = 0 }

abbrev B : Key
B = record { high = 0; low = 0 }

abbrev C : Key
C = record { high = 0; low = 1 }

abbrev value : ℕ → Value
value k = record { first = k; second = k }

abbrev at : ℕ → Result NodeIndex Refusal
at i = Ok (record { 0 = i })

unfoldable pub blank : ℕ → List ℕ
blank zero = []
blank (suc k) = 0 ∷ blank k

-- bumps and heads 1, all else 0
unfoldable pub started : ℕ → ℕ → List ℕ
started m n = set (set (set (set (blank (image_length m n)) 6 1) 7 1) (values_at n + 2) 1) (values_at n + 3) 1

-- after A, then B, then C
unfoldable pub one : List ℕ
one = insert_image 4 8 (started 4 8) A (value 1)

unfoldable pub two : List ℕ
two = insert_image 4 8 one B (value 2)

unfoldable pub three : List ℕ
three = insert_image 4 8 two C (value 3)

-- M = 1, after A
unfoldable pub full : List ℕ
full = insert_image 1 2 (started 1 2) A (value 1)

-- M = 2, after A, and after A again
unfoldable pub once : List ℕ
once = insert_image 2 4 (started 2 4) A (value 1)

unfoldable pub twice : List ℕ
twice = insert_image 2 4 once A (value 2)

pub worked_inserts :
    -- A gives 1
    (insert_of 4 8 (started 4 8) A ≡ at 1)
    -- B gives 2: root prefix 0, Left 2, Right 3
    × (insert_of 4 8 one B ≡ at 2)
    × ((node_of two 1).prefix ≡ 0)
    × ((node_of two 1).left.0 ≡ 2)
    × ((node_of two 1).right.0 ≡ 3)
    × ((node_of two 2).key ≡ B)
    × ((node_of two 3).key ≡ A)
    -- C gives 4: node 2 has prefix 127, Left 5, Right 4, so index 2 no longer names B
    × (insert_of 4 8 two C ≡ at 4)
    × ((node_of three 2).prefix ≡ 127)
    × ((node_of three 2).left.0 ≡ 5)
    × ((node_of three 2).right.0 ≡ 4)
    × ((node_of three 4).key ≡ C)
    × ((node_of three 5).key ≡ B)
    -- M = 1: A gives 1, A again refuses 3, old value kept
    × (insert_of 1 2 (started 1 2) A ≡ at 1)
    × (insert_of 1 2 full A ≡ Err no.Full)
    × (insert_image 1 2 full A (value 2) ≡ full)
    × ((value_record_of 2 full 1).value ≡ value 1)
    -- M = 2: A twice gives 1 and 1, second value held
    × (insert_of 2 4 (started 2 4) A ≡ at 1)
    × (insert_of 2 4 once A ≡ at 1)
    × ((value_record_of 4 twice 1).value ≡ value 2)
    -- 139 and 141 words; M 4 with N 7
    × (insert_of 4 8 (blank 139) A ≡ Err no.Shape)
    × (insert_of 4 8 (blank 141) A ≡ Err no.Shape)
    × (insert_of 4 7 (started 4 7) A ≡ Err no.Shape)
unfolding
    wide_at set_wide zeros_at number_of common common_of bit_of header_at record_at capacity_of width_of set_counts get_register set_register never_used taken add_counts add_image
    header_of front_of spare_of node_of padding_of record_from registers_set key_set node_set set_node value_set live_record set_value
    arena_ok counts_ok header_ok top_ok padding_ok form_ok node_ok root_ok kids_ok live_value free_node free_value open_shaped open_of child_of lookup_turn turn_at descend from_root
    taken_node next_node taken_value leaf_tests split_tests stop_plan insert_plan leaf_taken copy_index both_taken first_image adopted fork_node forked split_image
    plan_image plan_place opened_plan insert_of insert_image blank started one two three full once twice
worked_inserts = (
  refl,
  refl,
  refl,
  refl,
  refl,
  refl,
  refl,
  refl,
  refl,
  refl,
  refl,
  refl,
  refl,
  refl,
  refl,
  refl,
  refl,
  refl,
  refl,
  refl,
  refl,
  refl,
  refl,
)
