-- The starred bench examples of the rules, one table under one statement: each line is computed from the calls' definitions, beginning with blank memory.
use Rattle.std.specs.Prelude.{◌≡◌, refl, List, [], ◌∷◌, Bool, true, false, ℕ, ◌+◌, ◌^◌, set, replicate, Err, Ok, Result}
use Rattle.records.specs.declared.Refusal.{Refusal}
use Rattle.records.specs.declared.NodeIndex.{NodeIndex}
use Rattle.words.specs.Wide.{wide_at, set_wide}
use Rattle.words.specs.Zeros.{zeros_at}
use Rattle.keys.specs.declared.Key.{Key}
use Rattle.keys.specs.Number.{number_of}
use Rattle.keys.specs.Common.{common, common_of, bit_of}
use Rattle.node_allocator.specs.Layout.{header_at, record_at, capacity_of, width_of, values_at}
use Rattle.node_allocator.specs.Steps.{counts_of, set_counts, initialized, get_register, set_register, never_used, taken, add_counts, add_image, freed, remove_counts, remove_image}
use Rattle.records.specs.declared.Refusal.TheVariants as no
use Rattle.records.specs.declared.Value.{Value}
use Rattle.records.specs.Layout.{image_length}
use Rattle.records.specs.Records.{header_of, front_of, spare_of, node_of, padding_of, record_from}
use Rattle.descent.specs.Found.{stop_leaf}
use Rattle.inspection.specs.Tests.{arena_ok, counts_ok, header_ok, top_ok, padding_ok, form_ok, node_ok, root_ok, kids_ok, live_value, free_node, free_value}
use Rattle.inspection.specs.Visit.{visit_of, first_of, live_of}
use Rattle.inspection.specs.Opening.{open_shaped, open_of, blank_of}
use Rattle.records.specs.Writes.{registers_set, key_set, node_set, set_node, value_set, live_record, set_value}
use Rattle.descent.specs.Descent.{child_of, lookup_turn, bits_turn, turn_at, descend, from_root}
use Rattle.lookup.specs.Start.{started, start_of, done_image, start_image}
use Rattle.lookup.specs.Get as get
use Rattle.insert.specs.Plan as insert_plan
use Rattle.insert.specs.Steps as insert
use Rattle.remove.specs.Plan as remove_plan
use Rattle.remove.specs.Steps as remove
use Rattle.listing.specs.declared.Position.{Position}
use Rattle.listing.specs.Position.{opened_made, made_of}
use Rattle.listing.specs.Step as listing

abbrev A : Key
A = record { high = 2 ^ 63; low = 0 }

abbrev B : Key
B = record { high = 0; low = 0 }

abbrev C : Key
C = record { high = 0; low = 1 }

abbrev value : ℕ → Value
value k = record { first = k; second = 10 + k }

abbrev at : ℕ → Result NodeIndex Refusal
at i = Ok (record { 0 = i })

abbrev is : Key → ℕ → Result (Key × Value) Refusal
is key k = Ok (key, (value k))

abbrev absent : Result (Key × Value) Refusal
absent = Err no.Absent

-- ---- the images, M = 4 and N = 8

unfoldable pub empty : List ℕ
empty = start_image 4 8 (replicate 140 0)

-- A has the value 1, B 2 and C 3
unfoldable pub one : List ℕ
one = insert.insert_image 4 8 empty A (value 1)

unfoldable pub two : List ℕ
two = insert.insert_image 4 8 one B (value 2)

unfoldable pub three : List ℕ
three = insert.insert_image 4 8 two C (value 3)

-- without A, and with A again
unfoldable pub without : List ℕ
without = remove.removed_image 4 8 three A

unfoldable pub again : List ℕ
again = insert.insert_image 4 8 without A (value 4)

-- M = 1 and N = 2, with A; M = 2 and N = 4, with A once and twice
unfoldable pub full : List ℕ
full = insert.insert_image 1 2 (start_image 1 2 (replicate (image_length 1 2) 0)) A (value 1)

unfoldable pub once : List ℕ
once = insert.insert_image 2 4 (start_image 2 4 (replicate (image_length 2 4) 0)) A (value 1)

unfoldable pub twice : List ℕ
twice = insert.insert_image 2 4 once A (value 2)

-- ---- a listing, side after side; true is the back

abbrev steps : List Bool → List ℕ → Position → List (Result (Key × Value) Refusal)
steps [] ws p = []
steps (back ∷ sides) ws p = (listing.step_of back 4 8 ws p).entry ∷ steps sides ws (listing.step_of back 4 8 ws p).position

abbrev listed : List Bool → List ℕ → List (Result (Key × Value) Refusal)
listed sides ws = steps sides ws (made_of 4 8 ws).position

-- ---- the table

pub starred :
    -- Start: bumps and heads 1, all else 0
    (start_of 4 8 (replicate 140 0) ≡ Ok tt)
    × (empty ≡ set (set (set (set (replicate 140 0) 6 1) 7 1) (values_at 8 + 2) 1) (values_at 8 + 3) 1)
    × ((header_of 8 empty).nodes ≡ record { size = 0; bump = 1; head = 1 })
    × ((header_of 8 empty).values ≡ record { size = 0; bump = 1; head = 1 })
    -- A gives 1
    × (insert.insert_of 4 8 empty A ≡ at 1)
    -- B gives 2: root prefix 0, Left 2, Right 3
    × (insert.insert_of 4 8 one B ≡ at 2)
    × ((node_of two 1).prefix ≡ 0)
    × ((node_of two 1).left.0 ≡ 2)
    × ((node_of two 1).right.0 ≡ 3)
    × ((node_of two 2).key ≡ B)
    -- C gives 4: node 2 has prefix 127, Left 5, Right 4, so index 2 no longer names B
    × (insert.insert_of 4 8 two C ≡ at 4)
    × ((node_of three 2).prefix ≡ 127)
    × ((node_of three 2).left.0 ≡ 5)
    × ((node_of three 2).right.0 ≡ 4)
    × (get.addr_of 4 8 three B ≡ at 5)
    -- Listing: B, C, A
    × (listed (false ∷ false ∷ false ∷ false ∷ []) three ≡ is B 2 ∷ is C 3 ∷ is A 1 ∷ absent ∷ [])
    -- front, back, front, back, front: B, A, C, 4, 4
    × (listed (false ∷ true ∷ false ∷ true ∷ false ∷ []) three ≡ is B 2 ∷ is A 1 ∷ is C 3 ∷ absent ∷ absent ∷ [])
    -- Remove A: node size 3, free nodes 2, 3, value head 1
    × (remove.remove_of 4 8 three A ≡ Ok (value 1))
    × ((header_of 8 without).nodes ≡ record { size = 3; bump = 6; head = 2 })
    × ((node_of without 2).left.0 ≡ 3)
    × ((node_of without 3).left.0 ≡ 6)
    × ((header_of 8 without).values ≡ record { size = 2; bump = 4; head = 1 })
    -- A again gives 2; the root has Left 3, Right 2
    × (insert.insert_of 4 8 without A ≡ at 2)
    × ((node_of again 1).left.0 ≡ 3)
    × ((node_of again 1).right.0 ≡ 2)
    -- M = 1: A gives 1, A again refuses 3, old value kept
    × (insert.insert_of 1 2 (start_image 1 2 (replicate (image_length 1 2) 0)) A ≡ at 1)
    × (insert.insert_of 1 2 full A ≡ Err no.Full)
    × (insert.insert_image 1 2 full A (value 2) ≡ full)
    × (get.get_of 1 2 full A ≡ Ok (value 1))
    -- M = 2: A twice gives 1 and 1, second value held
    × (insert.insert_of 2 4 (start_image 2 4 (replicate (image_length 2 4) 0)) A ≡ at 1)
    × (insert.insert_of 2 4 once A ≡ at 1)
    × (get.get_of 2 4 twice A ≡ Ok (value 2))
unfolding
    wide_at set_wide zeros_at number_of common common_of bit_of header_at record_at capacity_of width_of counts_of initialized set_counts get_register set_register never_used taken add_counts add_image freed remove_counts remove_image
    header_of front_of spare_of node_of padding_of record_from arena_ok counts_ok header_ok top_ok padding_ok form_ok node_ok root_ok kids_ok live_value free_node free_value visit_of first_of live_of open_shaped open_of blank_of
    registers_set key_set node_set set_node value_set live_record set_value child_of lookup_turn bits_turn turn_at descend from_root started done_image start_image
    get.live_target get.leaf_target stop_leaf get.opened_target get.target_of get.target_got get.get_of get.leaf_place get.opened_place get.addr_of
    insert_plan.taken_node insert_plan.next_node insert_plan.taken_value insert_plan.leaf_tests insert_plan.split_tests insert_plan.stop_plan insert_plan.insert_plan
    insert.leaf_taken insert.copy_index insert.both_taken insert.first_image insert.adopted insert.fork_node insert.forked insert.split_image insert.plan_image insert.plan_place insert.opened_plan insert.insert_of insert.insert_image
    remove_plan.sibling_of remove_plan.sibling_ok remove_plan.cut_plan remove_plan.leaf_plan remove_plan.reached_plan
    remove.leaf_freed remove.lone_image remove.moved remove.place_freed remove.cut_image remove.plan_image remove.value_gone remove.opened_plan remove.remove_of remove.removed_image
    opened_made made_of listing.open_turn listing.open_to listing.pop_to listing.live_moved listing.leaf_moved listing.opened_moved listing.moved_of listing.opened_step listing.step_of
    empty one two three without again full once twice
starred = (
  refl,
  refl,
  refl,
  refl,
  refl,
  refl,
  refl,
  refl,
  refl,
  refl,
  refl,
  refl,
  refl,
  refl,
  refl,
  refl,
  refl,
  refl,
  refl,
  refl,
  refl,
  refl,
  refl,
  refl,
  refl,
  refl,
  refl,
  refl,
  refl,
  refl,
  refl,
  refl,
)
