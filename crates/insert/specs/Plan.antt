-- What insert finds out before it writes: rules S5 to S8 and S13. Everything is tested on the image as it was before the call, and the plan carries what
-- was found: the header, the node that is split and how many bits it shares with the key.
use Rattle.std.specs.Prelude.{List, Bool, cond, ◌&&◌, ℕ, ◌+◌, eqb, leb, ltb, Option, Some, None, Err, Ok, Result}
use Rattle.records.specs.declared.NodeIndex.{NodeIndex}
use Rattle.records.specs.declared.Refusal.{Refusal}
use Rattle.keys.specs.declared.Key.{Key}
use Rattle.node_allocator.specs.Steps.{never_used}
use Rattle.node_allocator.specs.declared.Arena.TheVariants.{Nodes, Values}
use Rattle.records.specs.declared.Header.{Header}
use Rattle.records.specs.declared.Refusal.TheVariants as no
use Rattle.records.specs.Records.{node_of, value_record_of}
use Rattle.inspection.specs.Tests.{kids_ok, live_value, free_node, free_value}
use Rattle.descent.specs.declared.Stop.{Stop}
use Rattle.descent.specs.declared.Stop.TheVariants as stop
use Rattle.descent.specs.Descent.{find_of}
use Rattle.insert.specs.declared.Plan.{Plan}
use Rattle.insert.specs.declared.Plan.TheVariants.{First, Replace, Split}

-- ---- the records that it will take

-- below the bump a free node; at or above it, up to N, twelve zero words; a taken index above N fails
unfoldable pub taken_node : ℕ → Header → List ℕ → ℕ → Bool
taken_node n h ws i =
    cond (ltb i h.nodes.bump) (free_node h ws i (node_of ws i)) (leb i n && never_used (Nodes n) ws i)

-- the node that is taken after i: the one behind the bump where i is at the bump, else Left of i
unfoldable pub next_node : Header → List ℕ → ℕ → ℕ
next_node h ws i = cond (eqb i h.nodes.bump) (i + 1) (node_of ws i).left.0

-- the node that is taken after the one at the head, if that may be taken
unfoldable pub behind_head : ℕ → Header → List ℕ → Option NodeIndex
behind_head n h ws = cond (taken_node n h ws h.nodes.head) (Some (record { 0 = next_node h ws h.nodes.head })) None

-- the same as `taken_node` for value records, of which one is taken
unfoldable pub taken_value : ℕ → ℕ → Header → List ℕ → ℕ → Bool
taken_value m n h ws j =
    cond (ltb j h.values.bump) (free_value h j (value_record_of n ws j)) (leb j m && never_used (Values n m) ws j)

-- a leaf takes a node and a value record; a split takes a second node
unfoldable pub leaf_tests : ℕ → ℕ → Header → List ℕ → Bool
leaf_tests m n h ws = taken_node n h ws h.nodes.head && taken_value m n h ws h.values.head

unfoldable pub split_tests : ℕ → ℕ → Header → List ℕ → Bool
split_tests m n h ws = leaf_tests m n h ws && taken_node n h ws (next_node h ws h.nodes.head)

-- ---- the plan

-- at the equal leaf its value record is tested; at the node where the key parts, its children if it is inner, and the two nodes and the value record that
-- are taken; the empty map takes one node and one value record
unfoldable pub stop_plan : ℕ → ℕ → Header → List ℕ → Stop → Result Plan Refusal
stop_plan m n h ws (stop.Leaf i x) = cond (live_value n ws i.0 x.value.0) (Ok (Replace i x.value)) (Err no.Damaged)
stop_plan m n h ws (stop.Parted i x shared) = cond (kids_ok h ws i.0 x && split_tests m n h ws) (Ok (Split h i x shared)) (Err no.Damaged)
stop_plan m n h ws stop.Empty = cond (leaf_tests m n h ws) (Ok (First h)) (Err no.Damaged)
stop_plan m n h ws stop.Damaged = Err no.Damaged

-- it refuses when n = M, then descends
unfoldable pub insert_plan : ℕ → ℕ → Header → List ℕ → Key → Result Plan Refusal
insert_plan m n h ws key = cond (eqb h.values.size m) (Err no.Full) (stop_plan m n h ws (find_of h ws key))
