-- The words that insert leaves, and its answer: rules S5 to S9. The records are taken in the Rust's order, the new leaf's node, its value record, the copy's
-- node; then each record that changes is stored as a whole, so that the words are those that `add_leaf`, `duplicate` and `replace_node` of critbit.rs leave.
use Rattle.std.specs.Prelude.{List, cond, ℕ, set, Err, Ok, Result}
use Rattle.records.specs.declared.Refusal.{Refusal}
use Rattle.records.specs.declared.NodeIndex.{NodeIndex}
use Rattle.keys.specs.declared.Key.{Key}
use Rattle.keys.specs.Number.{number_of}
use Rattle.keys.specs.Common.{bit_of}
use Rattle.node_allocator.specs.declared.Arena.TheVariants.{Nodes, Values}
use Rattle.node_allocator.specs.declared.Register.TheVariants as register
use Rattle.node_allocator.specs.Steps.{set_register, add_counts, add_image}
use Rattle.records.specs.declared.Header.{Header}
use Rattle.records.specs.declared.Node.{Node}
use Rattle.records.specs.declared.Value.{Value}
use Rattle.records.specs.Records.{leaf_node, inner_node, with_parent}
use Rattle.records.specs.Writes.{set_node, live_record, set_value}
use Rattle.inspection.specs.Opening.{open_of}
use Rattle.insert.specs.declared.Plan.{Plan}
use Rattle.insert.specs.declared.Plan.TheVariants.{First, Replace, Split}
use Rattle.insert.specs.Plan.{insert_plan}

-- ---- the records that are taken: they are the heads of the header h

-- the leaf's node, and its value record, which holds the value
unfoldable pub leaf_taken : ℕ → ℕ → List ℕ → Header → Value → List ℕ
leaf_taken m n ws h v =
    set_value m n (add_image (Values n m) (add_image (Nodes n) ws h.nodes) h.values) h.values.head (live_record h.nodes.head v)

-- the copy's node is the head once the leaf's is taken
unfoldable pub copy_index : ℕ → List ℕ → Header → ℕ
copy_index n ws h = (add_counts (Nodes n) ws h.nodes).head

unfoldable pub both_taken : ℕ → ℕ → List ℕ → Header → Value → List ℕ
both_taken m n ws h v = add_image (Nodes n) (leaf_taken m n ws h v) (add_counts (Nodes n) ws h.nodes)

-- ---- insert

-- into the empty map: a leaf, which is the root
unfoldable pub first_image : ℕ → ℕ → List ℕ → Header → Key → Value → List ℕ
first_image m n ws h key v = set (set_node n (leaf_taken m n ws h v) h.nodes.head (leaf_node 0 key h.values.head)) 2 h.nodes.head

-- children l and r hang below node i: 0 names none
unfoldable pub adopted : ℕ → List ℕ → ℕ → ℕ → ℕ → List ℕ
adopted n ws i l r = set_register (Nodes n) (set_register (Nodes n) ws l i register.Parent) r i register.Parent

-- the inner node that node i becomes: the new leaf hangs on the side of the key's bit at the shared length, and the copy on the other
unfoldable pub fork_node : Key → ℕ → ℕ → ℕ → Node → Node
fork_node key shared leaf copy x =
    cond (bit_of (number_of key) shared) (inner_node x.parent.0 key shared copy leaf) (inner_node x.parent.0 key shared leaf copy)

-- node i, whose record is x, moves to the copy; the new leaf, with its value record, and node i anew above both
unfoldable pub forked : ℕ → List ℕ → ℕ → Node → ℕ → Key → ℕ → ℕ → ℕ → List ℕ
forked n ws i x shared key leaf cell copy =
    set_node n (set_node n (set_node n ws copy (with_parent i x)) leaf (leaf_node i key cell)) i (fork_node key shared leaf copy x)

unfoldable pub split_image : ℕ → ℕ → List ℕ → Header → ℕ → Node → ℕ → Key → Value → List ℕ
split_image m n ws h i x shared key v =
    forked n (adopted n (both_taken m n ws h v) (copy_index n ws h) x.left.0 x.right.0) i x shared key h.nodes.head h.values.head (copy_index n ws h)

unfoldable pub plan_image : ℕ → ℕ → List ℕ → Key → Value → Result Plan Refusal → List ℕ
plan_image m n ws key v (Ok (First h)) = first_image m n ws h key v
plan_image m n ws key v (Ok (Replace i j)) = set_value m n ws j.0 (live_record i.0 v)
plan_image m n ws key v (Ok (Split h i x shared)) = split_image m n ws h i.0 x shared key v
plan_image m n ws key v (Err r) = ws

-- the new leaf's index, or the equal leaf's
unfoldable pub plan_place : Result Plan Refusal → Result NodeIndex Refusal
plan_place (Ok (First h)) = Ok (record { 0 = h.nodes.head })
plan_place (Ok (Replace i j)) = Ok i
plan_place (Ok (Split h i x shared)) = Ok (record { 0 = h.nodes.head })
plan_place (Err r) = Err r

unfoldable pub opened_plan : ℕ → ℕ → List ℕ → Key → Result Header Refusal → Result Plan Refusal
opened_plan m n ws key (Ok h) = insert_plan m n h ws key
opened_plan m n ws key (Err r) = Err r

-- insert's answer, and the image afterwards
unfoldable pub insert_of : ℕ → ℕ → List ℕ → Key → Result NodeIndex Refusal
insert_of m n ws key = plan_place (opened_plan m n ws key (open_of m n ws))

unfoldable pub insert_image : ℕ → ℕ → List ℕ → Key → Value → List ℕ
insert_image m n ws key v = plan_image m n ws key v (opened_plan m n ws key (open_of m n ws))
