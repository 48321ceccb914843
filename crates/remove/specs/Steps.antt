-- The words that remove leaves, and its answer: rules S10 to S12. Records are freed in the Rust's order, the leaf's value record, its node, the sibling's
-- node; each record that changes is stored as a whole, so that the words are those that `remove_leaf` and `migrate` of critbit.rs leave.
use Rattle.std.specs.Prelude.{List, ℕ, set, Err, Ok, Result}
use Rattle.records.specs.declared.Value.{Value}
use Rattle.records.specs.declared.Refusal.{Refusal}
use Rattle.keys.specs.declared.Key.{Key}
use Rattle.node_allocator.specs.declared.Arena.TheVariants.{Nodes, Values}
use Rattle.node_allocator.specs.declared.Register.TheVariants as register
use Rattle.node_allocator.specs.Steps.{set_register, remove_counts, remove_image}
use Rattle.records.specs.declared.Header.{Header}
use Rattle.records.specs.declared.Node.{Node}
use Rattle.records.specs.Records.{with_parent, bare_node}
use Rattle.records.specs.Writes.{set_node}
use Rattle.inspection.specs.Opening.{open_of}
use Rattle.remove.specs.declared.Plan.{Plan}
use Rattle.remove.specs.declared.Plan.TheVariants.{Lone, Cut}
use Rattle.remove.specs.Plan.{remove_plan}

-- the value record of leaf i, whose record is x, is freed; then its node, which links to nothing
unfoldable pub leaf_freed : ℕ → ℕ → List ℕ → Header → ℕ → Node → List ℕ
leaf_freed m n ws h i x = remove_image (Nodes n) (set_node n (remove_image (Values n m) ws x.value.0 h.values) i (bare_node 0 x)) i h.nodes

-- a lone leaf: the root is none, and the leaf is freed
unfoldable pub lone_image : ℕ → ℕ → List ℕ → Header → ℕ → Node → List ℕ
lone_image m n ws h i x = leaf_freed m n (set ws 2 0) h i x

-- the sibling, whose record is z, moves into node p, whose Parent stays, and its children hang below p: 0 names none
unfoldable pub moved : ℕ → List ℕ → ℕ → ℕ → Node → List ℕ
moved n ws p above z =
    set_register (Nodes n) (set_register (Nodes n) (set_node n ws p (with_parent above z)) z.left.0 p register.Parent) z.right.0 p register.Parent

-- the sibling's old node is freed. Its Parent word stays
unfoldable pub place_freed : ℕ → List ℕ → Header → ℕ → ℕ → Node → List ℕ
place_freed n ws h i s z = remove_image (Nodes n) (set_node n ws s (bare_node z.parent.0 z)) s (remove_counts (Nodes n) h.nodes i)

-- the leaf i is freed, and the sibling s moves into the node above, whose record is y
unfoldable pub cut_image : ℕ → ℕ → List ℕ → Header → ℕ → Node → Node → ℕ → Node → List ℕ
cut_image m n ws h i x y s z = place_freed n (moved n (leaf_freed m n ws h i x) x.parent.0 y.parent.0 z) h i s z

unfoldable pub plan_image : ℕ → ℕ → List ℕ → Result Plan Refusal → List ℕ
plan_image m n ws (Ok (Lone h i x v)) = lone_image m n ws h i.0 x
plan_image m n ws (Ok (Cut h i x y s z v)) = cut_image m n ws h i.0 x y s.0 z
plan_image m n ws (Err r) = ws

-- the value that the leaf's record held
unfoldable pub value_gone : Result Plan Refusal → Result Value Refusal
value_gone (Ok (Lone h i x v)) = Ok v
value_gone (Ok (Cut h i x y s z v)) = Ok v
value_gone (Err r) = Err r

unfoldable pub opened_plan : ℕ → List ℕ → Key → Result Header Refusal → Result Plan Refusal
opened_plan n ws key (Ok h) = remove_plan n h ws key
opened_plan n ws key (Err r) = Err r

-- remove's answer, and the image afterwards
unfoldable pub remove_of : ℕ → ℕ → List ℕ → Key → Result Value Refusal
remove_of m n ws key = value_gone (opened_plan n ws key (open_of m n ws))

unfoldable pub removed_image : ℕ → ℕ → List ℕ → Key → List ℕ
removed_image m n ws key = plan_image m n ws (opened_plan n ws key (open_of m n ws))
