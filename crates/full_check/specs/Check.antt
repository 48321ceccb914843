-- The full check's answer, and the scratch afterwards: rules T15 and T17.
use Rattle.std.specs.Prelude.{List, ◌++◌, Option, Some, None, Bool, true, false, cond, ◌&&◌, ℕ, length, replicate, drop, eqb, leb, Err, Ok, Result}
use Rattle.records.specs.declared.Refusal.{Refusal}
use Rattle.records.specs.declared.Header.{Header}
use Rattle.records.specs.declared.Refusal.TheVariants as no
use Rattle.inspection.specs.Tests.{shape_ok, root_ok}
use Rattle.inspection.specs.Opening.{open_of}
use Rattle.records.specs.Numbers.{zero_key}
use Rattle.full_check.specs.Walk.{Walk, walk_of}
use Rattle.full_check.specs.Chains.{node_chain, value_chain, nodes_unused, values_unused}

-- no value record is marked
abbrev pub unmarked : ℕ → List ℕ
unmarked m = replicate m 0

-- the walk from the root
unfoldable pub root_walk : ℕ → Header → List ℕ → List ℕ → Walk
root_walk n h ws marks = walk_of 129 n h ws h.nodes.size marks h.root.0 0 0 zero_key false

-- a walk passed and left no node to be reached
abbrev pub all_reached : Option ℕ → Bool
all_reached None = false
all_reached (Some rest) = eqb rest 0

-- the root keeps its rule, and the tree reaches as many nodes as node size says; an empty map has none
unfoldable pub tree_ok : ℕ → Header → List ℕ → List ℕ → Bool
tree_ok n h ws marks =
    cond (eqb h.values.size 0) true (root_ok h ws && all_reached (root_walk n h ws marks).rest)

-- all records of an image whose header passed
unfoldable pub records_ok : ℕ → ℕ → Header → List ℕ → Bool
records_ok m n h ws =
    tree_ok n h ws (unmarked m) && node_chain h ws && value_chain n h ws && nodes_unused n h ws && values_unused m n h ws

unfoldable pub opened_check : ℕ → ℕ → List ℕ → Result Header Refusal → Result Unit Refusal
opened_check m n ws (Ok h) = cond (records_ok m n h ws) (Ok tt) (Err no.Damaged)
opened_check m n ws (Err r) = Err r

-- the shape, a short scratch included
unfoldable pub check_shape : ℕ → ℕ → List ℕ → List ℕ → Bool
check_shape m n ws scratch = shape_ok m n (length ws) && leb m (length scratch)

-- the shape comes before everything; then the header and the records
unfoldable pub check_of : ℕ → ℕ → List ℕ → List ℕ → Result Unit Refusal
check_of m n ws scratch = cond (check_shape m n ws scratch) (opened_check m n ws (open_of m n ws)) (Err no.Shape)

-- the first m words are zero, the rest kept
unfoldable pub cleared : ℕ → List ℕ → List ℕ
cleared m scratch = unmarked m ++ drop m scratch

unfoldable pub check_scratch : ℕ → ℕ → List ℕ → List ℕ → List ℕ
check_scratch m n ws scratch = cond (check_shape m n ws scratch) (cleared m scratch) scratch
