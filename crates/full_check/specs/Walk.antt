-- The walk over the tree: rule T15, that the tree reaches as many nodes as node size says, that every leaf below an inner node shares the first p bits of
-- that node's key and has bit p 0 on the left and 1 on the right, and that the n leaves name n different value records. The rule for leaves is tested between
-- a node and its children: a child's key shares its parent's p bits and has the side's bit, and so has every key that shares more of the child's. Value
-- records that a leaf names are marked in the scratch.
use Rattle.std.specs.Prelude.{List, Option, Some, None, Bool, true, false, cond, ◌&&◌, ◌||◌, ℕ, zero, suc, ◌+◌, ◌-◌, get_or, set, eqb, leb, ltb}
use Rattle.std.specs.Bool.{beq}
use Rattle.std.specs.Option.{is_some}
use Rattle.keys.specs.declared.Key.{Key}
use Rattle.keys.specs.Number.{number_of}
use Rattle.keys.specs.Common.{common, bit_of}
use Rattle.records.specs.declared.Header.{Header}
use Rattle.records.specs.declared.Node.{Node}
use Rattle.records.specs.Records.{node_of}
use Rattle.inspection.specs.Tests.{node_ok, live_value}

-- what a walk comes to: how many of the nodes that node size counts it left for the others to reach, if it passed, and the marks it left
pub record Walk : Type 0 where
  pub rest : Option ℕ
  pub marks : List ℕ

abbrev pub failed : List ℕ → Walk
failed marks = record { rest = None; marks = marks }

abbrev pub passed : Walk → Bool
passed w = is_some w.rest

-- a child's key shares the first p bits of its parent's key and has bit p on its side; `low` is p + 1, and 0 at the root, which has no parent
unfoldable pub side_ok : ℕ → Key → Bool → Node → Bool
side_ok low key right x =
    eqb low 0
    || (leb (low - 1) (common (number_of key) (number_of x.key)) && beq (bit_of (number_of x.key) (low - 1)) right)

-- a visited node passes its test and the rule of the sides, and is among those that node size counts
unfoldable pub visit_ok : Header → List ℕ → ℕ → ℕ → ℕ → ℕ → Key → Bool → Bool
visit_ok h ws rest i above low key right = node_ok h ws i above low && (side_ok low key right (node_of ws i) && ltb 0 rest)

-- the value record of leaf i passes its test and was named by no leaf before
unfoldable pub leaf_walk : ℕ → List ℕ → ℕ → List ℕ → ℕ → Node → Walk
leaf_walk n ws rest marks i x =
    cond (live_value n ws i x.value.0 && eqb (get_or marks (x.value.0 - 1) 0) 0)
    (record { rest = Some rest; marks = set marks (x.value.0 - 1) 1 })
    (failed marks)

abbrev pub go_on : Option ℕ → Walk → (ℕ → Walk) → Walk
go_on None l right = l
go_on (Some more) l right = right more

-- the right half goes on where the left half ended, if that passed
unfoldable pub joined : Walk → (ℕ → List ℕ → Walk) → Walk
joined l right = go_on l.rest l (λ more. right more l.marks)

-- node i, reached from the node above, whose key is `key`, on the side `right`, with so many nodes to reach; prefix lengths rise, so that 129 nodes deep is enough
unfoldable pub walk_of : ℕ → ℕ → Header → List ℕ → ℕ → List ℕ → ℕ → ℕ → ℕ → Key → Bool → Walk
walk_of zero n h ws rest marks i above low key right = failed marks
walk_of (suc fuel) n h ws rest marks i above low key right =
    cond (visit_ok h ws rest i above low key right)
    (cond (eqb (node_of ws i).value.0 0)
    (joined
    (walk_of fuel n h ws (rest - 1) marks (node_of ws i).left.0 i ((node_of ws i).prefix + 1) (node_of ws i).key false)
    (λ more marked. walk_of fuel n h ws more marked (node_of ws i).right.0 i ((node_of ws i).prefix + 1) (node_of ws i).key true))
    (leaf_walk n ws (rest - 1) marks i (node_of ws i)))
    (failed marks)
