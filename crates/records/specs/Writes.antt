-- The words after a record is stored as a whole. An index that names no record stores nothing, as in `node_allocator`; padding is never stored.
use Rattle.std.specs.Prelude.{List, cond, ℕ, ◌+◌, set}
use Rattle.words.specs.Wide.{set_wide}
use Rattle.keys.specs.declared.Key.{Key}
use Rattle.node_allocator.specs.Layout.{node_at, value_at, inside}
use Rattle.node_allocator.specs.declared.Arena.TheVariants.{Nodes, Values}
use Rattle.records.specs.declared.Node.{Node}
use Rattle.records.specs.declared.Value.{Value}
use Rattle.records.specs.declared.ValueRecord.{ValueRecord}

-- four words from place k on
unfoldable pub registers_set : List ℕ → ℕ → ℕ → ℕ → ℕ → ℕ → List ℕ
registers_set ws k a b c d = set (set (set (set ws k a) (k + 1) b) (k + 2) c) (k + 3) d

unfoldable pub key_set : List ℕ → ℕ → Key → List ℕ
key_set ws k key = set_wide (set_wide ws k key.low) (k + 2) key.high

-- the ten words of data of the node that begins at k
unfoldable pub node_set : List ℕ → ℕ → Node → List ℕ
node_set ws k x = set_wide (key_set (registers_set ws k x.left.0 x.right.0 x.parent.0 x.value.0) (k + 4) x.key) (k + 8) x.prefix

unfoldable pub set_node : ℕ → List ℕ → ℕ → Node → List ℕ
set_node n ws i x = cond (inside (Nodes n) i) (node_set ws (node_at i) x) ws

-- the eight words of the value record that begins at k
unfoldable pub value_set : List ℕ → ℕ → ValueRecord → List ℕ
value_set ws k r =
    set_wide (set_wide (registers_set ws k r.register0 r.register1 r.register2 r.register3) (k + 4) r.value.first) (k + 6) r.value.second

-- the value record of a leaf, which holds a value
unfoldable pub live_record : ℕ → Value → ValueRecord
live_record leaf v = record { register0 = 0; register1 = 0; register2 = 0; register3 = 0; value = v }

unfoldable pub set_value : ℕ → ℕ → List ℕ → ℕ → ValueRecord → List ℕ
set_value m n ws j r = cond (inside (Values n m) j) (value_set ws (value_at n j) r) ws
