-- The records of an image, each as a whole, and the words that are padding: rules I3 to I8.
use Rattle.std.specs.Prelude.{List, ℕ, ◌+◌, get_or}
use Rattle.words.specs.Wide.{wide_at}
use Rattle.keys.specs.declared.Key.{Key}
use Rattle.node_allocator.specs.Layout.{node_at, value_at, values_at}
use Rattle.node_allocator.specs.Steps.{counts_at}
use Rattle.records.specs.declared.Header.{Header}
use Rattle.records.specs.declared.Node.{Node}
use Rattle.records.specs.declared.Value.{Value}
use Rattle.records.specs.declared.ValueRecord.{ValueRecord}

-- a key is stored low word first
abbrev pub key_at : List ℕ → ℕ → Key
key_at ws k = record { high = wide_at ws (k + 2); low = wide_at ws k }

-- root, the four words of the nodes' header, and the four words behind n nodes
unfoldable pub header_of : ℕ → List ℕ → Header
header_of n ws = record { root = record { 0 = get_or ws 2 0 }; nodes = counts_at ws 4; values = counts_at ws (values_at n) }

-- the header's padding: words 0 and 1, and word 3
unfoldable pub front_of : List ℕ → ℕ
front_of ws = wide_at ws 0

unfoldable pub spare_of : List ℕ → ℕ
spare_of ws = get_or ws 3 0

-- Left, Right, Parent, Value, key (4), prefix length (2)
unfoldable pub node_of : List ℕ → ℕ → Node
node_of ws i =
    record {
      left = record { 0 = get_or ws (node_at i) 0 };
      right = record { 0 = get_or ws (node_at i + 1) 0 };
      parent = record { 0 = get_or ws (node_at i + 2) 0 };
      value = record { 0 = get_or ws (node_at i + 3) 0 };
      key = key_at ws (node_at i + 4);
      prefix = wide_at ws (node_at i + 8);
    }

-- a node's padding: its last two words
unfoldable pub padding_of : List ℕ → ℕ → ℕ
padding_of ws i = wide_at ws (node_at i + 10)

-- a leaf's node, and an inner node's
abbrev pub leaf_node : ℕ → Key → ℕ → Node
leaf_node parent key v =
    record { left = record { 0 = 0 }; right = record { 0 = 0 }; parent = record { 0 = parent }; value = record { 0 = v }; key = key; prefix = 128 }

abbrev pub inner_node : ℕ → Key → ℕ → ℕ → ℕ → Node
inner_node parent key prefix l r =
    record { left = record { 0 = l }; right = record { 0 = r }; parent = record { 0 = parent }; value = record { 0 = 0 }; key = key; prefix = prefix }

-- a node with another Parent
abbrev pub with_parent : ℕ → Node → Node
with_parent parent x = record { left = x.left; right = x.right; parent = record { 0 = parent }; value = x.value; key = x.key; prefix = x.prefix }

-- a node that links to nothing but its Parent, as one that is about to be freed does
abbrev pub bare_node : ℕ → Node → Node
bare_node parent x =
    record { left = record { 0 = 0 }; right = record { 0 = 0 }; parent = record { 0 = parent }; value = record { 0 = 0 }; key = x.key; prefix = x.prefix }

-- a value, first word first
abbrev pub value_of : List ℕ → ℕ → Value
value_of ws k = record { first = wide_at ws k; second = wide_at ws (k + 2) }

-- four registers, and the value
unfoldable pub record_from : List ℕ → ℕ → ValueRecord
record_from ws k =
    record {
      register0 = get_or ws k 0;
      register1 = get_or ws (k + 1) 0;
      register2 = get_or ws (k + 2) 0;
      register3 = get_or ws (k + 3) 0;
      value = value_of ws (k + 4);
    }

abbrev pub value_record_of : ℕ → List ℕ → ℕ → ValueRecord
value_record_of n ws j = record_from ws (value_at n j)
