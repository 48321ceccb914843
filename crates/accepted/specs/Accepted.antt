-- An accepted image: rule T15 and those that it names, clause by clause.
use Rattle.std.specs.Prelude.{◌≡◌, List, ℕ, ◌+◌, ◌-◌, ◌*◌, ◌^◌, ◌≤◌, ◌<◌, length, get_or}
use Rattle.std.proofs.Math.Option.{none, some}
use Rattle.words.specs.Zeros.{Zeros}
use Rattle.node_allocator.specs.Layout.{node_at, value_at}
use Rattle.records.specs.declared.Header.{Header}
use Rattle.records.specs.declared.Value.{Value}
use Rattle.records.specs.Records.{header_of, front_of, spare_of, padding_of, value_record_of}
use Rattle.inspection.specs.Room.{Shaped}
use Rattle.lists.specs.Lists.{All}
use Rattle.trees.specs.Tree.{Tree, leaf, inner, top}
use Rattle.trees.specs.Map.{Map, list_of, OrderedMap}
use Rattle.trees.specs.Values.{Numbered}
use Rattle.accepted.specs.Rules.{HeaderRules, Holds, Live, NodeChain, ValueChain}

-- ---- parts of the rule on trees

-- how many nodes a tree has
unfoldable pub nodes_in : Tree → ℕ
nodes_in (leaf i key v) = 1
nodes_in (inner i key p l r) = nodes_in l + nodes_in r + 1

-- the tree hangs at the root; there is none exactly in an empty map
unfoldable pub HoldsMap : Header → List ℕ → Map → Type 0
HoldsMap h ws none = h.values.size ≡ 0
HoldsMap h ws (some t) = record { at_root : top t ≡ h.root.0; counted : nodes_in t ≡ h.nodes.size; held : Holds h ws 0 0 t }

-- ---- the rules

pub record Accepted (m n : ℕ) (ws : List ℕ) : Type 0 where
  -- the image's words are 32-bit words, as many as M and N within their limits ask for
  pub shape : Shaped m n (length ws)
  pub words : (k : ℕ) → get_or ws k 0 < 2 ^ 32
  -- padding is zero: words 0, 1 and 3, and the last two of each node's words
  pub front : front_of ws ≡ 0
  pub spare : spare_of ws ≡ 0
  pub padding : (i : ℕ) → 1 ≤ i → i ≤ n → padding_of ws i ≡ 0
  -- the header passes
  pub header : HeaderRules m n (header_of n ws)
  -- the tree reaches as many nodes as node size says, each passing as a visited node
  pub tree : Map
  pub holds : HoldsMap (header_of n ws) ws tree
  -- every leaf below an inner node shares the first p bits of that node's key, has bit p 0 on the left and 1 on the right
  pub ordered : OrderedMap tree
  -- the n leaves name n different value records, each with four zero registers
  pub different : Numbered (list_of tree)
  pub live : All (λ e. Live (value_record_of n ws e.1)) (list_of tree)
  -- each chain from head ends at bump after bump-1-size free records
  pub free_nodes : List ℕ
  pub node_chain : NodeChain (header_of n ws) ws free_nodes
  pub node_count : length free_nodes ≡ (header_of n ws).nodes.bump - 1 - (header_of n ws).nodes.size
  pub free_values : List ℕ
  pub value_chain : ValueChain n (header_of n ws) ws free_values
  pub value_count : length free_values ≡ (header_of n ws).values.bump - 1 - (header_of n ws).values.size
  -- at or above bump, up to N and M: zero words
  pub nodes_unused : Zeros ws (node_at (header_of n ws).nodes.bump) (12 * (n + 1 - (header_of n ws).nodes.bump))
  pub values_unused : Zeros ws (value_at n (header_of n ws).values.bump) (8 * (m + 1 - (header_of n ws).values.bump))

-- the value that value record j holds
abbrev pub value_at_record : ℕ → List ℕ → ℕ → Value
value_at_record n ws j = (value_record_of n ws j).value
