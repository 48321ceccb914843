-- Rules T1 to T14 as rules: what is so of a header, a node, a value record and a free record that pass. Nothing here is a test, a step or a call. That padding
-- is zero (T1, T6, T11) is said of the whole image, in Accepted.
use Rattle.std.specs.Prelude.{◌≡◌, refl, List, [], ◌∷◌, ◌≢◌, ◌↔◌, ℕ, ◌+◌, ◌-◌, ◌*◌, ◌≤◌, ◌<◌}
use Rattle.node_allocator.specs.declared.Counts.{Counts}
use Rattle.records.specs.declared.Header.{Header}
use Rattle.records.specs.declared.Node.{Node}
use Rattle.records.specs.declared.Value.{Value}
use Rattle.records.specs.declared.ValueRecord.{ValueRecord}
use Rattle.records.specs.Records.{node_of, leaf_node, inner_node, value_record_of}
use Rattle.records.specs.Writes.{live_record}
use Rattle.trees.specs.Tree.{Tree, leaf, inner, top}

-- ---- Header

-- bump in 1..limit+1, head in 1..bump, size at most bump-1; a head equals its bump exactly if size equals bump-1
pub record ArenaRules (c : Counts) (limit : ℕ) : Type 0 where
  pub bump_some : 1 ≤ c.bump
  pub bump_most : c.bump ≤ limit + 1
  pub head_some : 1 ≤ c.head
  pub head_most : c.head ≤ c.bump
  pub size_most : c.size ≤ c.bump - 1
  pub chain_empty : (c.head ≡ c.bump) ↔ (c.size ≡ c.bump - 1)

-- n at most M; node size is 2n-1, or 0 if n is 0; root is 1 if n > 0, else 0; if n is 0, the node head is 1
pub record HeaderRules (m n : ℕ) (h : Header) : Type 0 where
  pub size_most : h.values.size ≤ m
  pub node_size : h.nodes.size ≡ 2 * h.values.size - 1
  pub root_none : h.values.size ≡ 0 → h.root.0 ≡ 0
  pub root_one : h.values.size ≢ 0 → h.root.0 ≡ 1
  pub empty_head : h.values.size ≡ 0 → h.nodes.head ≡ 1
  pub nodes : ArenaRules h.nodes n
  pub values : ArenaRules h.values m

-- ---- Visited node: a tree of nodes

-- The image holds the tree below the node `parent`: each node's index is in 1..bump-1, its record is a leaf's (Value in 1..value bump-1) or an inner node's (Left and Right its children's
-- indexes, different), Parent names the node above, and prefix lengths rise; `low` is one more than the prefix length above.
unfoldable pub Holds : Header → List ℕ → ℕ → ℕ → Tree → Type 0
Holds h ws parent low (leaf i key v) =
    record { index_some : 1 ≤ i; index_used : i < h.nodes.bump; here : node_of ws i ≡ leaf_node parent key v; rises : low ≤ 128; value_some : 1 ≤ v; value_used : v < h.values.bump }
Holds h ws parent low (inner i key p l r) =
    record {
      index_some : 1 ≤ i;
      index_used : i < h.nodes.bump;
      here : node_of ws i ≡ inner_node parent key p (top l) (top r);
      rises : low ≤ p;
      short : p < 128;
      two : top l ≢ top r;
      on_left : Holds h ws i (p + 1) l;
      on_right : Holds h ws i (p + 1) r;
    }

-- ---- Value record of a leaf: four zero registers

pub record Live (r : ValueRecord) : Type 0 where
  pub zero0 : r.register0 ≡ 0
  pub zero1 : r.register1 ≡ 0
  pub zero2 : r.register2 ≡ 0
  pub zero3 : r.register3 ≡ 0

pub live_record_lem : (i : ℕ) (v : Value) → Live (live_record i v)
unfolding live_record
live_record_lem i v = record { zero0 = refl; zero1 = refl; zero2 = refl; zero3 = refl }

-- ---- Free records: each names the next one, and the last the bump

-- Left in 1..bump and not itself
pub record Link (bump i next : ℕ) : Type 0 where
  pub some : 1 ≤ next
  pub most : next ≤ bump
  pub other : next ≢ i

-- Value and Right 0, Left a link, Parent below bump (0 for node 1), prefix at most 128
pub record FreeNode (h : Header) (i : ℕ) (x : Node) : Type 0 where
  pub no_value : x.value.0 ≡ 0
  pub no_right : x.right.0 ≡ 0
  pub link : Link h.nodes.bump i x.left.0
  pub parent_used : x.parent.0 < h.nodes.bump
  pub first_parent : i ≡ 1 → x.parent.0 ≡ 0
  pub prefix_most : x.prefix ≤ 128

-- register 0 as Left, the others 0
pub record FreeValue (h : Header) (j : ℕ) (r : ValueRecord) : Type 0 where
  pub link : Link h.values.bump j r.register0
  pub zero1 : r.register1 ≡ 0
  pub zero2 : r.register2 ≡ 0
  pub zero3 : r.register3 ≡ 0

-- from i through these records, each below the bump and free, to the bump
unfoldable pub Chain : (ℕ → Type 0) → (ℕ → ℕ) → ℕ → ℕ → List ℕ → Type 0
Chain Free next bump i [] = i ≡ bump
Chain Free next bump i (j ∷ js) = record { here : i ≡ j; some : 1 ≤ j; used : j < bump; free : Free j; rest : Chain Free next bump (next j) js }

abbrev pub NodeChain : Header → List ℕ → List ℕ → Type 0
NodeChain h ws xs = Chain (λ i. FreeNode h i (node_of ws i)) (λ i. (node_of ws i).left.0) h.nodes.bump h.nodes.head xs

abbrev pub ValueChain : ℕ → Header → List ℕ → List ℕ → Type 0
ValueChain n h ws xs = Chain (λ j. FreeValue h j (value_record_of n ws j)) (λ j. (value_record_of n ws j).register0) h.values.bump h.values.head xs
