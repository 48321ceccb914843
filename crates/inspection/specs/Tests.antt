-- The tests of a record: rules T1 to T14, a definition for each and in their order. A range a..b has both its ends.
use Rattle.std.specs.Prelude.{Bool, ◌&&◌, ◌||◌, not, true, false, cond, List, ℕ, ◌+◌, ◌-◌, ◌*◌, eqb, leb, ltb}
use Rattle.std.specs.Bool.{beq}
use Rattle.node_allocator.specs.declared.Counts.{Counts}
use Rattle.node_allocator.specs.Steps.{link_ok}
use Rattle.records.specs.declared.Header.{Header}
use Rattle.records.specs.declared.Node.{Node}
use Rattle.records.specs.declared.ValueRecord.{ValueRecord}
use Rattle.records.specs.Records.{header_of, front_of, spare_of, node_of, padding_of, value_record_of}
use Rattle.records.specs.Layout.{most_values, most_nodes, image_length}

-- M and N lie within their limits
abbrev pub limits_ok : ℕ → ℕ → Bool
limits_ok m n = leb 1 m && leb m most_values && leb (2 * m) n && leb n most_nodes

-- and the image has as many words as they ask for
abbrev pub shape_ok : ℕ → ℕ → ℕ → Bool
shape_ok m n count = limits_ok m n && eqb count (image_length m n)

-- the same by the buffer's length in bytes, as the code tests it (`bytes_shape` of Room)
abbrev pub bytes_ok : ℕ → ℕ → ℕ → Bool
bytes_ok m n len = limits_ok m n && eqb len (4 * image_length m n)

-- ---- Header

-- bump in 1..limit+1, head in 1..bump, size at most bump-1; the head equals its bump exactly if size equals bump-1
unfoldable pub arena_ok : Counts → ℕ → Bool
arena_ok c limit =
    leb 1 c.bump
    && leb c.bump (limit + 1)
    && leb 1 c.head
    && leb c.head c.bump
    && leb c.size (c.bump - 1)
    && beq (eqb c.head c.bump) (eqb c.size (c.bump - 1))

-- n at most M; node size is 2n-1, or 0 if n is 0; root is 1 if n > 0, else 0; if n is 0, the node head is 1
unfoldable pub counts_ok : ℕ → Header → Bool
counts_ok m h =
    leb h.values.size m
    && eqb h.nodes.size (2 * h.values.size - 1)
    && eqb h.root.0 (cond (eqb h.values.size 0) 0 1)
    && (not (eqb h.values.size 0) || eqb h.nodes.head 1)

-- the counts, and both arenas
unfoldable pub header_ok : ℕ → ℕ → Header → Bool
header_ok m n h = counts_ok m h && arena_ok h.nodes n && arena_ok h.values m

-- padding zero: words 0 and 1, and word 3
abbrev pub front_ok : List ℕ → Bool
front_ok ws = eqb (front_of ws) 0

abbrev pub spare_ok : List ℕ → Bool
spare_ok ws = eqb (spare_of ws) 0

-- the header of an image: its padding, and what it says
unfoldable pub top_ok : ℕ → ℕ → List ℕ → Bool
top_ok m n ws = (front_ok ws && spare_ok ws) && header_ok m n (header_of n ws)

-- ---- Visited node

-- index in 1..bump-1
abbrev pub used_node : Header → ℕ → Bool
used_node h i = leb 1 i && ltb i h.nodes.bump

-- padding zero
unfoldable pub padding_ok : List ℕ → ℕ → Bool
padding_ok ws i = eqb (padding_of ws i) 0

-- a leaf's form, as far as its node tells: Left and Right 0, prefix 128
abbrev pub leaf_form : Node → Bool
leaf_form x = eqb x.left.0 0 && eqb x.right.0 0 && eqb x.prefix 128

-- a leaf: Value in 1..value bump-1
abbrev pub is_leaf : Header → Node → Bool
is_leaf h x = (leb 1 x.value.0 && ltb x.value.0 h.values.bump) && leaf_form x

-- two children, different, and a prefix of 0..127
abbrev pub inner_form : Node → Bool
inner_form x = not (eqb x.left.0 0) && not (eqb x.right.0 0) && not (eqb x.left.0 x.right.0) && ltb x.prefix 128

-- an inner node: Value 0
abbrev pub is_fork : Node → Bool
is_fork x = eqb x.value.0 0 && inner_form x

-- what can be tested of a node by itself: index, padding, a leaf or an inner node
unfoldable pub form_ok : Header → List ℕ → ℕ → Bool
form_ok h ws i = used_node h i && padding_ok ws i && (is_leaf h (node_of ws i) || is_fork (node_of ws i))

-- Parent names the node we came from (0 at the root); the prefix length is at least `low`, which is one more than that node's (0 at the root)
unfoldable pub node_ok : Header → List ℕ → ℕ → ℕ → ℕ → Bool
node_ok h ws i above low = form_ok h ws i && eqb (node_of ws i).parent.0 above && leb low (node_of ws i).prefix

-- the root is a leaf exactly if n is 1
unfoldable pub root_ok : Header → List ℕ → Bool
root_ok h ws = used_node h h.root.0 && beq (not (eqb (node_of ws h.root.0).value.0 0)) (eqb h.values.size 1)

-- the children of node i, whose record is x, as visited nodes; a leaf has none
unfoldable pub kids_ok : Header → List ℕ → ℕ → Node → Bool
kids_ok h ws i x =
    cond (eqb x.value.0 0)
    (cond (ltb x.prefix 128) (node_ok h ws x.left.0 i (x.prefix + 1) && node_ok h ws x.right.0 i (x.prefix + 1)) false)
    true

-- ---- Value record of a leaf, the record's own index and the leaf's: four zero registers

unfoldable pub live_value : ℕ → List ℕ → ℕ → ℕ → Bool
live_value n ws leaf j =
    eqb (value_record_of n ws j).register0 0
    && eqb (value_record_of n ws j).register1 0
    && eqb (value_record_of n ws j).register2 0
    && eqb (value_record_of n ws j).register3 0

-- ---- Free node, below bump: Value, Right and padding 0, Left in 1..bump and not itself, Parent below bump (0 for node 1), prefix at most 128

unfoldable pub free_node : Header → List ℕ → ℕ → Node → Bool
free_node h ws i x =
    padding_ok ws i
    && (eqb x.value.0 0
    && eqb x.right.0 0
    && link_ok h.nodes.bump i x.left.0
    && ltb x.parent.0 h.nodes.bump
    && (not (eqb i 1) || eqb x.parent.0 0)
    && leb x.prefix 128)

-- Free value records: register 0 as Left, the others 0. At or above bump a record is never used: `never_used` of `node_allocator`.
unfoldable pub free_value : Header → ℕ → ValueRecord → Bool
free_value h j r =
    link_ok h.values.bump j r.register0 && eqb r.register1 0 && eqb r.register2 0 && eqb r.register3 0
