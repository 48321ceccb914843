-- Where the two arenas of an image stand: rules I4 to I8. The nodes' header is words 4 to 7, node 1 begins at word 8 and a node has
-- 12 words; the values' header is the four words behind the nodes, and a value record has 8 words.
use Rattle.std.specs.Prelude.{ℕ, ◌+◌, ◌-◌, ◌*◌, ◌≤◌, Bool, ◌&&◌, nat_le}
use Rattle.std.proofs.Common.{arith}
use Rattle.node_allocator.specs.declared.Arena.{Arena}
use Rattle.node_allocator.specs.declared.Arena.TheVariants.{Nodes, Values}
use Rattle.node_allocator.specs.declared.Register.{Register}
use Rattle.node_allocator.specs.declared.Register.TheVariants.{Left, Right, Parent, Value}

-- the first word of node i, of value record j behind n nodes, and of the values' header
abbrev pub node_at : ℕ → ℕ
node_at i = 12 * i - 4

abbrev pub value_at : ℕ → ℕ → ℕ
value_at n j = 12 * n + 8 * j + 4

abbrev pub values_at : ℕ → ℕ
values_at n = 12 * n + 8

-- the first of an arena's four header words: size (2), bump, head
unfoldable pub header_at : Arena → ℕ
header_at (Nodes n) = 4
header_at (Values n m) = values_at n

-- the first word of record i
unfoldable pub record_at : Arena → ℕ → ℕ
record_at (Nodes n) i = node_at i
record_at (Values n m) i = value_at n i

unfoldable pub capacity_of : Arena → ℕ
capacity_of (Nodes n) = n
capacity_of (Values n m) = m

unfoldable pub width_of : Arena → ℕ
width_of (Nodes n) = 12
width_of (Values n m) = 8

pub width_most : (a : Arena) → width_of a ≤ 12
unfolding width_of
width_most (Nodes n) = omega arith
width_most (Values n m) = omega arith

-- the four registers stand first in a record
abbrev pub register_of : Register → ℕ
register_of Left = 0
register_of Right = 1
register_of Parent = 2
register_of Value = 3

-- an index that names a record: index 0 means none
abbrev pub inside : Arena → ℕ → Bool
inside a i = nat_le 1 i && nat_le i (capacity_of a)
