-- The descents from the root: rules S2 to S4. A descent tests each node that it visits and then turns: down to a child, or to a halt. What a lookup, a
-- remove and the search for an end do differently is their turn alone.
use Rattle.std.specs.Prelude.{List, Bool, cond, ℕ, zero, suc, ◌+◌, eqb, ltb}
use Rattle.keys.specs.declared.Key.{Key}
use Rattle.keys.specs.Number.{number_of}
use Rattle.keys.specs.Common.{common, bit_of}
use Rattle.records.specs.declared.Header.{Header}
use Rattle.records.specs.declared.Node.{Node}
use Rattle.records.specs.declared.NodeIndex.{NodeIndex}
use Rattle.records.specs.Records.{node_of}
use Rattle.inspection.specs.Tests.{node_ok, root_ok}
use Rattle.descent.specs.declared.Stop.{Stop}
use Rattle.descent.specs.declared.Stop.TheVariants.{Leaf, Parted, Empty, Damaged}
use Rattle.std.specs.declared.ops.ControlFlow.{ControlFlow}
use Rattle.std.specs.declared.ops.ControlFlow.TheVariants.{Continue, Break}

-- What a turn comes to: the child to go to and the least prefix length that it may have, or the end.
abbrev pub Turn : Type 0
Turn = ControlFlow Stop (NodeIndex × ℕ)

abbrev pub down : NodeIndex → ℕ → Turn
down c p = Continue (c, p)

-- ---- turns, at a tested node x of index i

abbrev pub is_inner : Node → Bool
is_inner x = eqb x.value.0 0

-- the child on the side of the key's bit at the prefix length
unfoldable pub child_of : Key → Node → NodeIndex
child_of key x = cond (bit_of (number_of key) x.prefix) x.right x.left

-- how many leading bits a key shares with a node's key
abbrev pub shared_with : Key → Node → ℕ
shared_with key x = common (number_of key) (number_of x.key)

-- Lookup descends by the key's bit at the prefix length; it stops at the first node whose prefix the key does not share. A leaf's prefix is the whole key.
unfoldable pub lookup_turn : Key → NodeIndex → Node → Turn
lookup_turn key i x =
    cond (ltb (shared_with key x) x.prefix)
    (Break (Parted i x (shared_with key x)))
    (cond (is_inner x) (down (child_of key x) (x.prefix + 1)) (Break (Leaf i x)))

-- Remove compares no prefix on its way
unfoldable pub bits_turn : Key → NodeIndex → Node → Turn
bits_turn key i x = cond (is_inner x) (down (child_of key x) (x.prefix + 1)) (Break (Leaf i x))

-- `find_min` goes to the left, `find_max` to the right
abbrev pub side_of : Bool → Node → NodeIndex
side_of right x = cond right x.right x.left

unfoldable pub end_turn : Bool → NodeIndex → Node → Turn
end_turn right i x = cond (is_inner x) (down (side_of right x) (x.prefix + 1)) (Break (Leaf i x))

-- ---- the descent

-- at node i, reached from the node above, with the least prefix length that it may have
unfoldable pub turn_at : (NodeIndex → Node → Turn) → Header → List ℕ → NodeIndex → NodeIndex → ℕ → Turn
turn_at turn h ws i above low = cond (node_ok h ws i.0 above.0 low) (turn i (node_of ws i.0)) (Break Damaged)

abbrev pub follow : (NodeIndex → ℕ → Stop) → Turn → Stop
follow go (Continue (i, low)) = go i low
follow go (Break s) = s

-- each node's prefix length exceeds that of the node above and is at most 128: so 129 nodes are enough
unfoldable pub descend : (NodeIndex → Node → Turn) → ℕ → Header → List ℕ → NodeIndex → NodeIndex → ℕ → Stop
descend turn zero h ws i above low = Damaged
descend turn (suc fuel) h ws i above low = follow (λ c next. descend turn fuel h ws c i next) (turn_at turn h ws i above low)

abbrev pub no_node : NodeIndex
no_node = record { 0 = 0 }

-- from the root, by the root's rule; with n = 0 nothing is visited
unfoldable pub from_root : (NodeIndex → Node → Turn) → Header → List ℕ → Stop
from_root turn h ws = cond (eqb h.values.size 0) Empty (cond (root_ok h ws) (descend turn 129 h ws h.root no_node 0) Damaged)

abbrev pub find_of : Header → List ℕ → Key → Stop
find_of h ws key = from_root (lookup_turn key) h ws

-- the leaf that a key's bits lead to
abbrev pub leaf_of : Header → List ℕ → Key → Stop
leaf_of h ws key = from_root (bits_turn key) h ws

abbrev pub end_of : Header → List ℕ → Bool → Stop
end_of h ws right = from_root (end_turn right) h ws
