-- What the code of the turns and of the loop is proved by: a turn at a visited node, by what the visit came to.
use Rattle.std.specs.Prelude.{◌≡◌, List, true, false, ◌<◌, ◌≤◌}
use Rattle.std.proofs.Common.{◌∙◌}
use Prim.Native.Nat.{ℕ, ◌+◌}
use borrow.Author.Tests.{lt-ltb, le-ltb}
use Rattle.keys.specs.declared.Key.{Key}
use Rattle.keys.specs.Number.{number_of}
use Rattle.keys.specs.declared.Way.TheVariants.{Left, Right}
use Rattle.keys.specs.Ways.{way_of}
use Rattle.records.specs.declared.Header.{Header}
use Rattle.records.specs.declared.Node.{Node}
use Rattle.records.specs.declared.NodeIndex.{NodeIndex}
use Rattle.inspection.specs.declared.Visited.TheVariants.{Inner}
use Rattle.inspection.specs.declared.Visited.TheVariants as visited
use Rattle.inspection.specs.Visit.{visit_of, visit_passed}
use Rattle.descent.specs.declared.Stop.TheVariants.{Leaf, Parted}
use Rattle.std.specs.declared.ops.ControlFlow.TheVariants.{Break}
use Rattle.descent.specs.Descent.{down, child_of, shared_with, lookup_turn, bits_turn, turn_at}
use Rattle.descent.specs.Laws.{rises, again, halts, turn_inner, turn_leaf, turn_damaged, turn_side, turn_parts}

-- the loop takes a step
pub ruleset steps = (rises, again, halts)

module _ (key : Key) (h : Header) (ws : List ℕ) (i above : NodeIndex) (low : ℕ) (x : Node) where
  -- a lookup's turn at an inner node whose prefix the key shares
  module _ (e : visit_of h ws i.0 above.0 low ≡ Inner x) where
    pub turn_left : way_of (number_of key) (number_of x.key) x.prefix ≡ Left → turn_at (lookup_turn key) h ws i above low ≡ down x.left (x.prefix + 1)
    turn_left q = turn_side key h ws i above low x e false q

    pub turn_right : way_of (number_of key) (number_of x.key) x.prefix ≡ Right → turn_at (lookup_turn key) h ws i above low ≡ down x.right (x.prefix + 1)
    turn_right q = turn_side key h ws i above low x e true q

    -- a turn by the bits alone
    pub bits_inner : turn_at (bits_turn key) h ws i above low ≡ down (child_of key x) (x.prefix + 1)
    unfolding bits_turn
    bits_inner =
        let t = turn_inner (bits_turn key) h ws i above low x e in
        t.0 ∙ rw t.1

  -- at a leaf
  module _ (e : visit_of h ws i.0 above.0 low ≡ visited.Leaf x) where
    pub turn_parted : shared_with key x < x.prefix → turn_at (lookup_turn key) h ws i above low ≡ Break (Parted i x (shared_with key x))
    unfolding lookup_turn
    turn_parted l = (turn_leaf (lookup_turn key) h ws i above low x e).0 ∙ rw (lt-ltb (shared_with key x) x.prefix l)

    pub turn_found : x.prefix ≤ shared_with key x → turn_at (lookup_turn key) h ws i above low ≡ Break (Leaf i x)
    unfolding lookup_turn
    turn_found l =
        let t = turn_leaf (lookup_turn key) h ws i above low x e in
        t.0 ∙ rw (le-ltb (shared_with key x) x.prefix l, t.1)

    pub bits_leaf : turn_at (bits_turn key) h ws i above low ≡ Break (Leaf i x)
    unfolding bits_turn
    bits_leaf =
        let t = turn_leaf (bits_turn key) h ws i above low x e in
        t.0 ∙ rw t.1

pub ruleset lookup_turning = (visit_passed, turn_left, turn_right, turn_parts, turn_parted, turn_found, turn_damaged)

pub ruleset bits_turning = (visit_passed, bits_inner, bits_leaf, turn_damaged)
