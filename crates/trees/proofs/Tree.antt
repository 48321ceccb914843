-- The order of an ordered tree's leaves.
use Rattle.std.specs.Prelude.{true, false}
use Rattle.keys.specs.Number.{Fits}
use Rattle.lists.specs.Lists.{pairs_append, across}
use Rattle.lists.specs.Entries.{Before, Rising}
use Rattle.trees.specs.Tree.{Tree, entries, each_entries, each_both, Side, Ordered, each_fits, sides, leaf, inner}

-- The entries of an ordered tree stand in strictly ascending order of their keys.
pub ascending : (t : Tree) → Ordered t → Rising (entries t)
ascending (leaf i k v) o = (tt, tt)
ascending (inner i k p l r) o =
    pairs_append Before (entries l) (entries r) (ascending l o.on_left) (ascending r o.on_right)
    (across (λ a b x y. sides k p x.0 x.1 y) (entries l) (entries r)
    (each_entries (λ a. Fits a × Side k p false a) l (each_both (λ a f h. (f, h)) l (each_fits l o.on_left) o.left))
    (each_entries (Side k p true) r o.right))
