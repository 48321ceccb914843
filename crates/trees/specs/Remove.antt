-- Remove from a tree: it "copies the sibling into the parent" of the key's leaf, and "compares no prefix on its way, only the leaf" (the rules S).
-- The tree stays ordered, and its entries are those of the ascending list after the remove.
use Rattle.std.specs.Prelude.{◌≡◌, refl, Bool, true, false, cond, not, [], ℕ, ◌<◌}
use Rattle.keys.specs.declared.Key.{Key}
use Rattle.keys.specs.Number.{Fits}
use Rattle.lists.specs.Entries.{same, erase}
use Rattle.trees.specs.Keys.{bit, unequal, chosen}
use Rattle.trees.specs.Tree.{Tree, leaf, inner, fork, relabel, entries, Each, each_fork, each_relabel, Side, Ordered, ordered_relabel, ordered_fork}

-- ---- the steps

-- whether t is the leaf of k
abbrev pub hit : Key → Tree → Bool
hit k (leaf i a v) = same k a
hit k (inner i a p l r) = false

-- the node i, its child on the side b turned to near; where that child is the key's leaf, it is gone and i takes the content of its sibling far
abbrev pub close : ℕ → Key → ℕ → Bool → Bool → Tree → Tree → Tree
close i a p b gone near far = cond gone (relabel i far) (fork i a p b near far)

-- Below an inner node. A lone leaf has no parent: it is its map's last key, and the map is empty without it.
abbrev pub remove : Key → Tree → Tree
remove k (leaf i a v) = leaf i a v
remove k (inner i a p l r) = cond (bit k p) (close i a p true (hit k r) (remove k r) l) (close i a p false (hit k l) (remove k l) r)

-- ---- a fact of every key stays, and so does the order

each_close : (P : Key → Type 0) (i : ℕ) (a : Key) (p : ℕ) (b gone : Bool) (near far : Tree) → Each P near → Each P far → Each P (close i a p b gone near far)
each_close P i a p b true near far h g = each_relabel P i far g
each_close P i a p b false near far h g = each_fork P i a p b near far h g

pub each_remove : (P : Key → Type 0) (k : Key) (t : Tree) → Each P t → Each P (remove k t)
each_remove P k (leaf i a v) h = h
each_remove P k (inner i a p l r) h =
    chosen (Each P) (bit k p) (close i a p true (hit k r) (remove k r) l) (close i a p false (hit k l) (remove k l) r)
    (each_close P i a p true (hit k r) (remove k r) l (each_remove P k r h.1) h.0)
    (each_close P i a p false (hit k l) (remove k l) r (each_remove P k l h.0) h.1)

ordered_close : (i : ℕ) {a : Key} {p : ℕ} (b gone : Bool) (near far : Tree) → Fits a → p < 128 → Each (Side a p b) near → Each (Side a p (not b)) far
    → Ordered near → Ordered far → Ordered (close i a p b gone near far)
ordered_close i b true near far f s h g x y = ordered_relabel i far y
ordered_close i b false near far f s h g x y = ordered_fork i b near far f s h g x y

-- Remove keeps the order.
pub ordered_remove : (k : Key) (t : Tree) → Ordered t → Ordered (remove k t)
ordered_remove k (leaf i a v) o = o
ordered_remove k (inner i a p l r) o =
    chosen Ordered (bit k p) (close i a p true (hit k r) (remove k r) l) (close i a p false (hit k l) (remove k l) r)
    (ordered_close i true (hit k r) (remove k r) l o.fits o.low (each_remove _ k r o.right) o.left (ordered_remove k r o.on_right) o.on_left)
    (ordered_close i false (hit k l) (remove k l) r o.fits o.low (each_remove _ k l o.left) o.right (ordered_remove k l o.on_left) o.on_right)

-- ---- the entries

pub erase_hit : (k : Key) (t : Tree) → hit k t ≡ true → erase k (entries t) ≡ []
erase_hit k (leaf i a v) e = rw e
erase_hit k (inner i a p l r) e = absurd (unequal false e refl)
