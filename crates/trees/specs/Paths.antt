-- Paths. On the way down "the prefix length exceeds that node's" we came from (the rules T), since the leaves say so. So no path has more
-- nodes than the smaller of the number of entries and 129; and 129 is reached: "B and all 128 powers of two: B's path is 129 nodes" ("Bench examples").
use Rattle.std.specs.Prelude.{Bool, true, false, cond, ℕ, zero, suc, ◌+◌, ◌*◌, ◌/◌, ◌%◌, ◌^◌, ◌≤◌, ◌<◌, max}
use Rattle.std.proofs.Common.{sym, ◌∙◌, arith}
use Rattle.keys.specs.declared.Key.{Key}
use Rattle.keys.specs.Number.{Fits}
use Rattle.trees.specs.Keys.{shared, bit, turn, ultra, apart, deeper}
use Rattle.trees.specs.Tree.{Tree, leaf, inner, prefix_of, Each, first, each_first, each_fits, Side, Ordered}
use Rattle.trees.specs.Insert.{insert}

-- the nodes on the longest path
abbrev pub depth : Tree → ℕ
depth (leaf i k v) = 1
depth (inner i k p l r) = suc (max (depth l) (depth r))

-- the nodes on the path that k's bits take
abbrev pub path_of : Key → Tree → ℕ
path_of k (leaf i a v) = 1
path_of k (inner i a p l r) = suc (cond (bit k p) (path_of k r) (path_of k l))

pub path_depth : (k : Key) (t : Tree) → path_of k t ≤ depth t
path_depth k (leaf i a v) = omega arith
path_depth k (inner i a p l r) = go (bit k p) (path_depth k l) (path_depth k r)
  where
    go : (b : Bool) → path_of k l ≤ depth l → path_of k r ≤ depth r → suc (cond b (path_of k r) (path_of k l)) ≤ suc (max (depth l) (depth r))
    go true x y = omega arith
    go false x y = omega arith

-- ---- prefix lengths rise downward

pub rising : (k : Key) {p : ℕ} (b : Bool) (t : Tree) → p < 128 → Each (Side k p b) t → Ordered t → p < prefix_of t
rising k b (leaf i a v) s h o = s
rising k {p} b (inner i a q l r) s h o = omega (
  arith,
  deeper (each_first Fits l (each_fits l o.on_left)) (each_first Fits r (each_fits r o.on_right)) s near (x.turns ∙ sym y.turns),
  apart (first l) (first r) (each_first _ l o.left).turns (each_first _ r o.right).turns,
)
  where
    x : Side k p b (first l)
    x = each_first _ l h.0

    y : Side k p b (first r)
    y = each_first _ r h.1

    near : p ≤ shared (first l) (first r)
    near = omega (arith, x.shares, y.shares, turn k (first l), ultra (first l) k (first r))

-- ---- 129 is reached

abbrev pub key_at : ℕ → Key
key_at n = record { high = n / 2 ^ 64; low = n % 2 ^ 64 }

-- B, and then the first d powers of two
abbrev pub powers : ℕ → Tree
powers zero = leaf 1 (key_at 0) 1
powers (suc d) = insert (key_at (2 ^ d)) (d + 2) (2 * d + 2) (2 * d + 3) (powers d)
