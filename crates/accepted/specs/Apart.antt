-- The three places of a record exclude each other: a chain has no record twice, a node of the tree is not free, and a live value record is not free.
use Rattle.std.specs.Prelude.{◌≡◌, ◌≢◌, ℕ, ◌+◌, ◌≤◌}
use Rattle.std.proofs.Math.Path.{refl, sym, ap}
use Rattle.std.proofs.Common.{subst, ◌∙◌, inl, inr, arith}
use mathlib.Core.List.{List, [], ◌∷◌}
use Rattle.std.proofs.Math.ListN.{length}
use Rattle.records.specs.declared.Header.{Header}
use Rattle.records.specs.declared.Node.{Node}
use Rattle.records.specs.declared.ValueRecord.{ValueRecord}
use Rattle.records.specs.Records.{node_of}
use Rattle.lists.specs.Lists.{All}
use Rattle.trees.specs.Tree.{Tree, leaf, inner}
use Rattle.trees.specs.Nodes.{In}
use Rattle.accepted.specs.Rules.{Holds, Live, FreeNode, FreeValue, Chain}
use Rattle.accepted.specs.Held.{top_used}

-- ---- a chain has no record twice

module _ (Free : ℕ → Type 0) (next : ℕ → ℕ) (bump : ℕ) where
  -- where it begins determines it
  pub chain_unique : (i : ℕ) (xs ys : List ℕ) → Chain Free next bump i xs → Chain Free next bump i ys → xs ≡ ys
  unfolding Chain
  chain_unique i [] [] c d = refl
  chain_unique i [] (y ∷ ys) c d = absurd (omega (arith, d.here, d.used))
  chain_unique i (x ∷ xs) [] c d = absurd (omega (arith, c.here, c.used))
  chain_unique i (x ∷ xs) (y ∷ ys) c d =
      let here : x ≡ y = sym c.here ∙ d.here in
      let rest : xs ≡ ys = chain_unique (next x) xs ys c.rest (subst (λ (z : ℕ). Chain Free next bump (next z) ys) (sym here) d.rest) in
      λ ι. here ι ∷ rest ι

  -- from any record of it the rest of it is a chain, and shorter than `longer`
  later : (x longer : ℕ) (i : ℕ) (xs : List ℕ) → length xs ≤ longer → Chain Free next bump i xs
      → ((ys : List ℕ) → Chain Free next bump x ys → length ys ≤ longer → ⊥) → All (λ y. y ≢ x) xs
  unfolding Chain
  later x longer i [] l c f = tt
  later x longer i (y ∷ ys) l c f =
      ((λ e. f (y ∷ ys) (subst (λ (z : ℕ). Chain Free next bump z (y ∷ ys)) (c.here ∙ e) c) l), later x longer (next y) ys (omega (arith, l)) c.rest f)

  -- a record's index is not among those after it
  pub chain_once : (i x : ℕ) (xs : List ℕ) → Chain Free next bump i (x ∷ xs) → All (λ y. y ≢ x) xs
  unfolding Chain
  chain_once i x xs c =
      later x (length xs) (next x) xs (omega arith) c.rest
      (λ ys d s. omega (arith, s, ap length (chain_unique x ys (x ∷ xs) d (subst (λ (z : ℕ). Chain Free next bump z (x ∷ xs)) c.here c))))

-- ---- what is in the tree is not free

-- a leaf has no Left, an inner node has a Right; a free node has a Left and no Right
pub node_not_free : (h : Header) (ws : List ℕ) (parent low : ℕ) (t : Tree) (x : ℕ) → Holds h ws parent low t → In x t → FreeNode h x (node_of ws x) → ⊥
unfolding Holds
node_not_free h ws parent low (leaf i key v) x k q f = omega (arith, f.link.some, ap (λ (y : ℕ). (node_of ws y).left.0) q, ap (λ (y : Node). y.left.0) k.here)
node_not_free h ws parent low (inner i key p l r) x k (inl q) f =
    omega (arith, f.no_right, ap (λ (y : ℕ). (node_of ws y).right.0) q, ap (λ (y : Node). y.right.0) k.here, (top_used h ws i (p + 1) r k.on_right).0)
node_not_free h ws parent low (inner i key p l r) x k (inr (inl q)) f = node_not_free h ws i (p + 1) l x k.on_left q f
node_not_free h ws parent low (inner i key p l r) x k (inr (inr q)) f = node_not_free h ws i (p + 1) r x k.on_right q f

pub live_not_free : (h : Header) (j : ℕ) (r : ValueRecord) → Live r → FreeValue h j r → ⊥
live_not_free h j r l f = omega (arith, f.link.some, l.zero0)
