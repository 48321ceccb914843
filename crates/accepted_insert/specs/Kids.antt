-- The node that is split: its children by its record, what its stores make of each of them, and the records that are
-- stored in its place.
use Rattle.std.specs.Prelude.{◌≡◌, refl, List, ◌≢◌, ◌⊎◌, Bool, true, false, cond, ℕ, ◌+◌, ◌^◌, ◌≤◌, ◌<◌, eqb}
use Rattle.std.proofs.Common.{sym, ap, subst, ◌∙◌, inl, inr, arith, eq-eqb}
use Rattle.keys.specs.declared.Key.{Key}
use Rattle.keys.specs.Number.{Fits}
use Rattle.node_allocator.specs.declared.Register.TheVariants.{Parent}
use Rattle.records.specs.declared.Header.{Header}
use Rattle.records.specs.declared.Node.{Node}
use Rattle.records.specs.Records.{node_of, leaf_node, with_parent}
use Rattle.trees.specs.Tree.{Tree, leaf, inner, top}
use Rattle.trees.specs.Nodes.{In, Child, in_top}
use Rattle.record_views.specs.Nodes.{changed, with_register}
use Rattle.record_views.specs.Small.{FitsNode}
use Rattle.accepted.specs.Rules.{Holds}
use Rattle.accepted.specs.Held.{top_used, once}

pub record Kids (h : Header) (ws : List ℕ) (x : Tree) : Type 0 where
  pub left_used : (node_of ws (top x)).left.0 < h.nodes.bump
  pub right_used : (node_of ws (top x)).right.0 < h.nodes.bump
  pub names : (y : ℕ) → Child y x → (y ≡ (node_of ws (top x)).left.0) ⊎ (y ≡ (node_of ws (top x)).right.0)
  pub named : (y : ℕ) → 1 ≤ y → (y ≡ (node_of ws (top x)).left.0) ⊎ (y ≡ (node_of ws (top x)).right.0) → Child y x
  pub below : (y : ℕ) → Child y x → y ≢ top x

pub kids_of : (h : Header) (ws : List ℕ) (parent low : ℕ) (x : Tree) → Holds h ws parent low x → Kids h ws x
unfolding Holds
kids_of h ws parent low (leaf i a w) k =
    let left : (node_of ws i).left.0 ≡ 0 = ap (λ (z : Node). z.left.0) k.here in
    let right : (node_of ws i).right.0 ≡ 0 = ap (λ (z : Node). z.right.0) k.here in
    record {
      left_used = omega (arith, k.index_used);
      right_used = omega (arith, k.index_used);
      names = λ y q. absurd q;
      named = λ y l q. absurd (none y l left right q);
      below = λ y q. absurd q;
    }
  where
    none : (y : ℕ) → 1 ≤ y → (node_of ws i).left.0 ≡ 0 → (node_of ws i).right.0 ≡ 0
        → (y ≡ (node_of ws i).left.0) ⊎ (y ≡ (node_of ws i).right.0) → ⊥
    none y l left right (inl e) = omega arith
    none y l left right (inr e) = omega arith
kids_of h ws parent low (inner i a p l r) k =
    let left : (node_of ws i).left.0 ≡ top l = ap (λ (z : Node). z.left.0) k.here in
    let right : (node_of ws i).right.0 ≡ top r = ap (λ (z : Node). z.right.0) k.here in
    record {
      left_used = omega (arith, left, (top_used h ws i (p + 1) l k.on_left).1);
      right_used = omega (arith, right, (top_used h ws i (p + 1) r k.on_right).1);
      names = λ y q. rw (left, right) q;
      named = λ y s q. rw (left, right) at q;
      below = under;
    }
  where
    under : (y : ℕ) → (y ≡ top l) ⊎ (y ≡ top r) → y ≢ i
    under y (inl e) q = (once h ws parent low (inner i a p l r) k).0 (subst (λ z. In z l) (sym e ∙ q) (in_top l))
    under y (inr e) q = (once h ws parent low (inner i a p l r) k).1 (subst (λ z. In z r) (sym e ∙ q) (in_top r))

-- a child is told of the copy, by whichever of the two names it is known
pub told : (copy y l r : ℕ) (z : Node) → (y ≡ l) ⊎ (y ≡ r)
    → changed r (with_register Parent copy) y (changed l (with_register Parent copy) y z) ≡ with_parent copy z
told copy y l r z (inl e) = rw (eq-eqb y l e) (go (eqb y r))
  where
    go : (b : Bool) → cond b (with_parent copy z) (with_parent copy z) ≡ with_parent copy z
    go true = refl
    go false = refl
told copy y l r z (inr e) = rw (eq-eqb y r e) (go (eqb y l))
  where
    go : (b : Bool) → with_parent copy (cond b (with_parent copy z) z) ≡ with_parent copy z
    go true = refl
    go false = refl

-- a leaf's node fits
pub leaf_fits : (parent : ℕ) (key : Key) (v : ℕ) → parent < 2 ^ 32 → Fits key → v < 2 ^ 32
    → FitsNode (leaf_node parent key v)
leaf_fits parent key v p f l =
    record {
      left_fits = omega arith;
      right_fits = omega arith;
      parent_fits = p;
      value_fits = l;
      key_fits = f;
      prefix_fits
          = omega arith;
    }
