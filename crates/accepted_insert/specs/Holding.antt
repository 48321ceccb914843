-- The tree after insert is held: where node x is split, the new leaf, the copy and x's children hold what the split asks
-- for, and every other node what it held.
use Rattle.std.proofs.Math.Path.{◌≡◌, refl, ap}
use Rattle.std.proofs.Common.{sym, subst, ◌∙◌, inl, inr, arith, leb-false}
use Rattle.std.specs.Prelude.{List, ◌≢◌, ◌⊎◌, Bool, ℕ, ◌+◌, ◌≤◌, ◌<◌, leb}
use Rattle.std.proofs.Math.Bool.{true, false, cond}
use Rattle.std.proofs.Math.Option.{Option, none, some}
use Rattle.keys.specs.declared.Key.{Key}
use Rattle.records.specs.declared.Header.{Header}
use Rattle.records.specs.Records.{node_of, leaf_node, with_parent}
use Rattle.lists.specs.Entries.{same}
use Rattle.trees.specs.Keys.{shared, bit, Same, test_same, unequal}
use Rattle.trees.specs.Tree.{Tree, leaf, inner, fork, top, key_of, prefix_of, relabel, Ordered}
use Rattle.trees.specs.Nodes.{In, Child, is_top, in_child, top_relabel}
use Rattle.trees.specs.Lookup.{lookup}
use Rattle.trees.specs.Insert.{split, insert}
use Rattle.trees.specs.Paths.{rising}
use Rattle.trees.specs.Changes.{target, in_target, top_insert}
use Rattle.accepted.specs.Rules.{Holds, FreeNode}
use Rattle.accepted.specs.Held.{top_used, in_range, top_parent, Once, once}
use Rattle.accepted.specs.Frame.{holds_moved}
use Rattle.accepted.specs.Forks.{sided_node, held_fork, in_node, in_far, fork_once, fork_rebuilt}
use Rattle.accepted.specs.Apart.{node_not_free}

-- a node of the tree: it lies below the bump and is not free
pub record Busy (h : Header) (ws : List ℕ) (y : ℕ) : Type 0 where
  pub low : 1 ≤ y
  pub high : y < h.nodes.bump
  pub not_free : FreeNode h y (node_of ws y) → ⊥

pub in_busy : (h : Header) (ws : List ℕ) (parent low : ℕ) (t : Tree) (y : ℕ) → Holds h ws parent low t → In y t
    → Busy h ws y
in_busy h ws parent low t y k q =
    let r = in_range h ws parent low t y k q in
    record { low = r.0; high = r.1; not_free = node_not_free h ws parent low t y k q }

prefix_fork : (i : ℕ) (key : Key) (c : ℕ) (b : Bool) (near far : Tree) → prefix_of (fork i key c b near far) ≡ c
prefix_fork i key c true near far = refl
prefix_fork i key c false near far = refl

-- keys that are not the same part somewhere
parted : (key a : Key) → same key a ≡ false → shared key a < 128
parted key a t = go (test_same key a)
  where
    go : Same key a → shared key a < 128
    go (inl s) = absurd (unequal (same key a) s.1 t)
    go (inr s) = s.0

module _ (h g : Header) (ws vs : List ℕ) (key : Key) (cell new copy : ℕ) where
  -- the records after the split of x
  pub record SplitAt (x : Tree) : Type 0 where
    pub nodes : h.nodes.bump ≤ g.nodes.bump
    pub values : h.values.bump ≤ g.values.bump
    pub new_some : 1 ≤ new
    pub new_used : new < g.nodes.bump
    pub copy_some : 1 ≤ copy
    pub copy_used : copy < g.nodes.bump
    pub cell_some : 1 ≤ cell
    pub cell_used : cell < g.values.bump
    pub differ : new ≢ copy
    pub at_new : node_of vs new ≡ leaf_node (top x) key cell
    pub at_copy : node_of vs copy ≡ with_parent (top x) (node_of ws (top x))
    pub at_top : node_of vs (top x)
        ≡ sided_node (node_of ws (top x)).parent.0 key (shared key (key_of x)) (bit key (shared key (key_of x))) new copy
    pub at_child : (y : ℕ) → Child y x → node_of vs y ≡ with_parent copy (node_of ws y)
    pub at_other : (y : ℕ) → Busy h ws y → y ≢ top x → (Child y x → ⊥) → node_of vs y ≡ node_of ws y

  -- the copy holds what x was
  holds_copy : (parent low : ℕ) (x : Tree) → SplitAt x → Holds h ws parent low x → shared key (key_of x) < prefix_of x
      → Holds g vs (top x) (shared key (key_of x) + 1) (relabel copy x)
  unfolding Holds
  holds_copy parent low (leaf i a w) s k d =
      record {
        index_some = s.copy_some;
        index_used = s.copy_used;
        here = s.at_copy ∙ ap (with_parent i) k.here;
        rises = omega arith;
        value_some = k.value_some;
        value_used = omega (arith, k.value_used, s.values);
      }
  holds_copy parent low (inner i a p l r) s k d =
      record {
        index_some = s.copy_some;
        index_used = s.copy_used;
        here = s.at_copy ∙ ap (with_parent i) k.here;
        rises = omega arith;
        short = k.short;
        two = k.two;
        on_left = holds_moved h g ws vs s.nodes s.values i copy (p + 1) l (s.at_child (top l) (inl refl))
            (λ y q n. s.at_other y (in_busy h ws i (p + 1) l y k.on_left q) (λ e. apart.0 (subst (λ z. In z l) e q))
            (only_left y q n)) k.on_left;
        on_right = holds_moved h g ws vs s.nodes s.values i copy (p + 1) r (s.at_child (top r) (inr refl))
            (λ y q n. s.at_other y (in_busy h ws i (p + 1) r y k.on_right q) (λ e. apart.1 (subst (λ z. In z r) e q))
            (only_right y q n)) k.on_right;
      }
    where
      apart : Once h ws (inner i a p l r)
      apart = once h ws parent low (inner i a p l r) k

      only_left : (y : ℕ) → In y l → y ≢ top l → Child y (inner i a p l r) → ⊥
      only_left y q n (inl e) = n e
      only_left y q n (inr e) = apart.2 y q (is_top r e)

      only_right : (y : ℕ) → In y r → y ≢ top r → Child y (inner i a p l r) → ⊥
      only_right y q n (inl e) = apart.2 y (is_top l e) q
      only_right y q n (inr e) = n e

  holds_new : (x : Tree) → SplitAt x → shared key (key_of x) < 128
      → Holds g vs (top x) (shared key (key_of x) + 1) (leaf new key cell)
  unfolding Holds
  holds_new x s m =
      record {
        index_some = s.new_some;
        index_used = s.new_used;
        here = s.at_new;
        rises = omega arith;
        value_some = s.cell_some;
        value_used = s.cell_used;
      }

  holds_split : (parent low : ℕ) (x : Tree) → SplitAt x → Holds h ws parent low x → shared key (key_of x) < prefix_of x
      → shared key (key_of x) < 128 → low ≤ shared key (key_of x)
      → Holds g vs parent low (split key cell new copy x)
  holds_split parent low x s k d short rises =
      held_fork g vs parent low (top x) key (shared key (key_of x)) (bit key (shared key (key_of x))) (leaf new key cell)
      (relabel copy x) (record {
        index_some = (top_used h ws parent low x k).0;
        index_used = omega (arith, (top_used h ws parent low x k).1, s.nodes);
        here = s.at_top ∙ λ ι. sided_node (top_parent h ws parent low x k ι) key (shared key (key_of x))
            (bit key (shared key (key_of x))) new (sym (top_relabel copy x) ι);
        rises = rises;
        short = short;
        two = λ e. s.differ (e ∙ top_relabel copy x);
        on_near = holds_new x s short;
        on_far = holds_copy parent low x s k d;
      })

  -- what lies in x lies in any tree whose descent ends at x
  from_target : (x t : Tree) (y : ℕ) → target key t ≡ x → (y ≡ top x) ⊎ Child y x → In y t
  from_target x t y e (inl q) = in_target key t y (subst (λ z. In y z) (sym e) (is_top x q))
  from_target x t y e (inr q) = in_target key t y (subst (λ z. In y z) (sym e) (in_child y x q))

  module _ (x : Tree) (s : SplitAt x) where
    -- an inner node above x: the child on the side b changes
    holds_above : (parent low i : ℕ) (a : Key) (p : ℕ) (b : Bool) (near near' far : Tree)
        → Holds h ws parent low (fork i a p b near far) → top near' ≡ top near → target key near ≡ x
        → Holds g vs i (p + 1) near' → Holds g vs parent low (fork i a p b near' far)
    holds_above parent low i a p b near near' far k same e under =
        let o = fork_once i a p h ws parent low b near far k in
        let busy : (y : ℕ) → In y (fork i a p b near far) → Busy h ws y =
        λ y q. in_busy h ws parent low (fork i a p b near far) y k q in
        fork_rebuilt h g ws vs s.nodes s.values parent low i a p b near near' far k same
        (s.at_other i (busy i (in_node i a p b near far)) (λ q. o.0 (from_target x near i e (inl q)))
        (λ q. o.0 (from_target x near i e (inr q))))
        (λ y z. s.at_other y (busy y (in_far i a p b near far y z)) (λ q. o.2 y (from_target x near y e (inl q)) z)
        (λ q. o.2 y (from_target x near y e (inr q)) z))
        under

    pub holds_insert : (parent low : ℕ) (t : Tree) → Holds h ws parent low t → Ordered (insert key cell new copy t)
        → lookup key t ≡ none → low ≤ prefix_of (insert key cell new copy t) → target key t ≡ x
        → Holds g vs parent low (insert key cell new copy t)
    unfolding Holds
    holds_insert parent low (leaf i a w) k o miss rises e = go (same key a) refl miss rises
      where
        go : (q : Bool) → same key a ≡ q → cond {A = Option (ℕ × ℕ)} q (some (i, w)) none ≡ none
            → low ≤ prefix_of (cond q (leaf i a w) (split key cell new copy (leaf i a w)))
            → Holds g vs parent low (cond q (leaf i a w) (split key cell new copy (leaf i a w)))
        go true t d m = let z : ◌≡◌ {A = ℕ} 0 1 = cc in absurd (omega arith)
        go false t d m =
            let short : shared key a < 128 = parted key a t in
            holds_split parent low (leaf i a w) (subst SplitAt (sym e) s) k short short
            (omega
            (arith, m, prefix_fork i key (shared key a) (bit key (shared key a)) (leaf new key cell) (leaf copy a w)))
    holds_insert parent low (inner i a p l r) k o miss rises e =
        go (leb p (shared key a)) (bit key p) refl o miss rises e (holds_insert i (p + 1) l k.on_left)
        (holds_insert i (p + 1) r k.on_right)
      where
        L : Tree
        L = insert key cell new copy l

        R : Tree
        R = insert key cell new copy r

        go : (q b : Bool) → leb p (shared key a) ≡ q
            → Ordered (cond q (cond b (inner i a p l R) (inner i a p L r)) (split key cell new copy (inner i a p l r)))
            → cond q (cond b (lookup key r) (lookup key l)) none ≡ none
            → low ≤ prefix_of
            (cond q (cond b (inner i a p l R) (inner i a p L r)) (split key cell new copy (inner i a p l r)))
            → cond q (cond b (target key r) (target key l)) (inner i a p l r) ≡ x
            → (Ordered L → lookup key l ≡ none → p + 1 ≤ prefix_of L → target key l ≡ x → Holds g vs i (p + 1) L)
            → (Ordered R → lookup key r ≡ none → p + 1 ≤ prefix_of R → target key r ≡ x → Holds g vs i (p + 1) R)
            → Holds g vs parent low
            (cond q (cond b (inner i a p l R) (inner i a p L r)) (split key cell new copy (inner i a p l r)))
        go true true t o d m e f g =
            holds_above parent low i a p true r R l k (top_insert key cell new copy r) e
            (g o.on_right d (omega (arith, rising a true R o.low o.right o.on_right)) e)
        go true false t o d m e f g =
            holds_above parent low i a p false l L r k (top_insert key cell new copy l) e
            (f o.on_left d (omega (arith, rising a false L o.low o.left o.on_left)) e)
        go false b t o d m e f g =
            let close : shared key a < p = leb-false p (shared key a) t in
            holds_split parent low (inner i a p l r) (subst SplitAt (sym e) s) k close (omega (arith, k.short))
            (omega
            (arith, m, prefix_fork i key (shared key a) (bit key (shared key a)) (leaf new key cell) (inner copy a p l r)))
