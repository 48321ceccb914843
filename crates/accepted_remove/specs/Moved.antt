-- A cut on an accepted image, node by node: the leaf and the sibling's old place are free, the sibling stands in the
-- place of the node above, and every node outside the spot is as it was.
use Rattle.std.specs.Prelude.{◌≡◌, refl, List, ◌≢◌, ◌⊎◌, ℕ, ◌+◌, ◌≤◌, ◌<◌}
use Rattle.std.proofs.Math.Path.{sym, ap}
use Rattle.std.proofs.Common.{subst, ◌∙◌, arith}
use Rattle.std.proofs.Math.Logic.{inl, inr}
use Rattle.keys.specs.declared.Key.{Key}
use Rattle.node_allocator.specs.declared.Arena.TheVariants.{Nodes}
use Rattle.node_allocator.specs.declared.Register.TheVariants.{Left}
use Rattle.node_allocator.specs.Layout.{capacity_of}
use Rattle.node_allocator.specs.Steps.{remove_counts}
use Rattle.arena_laws.specs.Places.{Inside}
use Rattle.arena_laws.specs.Taken.{remove_add}
use Rattle.records.specs.declared.Header.{Header}
use Rattle.records.specs.declared.Node.{Node}
use Rattle.records.specs.Records.{header_of, node_of, with_parent, bare_node}
use Rattle.remove.specs.Steps.{cut_image}
use Rattle.trees.specs.Tree.{Tree, leaf, inner, fork, top, prefix_of, relabel}
use Rattle.trees.specs.Nodes.{In, Child, in_top, is_top, in_child}
use Rattle.record_views.specs.Nodes.{changed, with_register}
use Rattle.record_views.specs.Values.{with_link}
use Rattle.record_views.specs.Header.{nodes_fit, values_fit}
use Rattle.record_views.specs.Small.{FitsNode, node_fits}
use Rattle.record_views.specs.Stored.{Stored, stays}
use Rattle.accepted.specs.Rules.{Holds}
use Rattle.accepted.specs.Accepted.{Accepted}
use Rattle.accepted.specs.Held.{top_used, once, in_range}
use Rattle.accepted.specs.Frame.{holds_relabelled, accepted_bounds}
use Rattle.accepted.specs.Forks.{in_node, in_near, in_far, fork_once}
use Rattle.accepted_remove.specs.Spot.{Spot, leaf_there, fork_there, leaf_here}
use Rattle.accepted_remove.specs.Stores.{cuts, less_two, cut_stored, cuts_other, cuts_leaf, cuts_parent, cuts_place, cuts_kid}

-- ---- the children of a node that is held

module _ (h : Header) (ws : List ℕ) where
  abbrev Kid : ℕ → Tree → Type 0
  Kid y t = (y ≡ (node_of ws (top t)).left.0) ⊎ (y ≡ (node_of ws (top t)).right.0)

  kid_child : (parent low : ℕ) (t : Tree) → Holds h ws parent low t → (y : ℕ) → 1 ≤ y → Kid y t → Child y t
  unfolding Holds
  kid_child parent low (leaf i key v) k y l (inl e) = absurd (omega (arith, ap (λ (x : Node). x.left.0) k.here))
  kid_child parent low (leaf i key v) k y l (inr e) = absurd (omega (arith, ap (λ (x : Node). x.right.0) k.here))
  kid_child parent low (inner i key p a b) k y l (inl e) = inl (e ∙ ap (λ (x : Node). x.left.0) k.here)
  kid_child parent low (inner i key p a b) k y l (inr e) = inr (e ∙ ap (λ (x : Node). x.right.0) k.here)

  child_kid : (parent low : ℕ) (t : Tree) → Holds h ws parent low t → (y : ℕ) → Child y t → Kid y t
  unfolding Holds
  child_kid parent low (leaf i key v) k y e = absurd e
  child_kid parent low (inner i key p a b) k y (inl e) = inl (e ∙ sym (ap (λ (x : Node). x.left.0) k.here))
  child_kid parent low (inner i key p a b) k y (inr e) = inr (e ∙ sym (ap (λ (x : Node). x.right.0) k.here))

  child_below : (parent low : ℕ) (t : Tree) → Holds h ws parent low t → (y : ℕ) → Child y t → y ≢ top t
  child_below parent low (leaf i key v) k y e = absurd e
  child_below parent low (inner i key p a b) k y (inl e) = λ z. (once h ws parent low (inner i key p a b) k).0 (is_top a (sym z ∙ e))
  child_below parent low (inner i key p a b) k y (inr e) = λ z. (once h ws parent low (inner i key p a b) k).1 (is_top b (sym z ∙ e))

  -- Left and Right are below the bump: none at a leaf, nodes at an inner node
  kids_used : (parent low : ℕ) (t : Tree) → Holds h ws parent low t → ((node_of ws (top t)).left.0 < h.nodes.bump) × ((node_of ws (top t)).right.0 < h.nodes.bump)
  unfolding Holds
  kids_used parent low (leaf i key v) k = (rw k.here (omega (arith, k.index_used)), rw k.here (omega (arith, k.index_used)))
  kids_used parent low (inner i key p a b) k = (rw k.here (top_used h ws i (p + 1) a k.on_left).1, rw k.here (top_used h ws i (p + 1) b k.on_right).1)

  prefix_rises : (parent low : ℕ) (t : Tree) → Holds h ws parent low t → low ≤ prefix_of t
  unfolding Holds
  prefix_rises parent low (leaf i key v) k = k.rises
  prefix_rises parent low (inner i key p a b) k = k.rises

-- ---- the image after a cut

module _ {m n : ℕ} {ws : List ℕ} (a : Accepted m n ws) {key : Key} {i j : ℕ} {t : Tree} (s : Spot (header_of n ws) ws key i j t) where
  abbrev h : Header
  h = header_of n ws

  abbrev sibling : ℕ
  sibling = top s.far

  abbrev z : Node
  z = node_of ws sibling

  abbrev pub cut_there : List ℕ
  cut_there = cut_image m n ws h i (leaf_there s) (fork_there s) sibling z

  pub leaf_range : (1 ≤ i) × (i < h.nodes.bump) × (1 ≤ j) × (j < h.values.bump)
  unfolding Holds
  leaf_range = (s.held.on_near.index_some, s.held.on_near.index_used, s.held.on_near.value_some, s.held.on_near.value_used)

  pub sibling_range : (1 ≤ sibling) × (sibling < h.nodes.bump)
  sibling_range = top_used h ws s.p (s.prefix + 1) s.far s.held.on_far

  -- all stores
  pub cut_step : Stored m n h.nodes.bump h.values.bump ws cut_there
      (cuts i (leaf_there s) h.nodes.head s.p s.parent sibling z (remove_counts (Nodes n) h.nodes i).head)
      (changed j (with_link h.values.head)) (less_two m n h i j sibling)
  cut_step =
      let kids = kids_used h ws s.p (s.prefix + 1) s.far s.held.on_far in
      cut_stored (stays (accepted_bounds a) ws (omega (arith, a.shape.words))) h (nodes_fit n ws a.words) (values_fit n ws a.words) i (leaf_there s) (fork_there s) sibling z
      leaf_range.0 leaf_range.1 leaf_range.2 leaf_range.3 (subst FitsNode (leaf_here s) (node_fits ws i a.words)) s.held.index_used
      (subst FitsNode s.held.here (node_fits ws s.p a.words)) sibling_range.0 sibling_range.1 (node_fits ws sibling a.words) kids.0 kids.1

  -- ---- no node stands twice

  twice : (s.p ≢ i) × (In s.p s.far → ⊥) × ((y : ℕ) → y ≡ i → In y s.far → ⊥)
  twice = fork_once s.p s.label s.prefix h ws s.parent s.low s.side (leaf i s.own j) s.far s.whole

  not_leaf : (y : ℕ) → In y s.far → y ≢ i
  not_leaf y q e = twice.2 y e q

  not_parent : (y : ℕ) → In y s.far → y ≢ s.p
  not_parent y q e = twice.1 (subst (λ x. In x s.far) e q)

  -- a node that is no child of the sibling
  not_kid : (y : ℕ) → 1 ≤ y → (Child y s.far → ⊥) → (y ≢ z.left.0) × (y ≢ z.right.0)
  not_kid y l f =
      let child = kid_child h ws s.p (s.prefix + 1) s.far s.held.on_far y l in
      ((λ e. f (child (inl e))), λ e. f (child (inr e)))

  -- ---- each node afterwards

  after : (y : ℕ) → 1 ≤ y → y < h.nodes.bump
      → node_of cut_there y ≡ cuts i (leaf_there s) h.nodes.head s.p s.parent sibling z (remove_counts (Nodes n) h.nodes i).head y (node_of ws y)
  after y l u = cut_step.node y l (omega (arith, a.header.nodes.bump_most))

  node_other : (y : ℕ) → 1 ≤ y → y < h.nodes.bump → y ≢ i → y ≢ s.p → y ≢ sibling → (Child y s.far → ⊥) → node_of cut_there y ≡ node_of ws y
  node_other y l u di dp ds f = after y l u ∙ cuts_other i (leaf_there s) _ s.p _ sibling z _ y (node_of ws y) di dp ds (not_kid y l f).0 (not_kid y l f).1

  pub node_leaf : node_of cut_there i ≡ with_register Left h.nodes.head (bare_node 0 (leaf_there s))
  node_leaf =
      let k = not_kid i leaf_range.0 (λ q. not_leaf i (in_child i s.far q) refl) in
      after i leaf_range.0 leaf_range.1
      ∙ cuts_leaf i (leaf_there s) h.nodes.head s.p _ sibling z _ (node_of ws i) (λ e. twice.0 (sym e)) (λ e. not_leaf sibling (in_top s.far) (sym e)) k.0 k.1

  leaf_named : Inside (Nodes n) i
  unfolding capacity_of
  leaf_named = record { low = leaf_range.0; high = omega (arith, leaf_range.1, a.header.nodes.bump_most) }

  pub node_place : node_of cut_there sibling ≡ with_register Left i (bare_node z.parent.0 z)
  node_place =
      after sibling sibling_range.0 sibling_range.1 ∙ cuts_place i (leaf_there s) _ s.p _ sibling z _ z
      ∙ ap (λ (k : ℕ). with_register Left k (bare_node z.parent.0 z)) (remove_add (Nodes n) ws i h.nodes leaf_named)

  node_parent : node_of cut_there s.p ≡ with_parent s.parent z
  node_parent =
      let k = not_kid s.p s.held.index_some (λ q. twice.1 (in_child s.p s.far q)) in
      after s.p s.held.index_some s.held.index_used
      ∙ cuts_parent i (leaf_there s) _ s.p s.parent sibling z _ (node_of ws s.p) (λ e. not_parent sibling (in_top s.far) (sym e)) k.0 k.1

  node_kid : (y : ℕ) → Child y s.far → node_of cut_there y ≡ with_parent s.p (node_of ws y)
  node_kid y q =
      let inside = in_child y s.far q in
      let r = in_range h ws s.p (s.prefix + 1) s.far y s.held.on_far inside in
      after y r.0 r.1
      ∙ cuts_kid i (leaf_there s) _ s.p _ sibling z _ y (node_of ws y) (not_leaf y inside) (not_parent y inside)
      (child_below h ws s.p (s.prefix + 1) s.far s.held.on_far y q) (child_kid h ws s.p (s.prefix + 1) s.far s.held.on_far y q)

  -- a node outside the spot stays
  pub node_outside : (y : ℕ) → 1 ≤ y → y < h.nodes.bump → (In y t → ⊥) → node_of cut_there y ≡ node_of ws y
  node_outside y l u f =
      node_other y l u (λ e. out (in_near s.p s.label s.prefix s.side (leaf i s.own j) s.far y e))
      (λ e. out (subst (λ x. In x spot) (sym e) (in_node s.p s.label s.prefix s.side (leaf i s.own j) s.far)))
      (λ e. out (in_sibling (is_top s.far e))) (λ q. out (in_sibling (in_child y s.far q)))
    where
      spot : Tree
      spot = fork s.p s.label s.prefix s.side (leaf i s.own j) s.far

      out : In y spot → ⊥
      out q = f (subst (λ (u : Tree). In y u) (sym s.is) q)

      in_sibling : In y s.far → In y spot
      in_sibling q = in_far s.p s.label s.prefix s.side (leaf i s.own j) s.far y q

  -- the sibling stands in the parent's place
  pub closed : (g : Header) → h.nodes.bump ≤ g.nodes.bump → h.values.bump ≤ g.values.bump → Holds g cut_there s.parent s.low (relabel s.p s.far)
  closed g b c =
      holds_relabelled h g ws cut_there b c s.p (s.prefix + 1) s.parent s.low s.p s.far s.held.index_some (omega (arith, s.held.index_used))
      (omega (arith, s.held.rises, prefix_rises h ws s.p (s.prefix + 1) s.far s.held.on_far)) node_parent node_kid lower s.held.on_far
    where
      lower : (y : ℕ) → In y s.far → y ≢ sibling → (Child y s.far → ⊥) → node_of cut_there y ≡ node_of ws y
      lower y q d f =
          let r = in_range h ws s.p (s.prefix + 1) s.far y s.held.on_far q in
          node_other y r.0 r.1 (not_leaf y q) (not_parent y q) d f
