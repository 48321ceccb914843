-- A cut on an accepted image: the leaf and the sibling's old place are free, the tree without the key is there, and the
-- rules hold.
use Rattle.std.specs.Prelude.{◌≡◌, refl, List, ◌∷◌, ◌≢◌, false, ℕ, ◌+◌, ◌-◌, ◌≤◌, ◌<◌, length}
use Rattle.std.proofs.Math.Path.{sym, ap, subst}
use Rattle.std.proofs.Common.{◌∙◌, arith, length-append}
use Rattle.std.proofs.Math.Option.{Option, none, some}
use Rattle.keys.specs.declared.Key.{Key}
use Rattle.node_allocator.specs.declared.Arena.TheVariants.{Nodes, Values}
use Rattle.node_allocator.specs.declared.Counts.{Counts}
use Rattle.node_allocator.specs.Layout.{capacity_of}
use Rattle.node_allocator.specs.Steps.{remove_counts}
use Rattle.records.specs.declared.Header.{Header}
use Rattle.records.specs.declared.Node.{Node}
use Rattle.records.specs.Layout.{most_nodes}
use Rattle.records.specs.Records.{header_of, node_of}
use Rattle.lists.specs.Entries.{find, erase}
use Rattle.trees.specs.Tree.{Tree, leaf, inner, top, entries, entries_some, Ordered}
use Rattle.trees.specs.Nodes.{In}
use Rattle.trees.specs.Lookup.{reach, value_of}
use Rattle.trees.proofs.Lookup.{reach_find}
use Rattle.trees.specs.Remove.{hit, remove}
use Rattle.trees.proofs.Remove.{entries_remove}
use Rattle.trees.specs.Changes.{spot, in_spot, top_remove}
use Rattle.trees.specs.Map.{Map, list_of, remove_from, OrderedMap}
use Rattle.accepted.specs.Rules.{HeaderRules, Holds, FreeNode, Chain, NodeChain}
use Rattle.accepted.specs.Accepted.{Accepted, HoldsMap, nodes_in}
use Rattle.accepted.specs.Held.{top_parent, in_range}
use Rattle.accepted.specs.Forks.{in_near}
use Rattle.accepted.specs.Apart.{node_not_free}
use Rattle.accepted_lookup.specs.Answers.{nodes_entries}
use Rattle.accepted_remove.specs.Spot.{Spot, Trail, below, leaf_there}
use Rattle.accepted_remove.specs.After.{Removed, counts_less, arena_freed, erase_length, held_tree, at_root, counted, size_is, leaf_chain}
use Rattle.accepted_remove.specs.Moved.{cut_there, leaf_range, sibling_range, cut_step, node_leaf, node_place, node_outside, closed}

-- a tree in which a key is reached that is not the lone leaf's has two leaves
two_leaves : (key : Key) (t : Tree) (e : ℕ × ℕ) → hit key t ≡ false → reach key t ≡ some e → 2 ≤ length (entries t)
two_leaves key (leaf i a v) e g q = let z : ◌≡◌ {A = Option (ℕ × ℕ)} none (some e) = rw g at q in let y : ◌≡◌ {A = ℕ} 0 1 = cc in absurd (omega arith)
two_leaves key (inner i a p l r) e g q = rw length-append (omega (arith, entries_some l, entries_some r))

top_prefix : (h : Header) (ws : List ℕ) (parent low : ℕ) (t : Tree) → Holds h ws parent low t → (node_of ws (top t)).prefix ≤ 128
unfolding Holds
top_prefix h ws parent low (leaf i key v) k = rw k.here (omega arith)
top_prefix h ws parent low (inner i key p l r) k = rw k.here (omega (arith, k.short))

module _ {m n : ℕ} {ws : List ℕ} (a : Accepted m n ws) (key : Key) (t : Tree) (is : a.tree ≡ some t) (i j : ℕ) (miss : hit key t ≡ false) (got : reach key t ≡ some (i, j)) where
  abbrev h : Header
  h = header_of n ws

  ordered : Ordered t
  ordered = subst (λ (u : Map). OrderedMap u) is a.ordered

  found : find key (entries t) ≡ some j
  found = sym (reach_find key t ordered) ∙ ap value_of got

  pub way : Trail h ws key i j 0 0 t (spot key t) (remove key t)
  way = below h ws key i j 0 0 t (held_tree a is) miss got

  abbrev pub place : Spot h ws key i j (spot key t)
  place = way.at

  abbrev sibling : ℕ
  sibling = top place.far

  abbrev z : Node
  z = node_of ws sibling

  abbrev vs : List ℕ
  vs = cut_there a place

  abbrev g : Header
  g = header_of n vs

  leaf_at : (1 ≤ i) × (i < h.nodes.bump) × (1 ≤ j) × (j < h.values.bump)
  leaf_at = leaf_range a place

  sibling_at : (1 ≤ sibling) × (sibling < h.nodes.bump)
  sibling_at = sibling_range a place

  -- ---- the header

  size_two : 2 ≤ h.values.size
  size_two = rw (size_is a is) (two_leaves key t (i, j) miss got)

  nodes_three : 3 ≤ h.nodes.size
  nodes_three = omega (arith, a.header.node_size, size_two)

  nodes_few : h.nodes.size ≤ most_nodes
  nodes_few = omega (arith, a.header.nodes.size_most, a.header.nodes.bump_most, a.shape.nodes_most)

  abbrev new_nodes : Counts
  new_nodes = record { size = h.nodes.size - 1 - 1; bump = h.nodes.bump; head = sibling }

  abbrev new_values : Counts
  new_values = record { size = h.values.size - 1; bump = h.values.bump; head = j }

  nodes_are : remove_counts (Nodes n) (remove_counts (Nodes n) h.nodes i) sibling ≡ new_nodes
  unfolding capacity_of
  nodes_are =
      ap (λ (c : Counts). remove_counts (Nodes n) c sibling)
      (counts_less (Nodes n) ws h.nodes i a.header.nodes.bump_most leaf_at.0 leaf_at.1 (omega (arith, nodes_three)) nodes_few)
      ∙ counts_less (Nodes n) ws (record { size = h.nodes.size - 1; bump = h.nodes.bump; head = i }) sibling
      a.header.nodes.bump_most sibling_at.0 sibling_at.1 (omega (arith, nodes_three)) (omega (arith, nodes_few))

  values_are : remove_counts (Values n m) h.values j ≡ new_values
  unfolding capacity_of
  values_are =
      counts_less (Values n m) ws h.values j a.header.values.bump_most leaf_at.2 leaf_at.3 (omega (arith, size_two)) (omega (arith, a.header.node_size, nodes_few))

  header_is : g ≡ record { root = h.root; nodes = new_nodes; values = new_values }
  header_is = (cut_step a place).header ∙ (λ ι. record { root = h.root; nodes = nodes_are ι; values = values_are ι })

  rules : HeaderRules m n g
  rules =
      rw header_is (record {
        size_most = omega (arith, a.header.size_most);
        node_size = omega (arith, a.header.node_size, size_two);
        root_none = λ e. absurd (omega (arith, size_two));
        root_one = λ e. a.header.root_one (λ q. omega (arith, size_two));
        empty_head = λ e. absurd (omega (arith, size_two));
        nodes = arena_freed h.nodes n sibling (h.nodes.size - 1 - 1) a.header.nodes sibling_at.0 sibling_at.1 (omega (arith, nodes_three));
        values = arena_freed h.values m j (h.values.size - 1) a.header.values leaf_at.2 leaf_at.3 (omega (arith, size_two));
      })

  node_bump : g.nodes.bump ≡ h.nodes.bump
  node_bump = ap (λ (x : Header). x.nodes.bump) header_is

  -- ---- the tree

  two_less : nodes_in (remove key t) ≡ h.nodes.size - 1 - 1
  two_less =
      let left : length (entries (remove key t)) ≡ length (erase key (entries t)) = ap (λ (es : List (Key × ℕ)). length es) (entries_remove key t ordered miss) in
      omega (arith, nodes_entries t, nodes_entries (remove key t), left, erase_length key (entries t) j found, counted a is)

  tree_held : HoldsMap g vs (remove_from key (some t))
  unfolding HoldsMap
  tree_held =
      rw miss (record {
        at_root = top_remove key t ∙ at_root a is ∙ sym (ap (λ (x : Header). x.root.0) header_is);
        counted = two_less ∙ sym (ap (λ (x : Header). x.nodes.size) header_is);
        held = way.rebuilt g vs nodes values
            (λ y q d. let r = in_range h ws 0 0 t y (held_tree a is) q in node_outside a place y r.0 r.1 d)
            (closed a place g nodes values);
      })
    where
      nodes : h.nodes.bump ≤ g.nodes.bump
      nodes = omega (arith, node_bump)

      values : h.values.bump ≤ g.values.bump
      values = omega (arith, ap (λ (x : Header). x.values.bump) header_is)

  -- ---- the free nodes

  not_free : (x : ℕ) → In x t → FreeNode h x (node_of ws x) → ⊥
  not_free x q f = node_not_free h ws 0 0 t x (held_tree a is) q f

  leaf_in : In i t
  leaf_in = in_spot key t i (subst (λ (u : Tree). In i u) (sym place.is) (in_near place.p place.label place.prefix place.side (leaf i place.own j) place.far i refl))

  parent_is : z.parent.0 ≡ place.p
  parent_is = top_parent h ws place.p (place.prefix + 1) place.far place.held.on_far

  -- the root is node 1, and has no Parent
  not_first : sibling ≢ 1
  not_first e =
      let root : top t ≡ 1 = at_root a is ∙ a.header.root_one (λ q. omega (arith, size_two)) in
      let none : (node_of ws (top t)).parent.0 ≡ 0 = top_parent h ws 0 0 t (held_tree a is) in
      omega (arith, parent_is, place.held.index_some, ap (λ (x : ℕ). (node_of ws x).parent.0) (e ∙ sym root))

  place_free : FreeNode g sibling (node_of vs sibling)
  place_free =
      rw (node_place a place, node_bump) (record {
        no_value = refl;
        no_right = refl;
        link = record { some = leaf_at.0; most = omega (arith, leaf_at.1, node_bump); other = place.held.two };
        parent_used = omega (arith, parent_is, place.held.index_used, node_bump);
        first_parent = λ e. absurd (not_first e);
        prefix_most = top_prefix h ws place.p (place.prefix + 1) place.far place.held.on_far;
      })

  chain : NodeChain g vs (sibling ∷ i ∷ a.free_nodes)
  unfolding Chain
  chain =
      subst (λ (x : Header). Chain (λ y. FreeNode g y (node_of vs y)) (λ y. (node_of vs y).left.0) x.nodes.bump x.nodes.head (sibling ∷ i ∷ a.free_nodes)) (sym header_is)
      (record {
        here = refl;
        some = sibling_at.0;
        used = sibling_at.1;
        free = place_free;
        rest = rw (node_place a place)
            (leaf_chain a g vs i (leaf_there place) node_bump leaf_at.0 leaf_at.1 (not_free i leaf_in) (omega arith) (node_leaf a place)
            (λ y l u f d. node_outside a place y l u (λ q. not_free y (in_spot key t y q) f)));
      })

  pub cut_removed : Removed a key j (cut_there a place)
  cut_removed =
      record {
        found = ap (λ (u : Map). find key (list_of u)) is ∙ found;
        change = _;
        top = _;
        stored = cut_step a place;
        rules = rules;
        node_bump = node_bump;
        value_counts = ap (λ (x : Header). x.values) header_is;
        holds = subst (λ (u : Map). HoldsMap g vs (remove_from key u)) (sym is) tree_held;
        free_nodes = sibling ∷ i ∷ a.free_nodes;
        node_chain = chain;
        node_count = rw header_is (omega (arith, a.node_count, nodes_three, a.header.nodes.size_most));
      }
