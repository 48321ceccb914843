-- The last key of an accepted image is removed: the root is none, its leaf is free, and the rules hold of the empty map.
use Rattle.std.specs.Prelude.{◌≡◌, refl, List, ◌∷◌, true, ℕ, ◌-◌, ◌≤◌, ◌<◌, Some, Ok}
use Rattle.std.proofs.Common.{sym, ap, subst, ◌∙◌, arith, eq-eqb, ne_eqb}
use Rattle.std.proofs.Math.Option.{some}
use Rattle.keys.specs.declared.Key.{Key}
use Rattle.node_allocator.specs.declared.Arena.TheVariants.{Nodes, Values}
use Rattle.node_allocator.specs.Layout.{capacity_of}
use Rattle.records.specs.declared.Header.{Header}
use Rattle.records.specs.declared.Value.{Value}
use Rattle.records.specs.Records.{header_of, node_of, leaf_node, bare_node}
use Rattle.remove.specs.declared.Plan.TheVariants.{Lone}
use Rattle.remove.specs.Plan.{leaf_plan}
use Rattle.remove.specs.Steps.{lone_image}
use Rattle.lists.specs.Entries.{same, find}
use Rattle.trees.specs.Tree.{leaf}
use Rattle.trees.specs.Map.{Map, list_of, remove_from}
use Rattle.record_views.specs.Nodes.{changed}
use Rattle.record_views.specs.Values.{with_link}
use Rattle.record_views.specs.Header.{nodes_fit, values_fit}
use Rattle.record_views.specs.Small.{FitsNode, node_fits}
use Rattle.record_views.specs.Stored.{Stored, stays, with_root, store_root}
use Rattle.accepted.specs.Rules.{HeaderRules, Holds, FreeNode, Chain, NodeChain}
use Rattle.accepted.specs.Accepted.{Accepted, HoldsMap}
use Rattle.accepted.specs.Frame.{accepted_bounds}
use Rattle.accepted.specs.Apart.{node_not_free}
use Rattle.accepted_lookup.specs.Descents.{at}
use Rattle.accepted_remove.specs.Stores.{frees, less_leaf, leaf_stored}
use Rattle.accepted_remove.specs.After.{Removed, counts_less, arena_freed, held_tree, at_root, size_is, leaf_chain}

module _ {m n : ℕ} {ws : List ℕ} (a : Accepted m n ws) (key : Key) (i : ℕ) (own : Key) (j : ℕ) (is : a.tree ≡ some (leaf i own j)) (ours : same key own ≡ true) where
  abbrev h : Header
  h = header_of n ws

  abbrev pub lone_there : List ℕ
  lone_there = lone_image m n ws h i (leaf_node 0 own j)

  abbrev g : Header
  g = header_of n lone_there

  leaf_at : (1 ≤ i) × (i < h.nodes.bump) × (1 ≤ j) × (j < h.values.bump)
  unfolding Holds
  leaf_at = let k = held_tree a is in (k.index_some, k.index_used, k.value_some, k.value_used)

  lone_here : node_of ws i ≡ leaf_node 0 own j
  unfolding Holds
  lone_here = (held_tree a is).here

  step : Stored m n h.nodes.bump h.values.bump ws lone_there (frees i (bare_node 0 (leaf_node 0 own j)) h.nodes.head) (changed j (with_link h.values.head))
      (λ k. less_leaf m n h i j (with_root 0 k))
  unfolding lone_image
  step =
      leaf_stored (store_root (stays (accepted_bounds a) ws (omega (arith, a.shape.words))) 0 (omega arith)) h (nodes_fit n ws a.words) (values_fit n ws a.words) i (leaf_node 0 own j) leaf_at.0 leaf_at.1 leaf_at.2 leaf_at.3
      (subst FitsNode lone_here (node_fits ws i a.words))

  -- ---- the header

  size_one : h.values.size ≡ 1
  size_one = size_is a is

  nodes_one : h.nodes.size ≡ 1
  nodes_one = omega (arith, a.header.node_size, size_one)

  header_is : g ≡ record {
    root = record { 0 = 0 };
    nodes = record { size = h.nodes.size - 1; bump = h.nodes.bump; head = i };
    values = record { size = h.values.size - 1; bump = h.values.bump; head = j };
  }
  unfolding capacity_of
  header_is =
      let nodes = counts_less (Nodes n) ws h.nodes i a.header.nodes.bump_most leaf_at.0 leaf_at.1 (omega (arith, nodes_one)) (omega (arith, nodes_one)) in
      let values = counts_less (Values n m) ws h.values j a.header.values.bump_most leaf_at.2 leaf_at.3 (omega (arith, size_one)) (omega (arith, size_one)) in
      step.header ∙ (λ ι. record { root = record { 0 = 0 }; nodes = nodes ι; values = values ι })

  rules : HeaderRules m n g
  rules =
      rw header_is (record {
        size_most = omega (arith, a.header.size_most);
        node_size = omega (arith, size_one, nodes_one);
        root_none = λ e. refl;
        root_one = λ e. absurd (e (omega (arith, size_one)));
        empty_head = λ e. at_root a is ∙ a.header.root_one (λ q. omega (arith, size_one));
        nodes = arena_freed h.nodes n i (h.nodes.size - 1) a.header.nodes leaf_at.0 leaf_at.1 (omega (arith, nodes_one));
        values = arena_freed h.values m j (h.values.size - 1) a.header.values leaf_at.2 leaf_at.3 (omega (arith, size_one));
      })

  node_bump : g.nodes.bump ≡ h.nodes.bump
  node_bump = ap (λ (x : Header). x.nodes.bump) header_is

  -- ---- the free nodes

  node_after : (y : ℕ) → 1 ≤ y → y < h.nodes.bump → node_of lone_there y ≡ frees i (bare_node 0 (leaf_node 0 own j)) h.nodes.head y (node_of ws y)
  node_after y l u = step.node y l (omega (arith, a.header.nodes.bump_most))

  chain : NodeChain g lone_there (i ∷ a.free_nodes)
  chain =
      subst (λ (x : Header). Chain (λ y. FreeNode g y (node_of lone_there y)) (λ y. (node_of lone_there y).left.0) x.nodes.bump x.nodes.head (i ∷ a.free_nodes)) (sym header_is)
      (leaf_chain a g lone_there i (leaf_node 0 own j) node_bump leaf_at.0 leaf_at.1 (node_not_free h ws 0 0 (leaf i own j) i (held_tree a is) refl) (omega arith)
      (node_after i leaf_at.0 leaf_at.1 ∙ simp (eq-eqb i i refl))
      (λ y l u f d. node_after y l u ∙ simp (ne_eqb y i d)))

  empty : HoldsMap g lone_there (remove_from key (some (leaf i own j)))
  unfolding HoldsMap
  empty = rw (ours, header_is) (omega (arith, size_one))

  pub lone_removed : Removed a key j lone_there
  lone_removed =
      record {
        found = ap (λ (u : Map). find key (list_of u)) is ∙ rw ours;
        change = _;
        top = _;
        stored = step;
        rules = rules;
        node_bump = node_bump;
        value_counts = ap (λ (x : Header). x.values) header_is;
        holds = subst (λ (u : Map). HoldsMap g lone_there (remove_from key u)) (sym is) empty;
        free_nodes = i ∷ a.free_nodes;
        node_chain = chain;
        node_count = rw header_is (omega (arith, a.node_count, nodes_one, a.header.nodes.size_most));
      }

  -- it is the plan
  pub lone_planned : (v : Value) → leaf_plan h ws key (at i) (node_of ws i) (Some v) ≡ Ok (Lone h (at i) (leaf_node 0 own j) v)
  unfolding leaf_plan
  lone_planned v = rw lone_here
