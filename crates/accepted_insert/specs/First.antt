-- The first key: the empty map gets a leaf, which is node 1 and the root.
use Rattle.std.specs.Prelude.{◌≡◌, refl, List, [], ◌∷◌, ◌≢◌, ℕ, ◌^◌, ◌≤◌, ◌<◌}
use Rattle.std.proofs.Math.Path.{sym, ap, subst}
use Rattle.std.proofs.Common.{◌∙◌, arith, eq-eqb, ne_eqb}
use Rattle.std.proofs.Math.Option.{none, some}
use Rattle.keys.specs.declared.Key.{Key}
use Rattle.keys.specs.Number.{Fits, number_of}
use Rattle.node_allocator.specs.declared.Register.TheVariants.{Left}
use Rattle.records.specs.declared.Header.{Header}
use Rattle.records.specs.declared.Value.{Value}
use Rattle.records.specs.declared.ValueRecord.{ValueRecord}
use Rattle.records.specs.Records.{header_of, node_of, leaf_node}
use Rattle.records.specs.Writes.{live_record}
use Rattle.insert.specs.Steps.{first_image}
use Rattle.lists.specs.Lists.{All, all_both}
use Rattle.lists.specs.Entries.{enter}
use Rattle.lists.specs.Machine.{FitsValue}
use Rattle.trees.specs.Tree.{Tree, leaf, entries}
use Rattle.trees.specs.Map.{Map, list_of, lookup_in}
use Rattle.trees.specs.Values.{Numbered}
use Rattle.record_views.specs.Nodes.{changed, with_register}
use Rattle.record_views.specs.Values.{with_link}
use Rattle.record_views.specs.Stored.{Stored, store_node, store_root, with_root, with_nodes, with_values}
use Rattle.accepted.specs.Rules.{Holds}
use Rattle.accepted.specs.Accepted.{Accepted, HoldsMap, nodes_in}
use Rattle.accepted.specs.Frame.{chain_range}
use Rattle.accepted_lookup.specs.Answers.{valued, listed}
use Rattle.accepted_insert.specs.Arenas.{behind, bump_most, size_taken, head_used, behind_other, next_node_of, next_value_of, node_part, value_part}
use Rattle.accepted_insert.specs.Kids.{leaf_fits}
use Rattle.accepted_insert.specs.Leaf.{nodes1, values1, node_part1, value_part1, leaf_stored, cell_after, free_after, live_after}
use Rattle.accepted_insert.specs.Grown.{topped, assembled, assembled_tree}

module _ {m n : ℕ} {ws : List ℕ} (a : Accepted m n ws) (key : Key) (fits : Fits key) (v : Value)
    (fits_value : FitsValue v) (is : a.tree ≡ none) where
  abbrev h : Header
  h = header_of n ws

  abbrev new : ℕ
  new = h.nodes.head

  abbrev cell : ℕ
  cell = h.values.head

  empty : h.values.size ≡ 0
  unfolding HoldsMap
  empty = subst (HoldsMap h ws) is a.holds

  room : h.values.size < m
  room = omega (arith, empty, a.shape.some)

  new_is : new ≡ 1
  new_is = a.header.empty_head empty

  abbrev vs : List ℕ
  vs = first_image m n ws h key v

  below : new < (nodes1 a).bump
  below = head_used a.free_nodes (node_part a)

  cell_below : cell < (values1 a).bump
  cell_below = head_used a.free_values (value_part a)

  stored : Stored m n (nodes1 a).bump (values1 a).bump ws vs
      (λ y x. changed new (λ w. leaf_node 0 key cell) y (changed new (with_register Left 0) y x))
      (λ y r. changed cell (λ w. live_record new v) y (changed cell (with_link 0) y r))
      (λ t. with_root new (with_values (values1 a) (with_nodes (nodes1 a) t)))
  unfolding first_image
  stored =
      let most = (node_part1 a room).rules.bump_most in
      let cell_fits : cell < 2 ^ 32 = omega (arith, cell_below, (value_part1 a room).rules.bump_most, a.shape.most) in
      let taken = leaf_stored a room (nodes1 a).bump (omega arith) most v fits_value in
      let leafed = store_node taken new (leaf_node 0 key cell) below (leaf_fits 0 key cell (omega arith) fits cell_fits) in
      store_root leafed new (omega (arith, new_is))

  header_is : header_of n vs ≡ topped (nodes1 a) (values1 a)
  header_is =
      stored.header ∙ λ ι. record { root = record { 0 = new_is ι }; nodes = nodes1 a; values = values1 a }

  leaf_is : node_of vs new ≡ leaf_node 0 key cell
  leaf_is =
      stored.node new (omega (arith, new_is)) (omega (arith, new_is, a.shape.some, a.shape.twice))
      ∙ rw (eq-eqb new new refl)

  node_kept : (y : ℕ) → 1 ≤ y → y < (nodes1 a).bump → y ≢ new → node_of vs y ≡ node_of ws y
  node_kept y l b d = stored.node y l (omega (arith, (node_part1 a room).rules.bump_most)) ∙ rw (ne_eqb y new d)

  nodes_same : All (λ y. node_of vs y ≡ node_of ws y) (behind a.free_nodes)
  nodes_same =
      all_both (λ y r d. node_kept y r.0 r.1 d) (behind a.free_nodes)
      (chain_range _ _ _ _ (behind a.free_nodes) (node_part1 a room).chain)
      (behind_other a.free_nodes (node_part a))

  abbrev one : Tree
  one = leaf new key cell

  value_size : (values1 a).size ≡ 1
  value_size = size_taken (next_value_of n ws) h.values a.free_values ∙ omega (arith, empty)

  node_size : (nodes1 a).size ≡ 1
  node_size = size_taken (next_node_of ws) h.nodes a.free_nodes ∙ omega (arith, empty, a.header.node_size)

  held : HoldsMap (topped (nodes1 a) (values1 a)) vs (some one)
  unfolding HoldsMap Holds nodes_in
  held =
      record {
        at_root = new_is;
        counted = sym node_size;
        held = record {
          index_some = omega (arith, new_is);
          index_used = below;
          here = leaf_is;
          rises = omega arith;
          value_some = a.header.values.head_some;
          value_used = cell_below;
        };
      }

  different : Numbered (entries one)
  different = record { nonzero = ((λ e. omega (arith, a.header.values.head_some)), tt); different = (tt, tt) }

  accepted : Accepted m n vs
  accepted =
      assembled a stored header_is
      (node_part1 a room) nodes_same (bump_most (next_node_of ws) h.nodes a.free_nodes)
      (value_part1 a room) (free_after a room v stored) (bump_most (next_value_of n ws) h.values a.free_values)
      (omega (arith, value_size)) (omega (arith, value_size, room)) (omega (arith, value_size, node_size))
      one held fits different (live_after a room v stored, tt)

  tree_is : accepted.tree ≡ some one
  unfolding accepted
  tree_is =
      assembled_tree a stored header_is (node_part1 a room) nodes_same _ (value_part1 a room) (free_after a room v stored)
      _ _ _ _ one held fits different (live_after a room v stored, tt)

  list_is : listed accepted ≡ enter key v (listed a)
  unfolding live_record
  list_is =
      ap (λ (u : Map). valued n vs (list_of u)) tree_is
      ∙ ap (λ (r : ValueRecord). (key, r.value) ∷ []) (cell_after a room v stored)
      ∙ ap (λ (u : Map). enter key v (valued n ws (list_of u))) (sym is)

  found : lookup_in key accepted.tree ≡ some (new, cell)
  found = ap (lookup_in key) tree_is ∙ rw (eq-eqb (number_of key) (number_of key) refl)

  pub first_agrees : (b : Accepted m n (first_image m n ws (header_of n ws) key v)) × (listed b ≡ enter key v (listed a))
      × (lookup_in key b.tree ≡ some ((header_of n ws).nodes.head, (header_of n ws).values.head))
  first_agrees = (accepted, list_is, found)
