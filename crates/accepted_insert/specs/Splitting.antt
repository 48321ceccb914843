-- A key that the map does not hold goes into a tree: the node where it parts from the tree is split, and the image
-- afterwards holds the tree after the insert.
use Rattle.std.specs.Prelude.{◌≡◌, refl, List, ◌≢◌, ℕ, ◌+◌, ◌^◌, ◌≤◌, ◌<◌}
use Rattle.std.proofs.Math.Path.{sym, ap}
use Rattle.std.proofs.Common.{subst, ◌∙◌, inl, inr, arith, pos_of_ne-zero, eq-eqb, ne_eqb}
use Rattle.std.proofs.Math.Option.{Option, none, some, get_or}
use Rattle.words.specs.Tests.{either_way}
use Rattle.keys.specs.declared.Key.{Key}
use Rattle.keys.specs.Number.{Fits}
use Rattle.node_allocator.specs.declared.Arena.TheVariants.{Nodes}
use Rattle.node_allocator.specs.declared.Counts.{Counts}
use Rattle.node_allocator.specs.declared.Register.TheVariants.{Left, Parent}
use Rattle.node_allocator.specs.Layout.{capacity_of}
use Rattle.node_allocator.specs.Steps.{add_counts, add_image}
use Rattle.records.specs.declared.Header.{Header}
use Rattle.records.specs.declared.Node.{Node}
use Rattle.records.specs.declared.Value.{Value}
use Rattle.records.specs.declared.ValueRecord.{ValueRecord}
use Rattle.records.specs.Records.{header_of, node_of, leaf_node, with_parent, value_record_of}
use Rattle.records.specs.Writes.{live_record}
use Rattle.insert.specs.Steps.{leaf_taken, copy_index, both_taken, adopted, fork_node, forked, split_image}
use Rattle.insert.specs.Ready.{fork_picked}
use Rattle.lists.specs.Lists.{All, all_both}
use Rattle.lists.specs.Entries.{find, is_some, enter}
use Rattle.lists.specs.Machine.{FitsValue}
use Rattle.trees.specs.Keys.{shared, bit, at_most}
use Rattle.trees.specs.Tree.{Tree, top, key_of, entries, Ordered}
use Rattle.trees.specs.Nodes.{In, Child, in_top, in_child}
use Rattle.trees.specs.Lookup.{lookup, value_of}
use Rattle.trees.proofs.Lookup.{lookup_find}
use Rattle.trees.specs.Insert.{insert, put}
use Rattle.trees.proofs.Insert.{ordered_insert, entries_insert, lookup_insert}
use Rattle.trees.specs.Map.{Map, list_of, lookup_in, OrderedMap}
use Rattle.trees.specs.Values.{Numbered, numbered_put, all_put}
use Rattle.trees.specs.Changes.{target, in_target, top_insert}
use Rattle.record_views.specs.Nodes.{changed, with_register}
use Rattle.record_views.specs.Values.{with_link}
use Rattle.record_views.specs.Small.{FitsNode, node_fits}
use Rattle.record_views.specs.Stored.{Stored, store_register, store_node, add_node, with_nodes, with_values}
use Rattle.accepted.specs.Rules.{Holds, FreeNode, Live}
use Rattle.accepted.specs.Accepted.{Accepted, HoldsMap}
use Rattle.accepted.specs.Frame.{chain_range}
use Rattle.accepted_lookup.specs.Answers.{valued, listed, held_valued, size_some}
use Rattle.accepted_insert.specs.Arenas.{behind, all_behind, bump_most, size_taken, head_used, not_head, behind_other, heads_differ, counts_taken, next_node_of, next_value_of, node_part, value_part, node_link}
use Rattle.accepted_insert.specs.Planned.{target_held, node_room}
use Rattle.accepted_insert.specs.Entered.{enter_new, valued_put, nodes_insert}
use Rattle.accepted_insert.specs.Holding.{Busy, in_busy, SplitAt, holds_insert}
use Rattle.accepted_insert.specs.Leaf.{part_fits, nodes1, nodes2, values1, node_part1, node_part2, value_part1, nodes_answered, leaf_stored, cell_other, cell_after, record_after, free_after, live_after}
use Rattle.accepted_insert.specs.Grown.{topped, assembled, assembled_tree}
use Rattle.accepted_insert.specs.Kids.{Kids, kids_of, told, leaf_fits}

module _ {m n : ℕ} {ws : List ℕ} (a : Accepted m n ws) (key : Key) (fits : Fits key) (v : Value)
    (fits_value : FitsValue v) (t : Tree) (is : a.tree ≡ some t) (miss : lookup key t ≡ none)
    (room : (header_of n ws).values.size < m) where
  -- ---- before

  abbrev h : Header
  h = header_of n ws

  -- the node where the key parts from the tree, its record, and how many bits they share there
  abbrev x : Tree
  x = target key t

  abbrev node : Node
  node = node_of ws (top (target key t))

  abbrev c : ℕ
  c = shared key (key_of (target key t))

  abbrev new : ℕ
  new = h.nodes.head

  abbrev copy : ℕ
  copy = (nodes1 a).head

  abbrev cell : ℕ
  cell = h.values.head

  holds_tree : HoldsMap h ws (some t)
  holds_tree = subst (HoldsMap h ws) is a.holds

  held : Holds h ws 0 0 t
  unfolding HoldsMap
  held = holds_tree.held

  ordered : Ordered t
  ordered = subst OrderedMap is a.ordered

  different : Numbered (entries t)
  different = subst (λ (u : Map). Numbered (list_of u)) is a.different

  kids : Kids h ws x
  kids = let z = target_held h ws key 0 0 t held in kids_of h ws z.0 z.1 x z.2

  busy : (y : ℕ) → In y x → Busy h ws y
  busy y q = in_busy h ws 0 0 t y held (in_target key t y q)

  busy_new : (y : ℕ) → Busy h ws y → y ≢ new
  busy_new y b = not_head a.free_nodes (node_part a) y b.high b.not_free

  busy_copy : (y : ℕ) → Busy h ws y → y ≢ copy
  busy_copy y b =
      not_head (behind a.free_nodes) (node_part1 a room) y
      (omega (arith, b.high, bump_most (next_node_of ws) h.nodes a.free_nodes)) b.not_free

  differ : new ≢ copy
  differ = heads_differ a.free_nodes (node_part a)

  -- ---- the stores

  abbrev us : List ℕ
  us = leaf_taken m n ws h v

  abbrev vs : List ℕ
  vs =
      forked n (adopted n (add_image (Nodes n) us (nodes1 a)) copy node.left.0 node.right.0)
      (top x) node c key new cell copy

  split_image_lem : split_image m n ws h (top x) node c key v ≡ vs
  unfolding split_image both_taken copy_index
  split_image_lem =
      let index : copy_index n ws h ≡ copy = ap (λ (z : Counts). z.head) (nodes_answered a room) in
      rw (index, nodes_answered a room)

  more1 : (nodes1 a).bump ≤ (nodes2 a).bump
  more1 = bump_most (next_node_of ws) (nodes1 a) (behind a.free_nodes)

  more : h.nodes.bump ≤ (nodes2 a).bump
  more = omega (arith, more1, bump_most (next_node_of ws) h.nodes a.free_nodes)

  most : (nodes2 a).bump ≤ n + 1
  most = (node_part2 a room).rules.bump_most

  new_used : new < (nodes2 a).bump
  new_used = omega (arith, more1, head_used a.free_nodes (node_part a))

  copy_used : copy < (nodes2 a).bump
  copy_used = head_used (behind a.free_nodes) (node_part1 a room)

  cell_used : cell < (values1 a).bump
  cell_used = head_used a.free_values (value_part a)

  top_busy : Busy h ws (top x)
  top_busy = busy (top x) (in_top x)

  top_below : top x < (nodes2 a).bump
  top_below = omega (arith, more, top_busy.high)

  -- an index below the bump is a word
  word : (y : ℕ) → y < (nodes2 a).bump → y < 2 ^ 32
  word y l = omega (arith, most, a.shape.nodes_most)

  one : Stored m n (nodes2 a).bump (values1 a).bump ws us (changed new (with_register Left 0))
      (λ y r. changed cell (λ w. live_record new v) y (changed cell (with_link 0) y r))
      (λ z. with_values (values1 a) (with_nodes (nodes1 a) z))
  one = leaf_stored a room (nodes2 a).bump more1 most v fits_value

  copy_answered : add_counts (Nodes n) us (nodes1 a) ≡ nodes2 a
  unfolding capacity_of
  copy_answered =
      counts_taken (Nodes n) us (behind a.free_nodes) a.shape.nodes_most (node_part1 a room)
      (omega (arith, node_room a room, size_taken (next_node_of ws) h.nodes a.free_nodes))
      (λ named. node_link us named ∙ ap (λ (z : Node). z.left.0) (same named.low named.high))
    where
      same : 1 ≤ copy → copy ≤ n → node_of us copy ≡ node_of ws copy
      same l b = one.node copy l b ∙ rw (ne_eqb copy new (λ e. differ (sym e)))

  fork_fits : FitsNode (fork_node key c new copy node)
  fork_fits =
      rw (fork_picked key c new copy node)
      (record {
        left_fits = either_way (λ y. y < 2 ^ 32) (bit key c) copy new (word copy copy_used) (word new new_used);
        right_fits = either_way (λ y. y < 2 ^ 32) (bit key c) new copy (word new new_used) (word copy copy_used);
        parent_fits = (node_fits ws (top x) a.words).parent_fits;
        value_fits = omega arith;
        key_fits = fits;
        prefix_fits = omega (arith, at_most key (key_of x));
      })

  moved_fits : FitsNode (with_parent (top x) node)
  moved_fits =
      let f = node_fits ws (top x) a.words in
      record {
        left_fits = f.left_fits;
        right_fits = f.right_fits;
        parent_fits = word (top x) top_below;
        value_fits = f.value_fits;
        key_fits = f.key_fits;
        prefix_fits = f.prefix_fits;
      }

  two : Stored m n (nodes2 a).bump (values1 a).bump ws vs
      (λ y z. changed (top x) (λ w. fork_node key c new copy node) y
      (changed new (λ w. leaf_node (top x) key cell) y
      (changed copy (λ w. with_parent (top x) node) y
      (changed node.right.0 (with_register Parent copy) y
      (changed node.left.0 (with_register Parent copy) y
      (changed copy (with_register Left 0) y
      (changed new (with_register Left 0) y z)))))))
      (λ y r. changed cell (λ w. live_record new v) y (changed cell (with_link 0) y r))
      (λ z. with_nodes (nodes2 a) (with_values (values1 a) (with_nodes (nodes1 a) z)))
  unfolding forked adopted
  two =
      let low = (node_part1 a room).rules.head_some in
      let cell_fits : cell < 2 ^ 32 = omega (arith, cell_used, (value_part1 a room).rules.bump_most, a.shape.most) in
      let taken = add_node one (nodes1 a) low copy_used (part_fits (node_part1 a room) a.shape.nodes_most) in
      let left =
      store_register taken node.left.0 copy Parent (omega (arith, more, kids.left_used)) (word copy copy_used) in
      let right =
      store_register left node.right.0 copy Parent (omega (arith, more, kids.right_used)) (word copy copy_used) in
      let moved = store_node right copy (with_parent (top x) node) copy_used moved_fits in
      let new_leaf = leaf_fits (top x) key cell (word (top x) top_below) fits cell_fits in
      let leafed = store_node moved new (leaf_node (top x) key cell) new_used new_leaf in
      rw copy_answered at (store_node leafed (top x) (fork_node key c new copy node) top_below fork_fits)

  header_is : header_of n vs ≡ topped (nodes2 a) (values1 a)
  header_is =
      let root : h.root.0 ≡ 1 = a.header.root_one (size_some a t holds_tree) in
      two.header ∙ λ ι. record { root = record { 0 = root ι }; nodes = nodes2 a; values = values1 a }

  -- ---- each node afterwards

  inside : (y : ℕ) → y < (nodes2 a).bump → y ≤ n
  inside y l = omega (arith, most)

  kept : (y : ℕ) → 1 ≤ y → y < (nodes2 a).bump → y ≢ top x → y ≢ new → y ≢ copy → (Child y x → ⊥)
      → node_of vs y ≡ node_of ws y
  kept y l b d e f k =
      two.node y l (inside y b)
      ∙ rw (
        ne_eqb y (top x) d,
        ne_eqb y new e,
        ne_eqb y copy f,
        ne_eqb y node.right.0 (λ q. k (kids.named y l (inr q))),
        ne_eqb y node.left.0 (λ q. k (kids.named y l (inl q))),
      )

  at_split : SplitAt h (topped (nodes2 a) (values1 a)) ws vs key cell new copy x
  at_split =
      record {
        nodes = more;
        values = bump_most (next_value_of n ws) h.values a.free_values;
        new_some = a.header.nodes.head_some;
        new_used = new_used;
        copy_some = (node_part1 a room).rules.head_some;
        copy_used = copy_used;
        cell_some = a.header.values.head_some;
        cell_used = cell_used;
        differ = differ;
        at_new = two.node new a.header.nodes.head_some (inside new new_used)
            ∙ rw (ne_eqb new (top x) (λ e. busy_new (top x) top_busy (sym e)), eq-eqb new new refl);
        at_copy = two.node copy (node_part1 a room).rules.head_some (inside copy copy_used)
            ∙ rw (
              ne_eqb copy (top x) (λ e. busy_copy (top x) top_busy (sym e)),
              ne_eqb copy new (λ e. differ (sym e)),
              eq-eqb
                  copy copy refl,
            );
        at_top = two.node (top x) top_busy.low (inside (top x) top_below)
            ∙ rw (eq-eqb (top x) (top x) refl) (fork_picked key c new copy node);
        at_child = child;
        at_other = λ y b d k. kept y b.low (omega (arith, more, b.high)) d (busy_new y b) (busy_copy y b) k;
      }
    where
      child : (y : ℕ) → Child y x → node_of vs y ≡ with_parent copy (node_of ws y)
      child y q =
          let b = busy y (in_child y x q) in
          two.node y b.low (inside y (omega (arith, more, b.high)))
          ∙ rw (ne_eqb y (top x) (kids.below y q), ne_eqb y new (busy_new y b), ne_eqb y copy (busy_copy y b))
          (told copy y node.left.0 node.right.0 (node_of ws y) (kids.names y q))

  -- the nodes that stay free
  nodes_same : All (λ y. node_of vs y ≡ node_of ws y) (behind (behind a.free_nodes))
  nodes_same =
      let rest = behind (behind a.free_nodes) in
      all_both (λ y r (d : (y ≢ new) × (y ≢ copy)). free y r.0 r.1 r.2 d.0 d.1) rest
      (chain_range _ _ _ _ rest (node_part2 a room).chain)
      (all_both (λ y d e. (d, e)) rest
      (all_behind (λ y. y ≢ new) (behind a.free_nodes) (behind_other a.free_nodes (node_part a)))
      (behind_other (behind a.free_nodes) (node_part1 a room)))
    where
      free : (y : ℕ) → 1 ≤ y → y < (nodes2 a).bump → FreeNode h y (node_of ws y) → y ≢ new → y ≢ copy
          → node_of vs y ≡ node_of ws y
      free y l b f d e =
          kept y l b (λ q. top_busy.not_free (subst (λ z. FreeNode h z (node_of ws z)) q f)) d e
          (λ q. (busy y (in_child y x q)).not_free f)

  -- ---- the tree afterwards

  abbrev grown : Tree
  grown = insert key cell new copy t

  ordered_grown : Ordered grown
  ordered_grown = ordered_insert key cell new copy t fits ordered

  value_size : (values1 a).size ≡ h.values.size + 1
  value_size = size_taken (next_value_of n ws) h.values a.free_values

  node_size : (nodes2 a).size ≡ h.nodes.size + 2
  node_size =
      let first = size_taken (next_node_of ws) h.nodes a.free_nodes in
      let second = size_taken (next_node_of ws) (nodes1 a) (behind a.free_nodes) in
      omega arith

  some_size : 1 ≤ h.values.size
  some_size = pos_of_ne-zero (size_some a t holds_tree)

  holds_grown : HoldsMap (topped (nodes2 a) (values1 a)) vs (some grown)
  unfolding HoldsMap
  holds_grown =
      record {
        at_root = top_insert key cell new copy t ∙ holds_tree.at_root ∙ a.header.root_one (size_some a t holds_tree);
        counted = omega (arith, nodes_insert key cell new copy t miss, holds_tree.counted, node_size);
        held = holds_insert h (topped (nodes2 a) (values1 a)) ws vs key cell new copy x at_split 0 0 t held
            ordered_grown miss (omega arith) refl;
      }

  -- ---- the entries afterwards

  entries_grown : entries grown ≡ put key cell (entries t)
  entries_grown = entries_insert key cell new copy t fits ordered

  other : All (λ e. cell ≢ e.1) (entries t)
  other = subst (λ (u : Map). All (λ e. cell ≢ e.1) (list_of u)) is (cell_other a room)

  different_grown : Numbered (entries grown)
  different_grown =
      rw entries_grown
      (numbered_put key cell (entries t) (λ e. omega (arith, a.header.values.head_some)) other different)

  live_grown : All (λ e. Live (value_record_of n vs e.1)) (entries grown)
  live_grown =
      let live = subst (λ (u : Map). All (λ e. Live (value_record_of n ws e.1)) (list_of u)) is a.live in
      let kept =
      all_both (λ e z d. record_after a room v two e.1 (pos_of_ne-zero z) (λ q. d (sym q))) (entries t)
      different.nonzero other in
      rw entries_grown
      (all_put (λ e. Live (value_record_of n vs e.1)) key cell (entries t) (live_after a room v two)
      (all_both (λ e k l. rw k l) (entries t) kept live))

  -- ---- the image is accepted, and its list has the new entry

  accepted : Accepted m n vs
  accepted =
      assembled a two header_is (node_part2 a room) nodes_same more (value_part1 a room) (free_after a room v two)
      at_split.values (omega (arith, value_size)) (omega (arith, value_size))
      (omega (arith, value_size, node_size, a.header.node_size, some_size))
      grown holds_grown ordered_grown different_grown live_grown

  tree_is : accepted.tree ≡ some grown
  unfolding accepted
  tree_is =
      assembled_tree a two header_is (node_part2 a room) nodes_same more (value_part1 a room) (free_after a room v two)
      at_split.values _ _ _ grown holds_grown ordered_grown different_grown live_grown

  list_is : listed accepted ≡ enter key v (listed a)
  unfolding live_record
  list_is =
      let gone : find key (entries t) ≡ none = sym (lookup_find key t ordered) ∙ ap value_of miss in
      ap (λ (u : Map). valued n vs (list_of u)) tree_is
      ∙ ap (valued n vs) entries_grown
      ∙ valued_put n ws vs key v cell (ap (λ (r : ValueRecord). r.value) (cell_after a room v two))
      (record_after a room v two) (entries t) different.nonzero other
      ∙ sym (enter_new key v (valued n ws (entries t)) (held_valued n ws key (entries t) ∙ ap is_some gone))
      ∙ ap (λ (u : Map). enter key v (valued n ws (list_of u))) (sym is)

  -- the key is found at the new leaf
  found : lookup_in key accepted.tree ≡ some (new, cell)
  found =
      ap (lookup_in key) tree_is
      ∙ lookup_insert key cell new copy t
      ∙ ap (λ (o : Option (ℕ × ℕ)). some (get_or o (new, cell))) miss

  pub split_agrees :
      (b : Accepted m n
      (split_image m n ws (header_of n ws) (top (target key t)) (node_of ws (top (target key t)))
      (shared key (key_of (target key t))) key v))
      × (listed b ≡ enter key v (listed a))
      × (lookup_in key b.tree ≡ some ((header_of n ws).nodes.head, (header_of n ws).values.head))
  split_agrees = rw split_image_lem (accepted, list_is, found)
