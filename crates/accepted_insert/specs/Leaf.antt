-- The records of a new leaf are taken, its node and its value record, and in a split a second node: the arenas
-- afterwards, and what is stored so far.
use Rattle.std.specs.Prelude.{◌≡◌, refl, List, ◌≢◌, ℕ, ◌+◌, ◌≤◌, ◌<◌}
use Rattle.std.proofs.Common.{sym, ◌∙◌, arith, eq-eqb, ne_eqb}
use Rattle.std.proofs.Math.Path.{ap}
use Rattle.node_allocator.specs.declared.Arena.TheVariants.{Nodes, Values}
use Rattle.node_allocator.specs.declared.Counts.{Counts}
use Rattle.node_allocator.specs.declared.Register.TheVariants.{Left}
use Rattle.node_allocator.specs.Layout.{capacity_of}
use Rattle.node_allocator.specs.Steps.{add_counts, add_image}
use Rattle.records.specs.declared.Header.{Header}
use Rattle.records.specs.declared.Node.{Node}
use Rattle.records.specs.declared.Value.{Value}
use Rattle.records.specs.declared.ValueRecord.{ValueRecord}
use Rattle.records.specs.Layout.{most_nodes}
use Rattle.records.specs.Records.{header_of, value_record_of}
use Rattle.records.specs.Writes.{live_record}
use Rattle.insert.specs.Steps.{leaf_taken}
use Rattle.lists.specs.Lists.{All, all_both}
use Rattle.lists.specs.Machine.{FitsValue}
use Rattle.record_views.specs.Nodes.{changed, with_register}
use Rattle.record_views.specs.Values.{with_link}
use Rattle.record_views.specs.Small.{FitsCounts, live_fits}
use Rattle.record_views.specs.Stored.{Bounds, Stored, stays, add_node, add_value, store_value, with_nodes, with_values}
use Rattle.accepted.specs.Rules.{Live, live_record_lem}
use Rattle.accepted.specs.Accepted.{Accepted}
use Rattle.accepted.specs.Held.{list_used}
use Rattle.accepted.specs.Frame.{chain_range}
use Rattle.accepted.specs.Apart.{live_not_free}
use Rattle.trees.specs.Map.{list_of}
use Rattle.accepted_insert.specs.Arenas.{Part, behind, taken_from, size_taken, head_used, not_head, behind_other, part_taken, counts_taken, FreeNodeOf, next_node_of, FreeValueOf, next_value_of, node_part, value_part, node_link, value_link}
use Rattle.accepted_insert.specs.Planned.{node_room}

pub part_fits : {c : Counts} {limit : ℕ} {Free : ℕ → Type 0} {next : ℕ → ℕ} {xs : List ℕ} → Part c limit Free next xs
    → limit ≤ most_nodes → FitsCounts c
part_fits p few =
    let bump = p.rules.bump_most in
    let head = p.rules.head_most in
    record { bump_fits = omega arith; head_fits = omega arith }

module _ {m n : ℕ} {ws : List ℕ} (a : Accepted m n ws) where
  abbrev h : Header
  h = header_of n ws

  abbrev pub new : ℕ
  new = h.nodes.head

  abbrev pub cell : ℕ
  cell = h.values.head

  -- the counts once one node is taken, two nodes, and a value record
  abbrev pub nodes1 : Counts
  nodes1 = taken_from (next_node_of ws) h.nodes a.free_nodes

  abbrev pub nodes2 : Counts
  nodes2 = taken_from (next_node_of ws) nodes1 (behind a.free_nodes)

  abbrev pub values1 : Counts
  values1 = taken_from (next_value_of n ws) h.values a.free_values

  module _ (room : (header_of n ws).values.size < m) where
    pub node_part1 : Part nodes1 n (FreeNodeOf n ws) (next_node_of ws) (behind a.free_nodes)
    node_part1 = part_taken a.free_nodes (node_part a) (omega (arith, node_room a room))

    pub node_part2 : Part nodes2 n (FreeNodeOf n ws) (next_node_of ws) (behind (behind a.free_nodes))
    node_part2 =
        part_taken (behind a.free_nodes) node_part1
        (omega (arith, node_room a room, size_taken (next_node_of ws) h.nodes a.free_nodes))

    pub value_part1 : Part values1 m (FreeValueOf n ws) (next_value_of n ws) (behind a.free_values)
    value_part1 = part_taken a.free_values (value_part a) room

    -- the step's own header
    pub nodes_answered : add_counts (Nodes n) ws h.nodes ≡ nodes1
    unfolding capacity_of
    nodes_answered =
        counts_taken (Nodes n) ws a.free_nodes a.shape.nodes_most (node_part a) (omega (arith, node_room a room))
        (node_link ws)

    -- ---- the leaf's records taken, below a bound of nodes

    module _ (b : ℕ) (least : nodes1.bump ≤ b) (most : b ≤ n + 1) (v : Value) (fits : FitsValue v) where
      bounds : Bounds m n b values1.bump
      bounds =
          record {
            few = a.shape.nodes_most;
            some = omega (arith, node_part1.rules.bump_some);
            most = most;
            few_values = a.shape.most;
            some_values = value_part1.rules.bump_some;
            most_values = value_part1.rules.bump_most;
          }

      node_stored : Stored m n b values1.bump ws (add_image (Nodes n) ws h.nodes) (changed new (with_register Left 0))
          (λ y r. r) (with_nodes (add_counts (Nodes n) ws h.nodes))
      node_stored =
          add_node (stays bounds ws (omega (arith, a.shape.words))) h.nodes a.header.nodes.head_some
          (omega (arith, head_used a.free_nodes (node_part a))) (part_fits (node_part a) a.shape.nodes_most)

      values_answered : add_counts (Values n m) (add_image (Nodes n) ws h.nodes) h.values ≡ values1
      unfolding capacity_of
      values_answered =
          counts_taken (Values n m) (add_image (Nodes n) ws h.nodes) a.free_values (omega (arith, a.shape.most))
          (value_part a) room
          (λ named. value_link (add_image (Nodes n) ws h.nodes) named
          ∙ ap (λ (r : ValueRecord). r.register0) (node_stored.value cell named.low))

      pub leaf_stored : Stored m n b values1.bump ws (leaf_taken m n ws h v) (changed new (with_register Left 0))
          (λ y r. changed cell (λ w. live_record new v) y (changed cell (with_link 0) y r))
          (λ t. with_values values1 (with_nodes nodes1 t))
      unfolding leaf_taken
      leaf_stored =
          let low = a.header.values.head_some in
          let below : cell < values1.bump = head_used a.free_values (value_part a) in
          let fit = part_fits (value_part a) (omega (arith, a.shape.most)) in
          let taken = add_value node_stored h.values low below fit in
          rw (nodes_answered, values_answered) at (store_value taken cell (live_record new v) below (live_fits new fits))

    -- ---- the value record that is taken is no entry's

    pub cell_other : All (λ e. cell ≢ e.1) (list_of a.tree)
    cell_other =
        all_both (λ e r l q. other e.1 r.1 l (sym q)) (list_of a.tree) (list_used h ws a.tree a.holds) a.live
      where
        other : (j : ℕ) → j < h.values.bump → Live (value_record_of n ws j) → j ≢ cell
        other j l live = not_head a.free_values (value_part a) j l (live_not_free h j (value_record_of n ws j) live)

    -- ---- the value records of an image in which that one is stored, and no other

    module _ {b c : ℕ} {vs : List ℕ} {f : ℕ → Node → Node} {t : Header → Header} (v : Value)
        (s : Stored m n b c ws vs f (λ y r. changed cell (λ w. live_record new v) y (changed cell (with_link 0) y r)) t)
      where
        pub cell_after : value_record_of n vs cell ≡ live_record new v
        cell_after = s.value cell a.header.values.head_some ∙ rw (eq-eqb cell cell refl)

        pub record_after : (y : ℕ) → 1 ≤ y → y ≢ cell → value_record_of n vs y ≡ value_record_of n ws y
        record_after y l d = s.value y l ∙ rw (ne_eqb y cell d)

        pub free_after : All (λ y. value_record_of n vs y ≡ value_record_of n ws y) (behind a.free_values)
        free_after =
            all_both (λ y r d. record_after y r.0 d) (behind a.free_values)
            (chain_range _ _ _ _ (behind a.free_values) value_part1.chain)
            (behind_other a.free_values (value_part a))

        pub live_after : Live (value_record_of n vs cell)
        live_after = rw cell_after (live_record_lem new v)
