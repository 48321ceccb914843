-- One calculus of stores, for the theory of every call that writes: what a row of stores makes of each node, of each value record and of the header, and
-- the words that it keeps. There is a law for each store, from what the stores before it made.
use Rattle.std.specs.Prelude.{◌≡◌, List, ◌≢◌, ◌⊎◌, ℕ, ◌+◌, ◌^◌, ◌≤◌, ◌<◌, length, set}
use Rattle.std.proofs.Math.Path.{refl, ap}
use Rattle.std.proofs.Common.{sym, ◌∙◌, inl, inr, arith, lt_of_not-le, get_or-set_same}
use Rattle.std.proofs.Math.Decide.{dec_le}
use Rattle.node_allocator.specs.declared.Arena.TheVariants.{Nodes, Values}
use Rattle.node_allocator.specs.declared.Counts.{Counts}
use Rattle.node_allocator.specs.declared.Register.{Register}
use Rattle.node_allocator.specs.declared.Register.TheVariants.{Left}
use Rattle.node_allocator.specs.Layout.{node_at, value_at, values_at, header_at, record_at, capacity_of}
use Rattle.node_allocator.specs.Steps.{set_register, add_counts, add_image, remove_counts, remove_image}
use Rattle.arena_laws.specs.Places.{Inside, Lies}
use Rattle.arena_laws.specs.Laws.{counts_set}
use Rattle.arena_laws.specs.Taken.{add_counts_lem, remove_counts_lem}
use Rattle.records.specs.declared.Header.{Header}
use Rattle.records.specs.declared.Node.{Node}
use Rattle.records.specs.declared.ValueRecord.{ValueRecord}
use Rattle.records.specs.Layout.{most_nodes, most_values, image_length}
use Rattle.records.specs.Records.{header_of, front_of, spare_of, node_of, padding_of, value_record_of}
use Rattle.records.specs.Writes.{set_node, set_value}
use Rattle.record_views.specs.Kept.{data_of, Keeps, unchanged, keeps_then, keeps_fewer, Elsewhere, elsewhere_spares, elsewhere_clears, register_kept, node_kept, value_kept, add_kept, free_kept, root_kept}
use Rattle.record_views.specs.Nodes.{changed, with_register, node_same, node_changed, node_left, register_own, node_own, node_added_own, node_removed_own}
use Rattle.record_views.specs.Values.{with_link, record_same, value_changed, value_left, value_own, value_added_own, value_removed_own}
use Rattle.record_views.specs.Header.{header_is, node_apart, value_apart, header_kept, nodes_header, values_header, front_kept, padding_kept}
use Rattle.record_views.specs.Small.{Small, FitsNode, FitsRecord, FitsCounts, small_set, small_register, small_node, small_value, small_added, small_removed}

-- the limits of M and N, and bounds b of nodes and c of value records within them, below which every store stays
pub record Bounds (m n b c : ℕ) : Type 0 where
  pub few : n ≤ most_nodes
  pub some : 1 ≤ b
  pub most : b ≤ n + 1
  pub few_values : m ≤ most_values
  pub some_values : 1 ≤ c
  pub most_values : c ≤ m + 1

-- a word that no store rewrites: padding, and the records at or above the bounds
pub data Idle (n b c k : ℕ) : Type 0 where
  front : k < 2 → Idle n b c k
  spare : k ≡ 3 → Idle n b c k
  padding : (i : ℕ) → 1 ≤ i → i ≤ n → node_at i + 10 ≤ k → k < node_at i + 12 → Idle n b c k
  nodes : node_at b ≤ k → k < values_at n → Idle n b c k
  values : value_at n c ≤ k → Idle n b c k

-- vs is ws with each node y changed by `change y`, each value record by `alter y`, and the header by `top`
pub record Stored (m n b c : ℕ) (ws vs : List ℕ) (change : ℕ → Node → Node) (alter : ℕ → ValueRecord → ValueRecord) (top : Header → Header) : Type 0 where
  pub bounds : Bounds m n b c
  pub room : image_length m n ≤ length vs
  pub header : header_of n vs ≡ top (header_of n ws)
  pub node : (y : ℕ) → 1 ≤ y → y ≤ n → node_of vs y ≡ change y (node_of ws y)
  pub value : (y : ℕ) → 1 ≤ y → value_record_of n vs y ≡ alter y (value_record_of n ws y)
  pub small : Small ws → Small vs
  pub kept : Keeps (Idle n b c) ws vs

-- nothing is stored yet
pub stays : {m n b c : ℕ} → Bounds m n b c → (ws : List ℕ) → image_length m n ≤ length ws → Stored m n b c ws ws (λ y x. x) (λ y r. r) (λ h. h)
stays bounds ws room =
    record { bounds = bounds; room = room; header = refl; node = λ y l h. refl; value = λ y l. refl; small = λ z. z; kept = unchanged }

-- ---- the idle words

nodes_idle : {m n b c : ℕ} (i : ℕ) → Bounds m n b c → i < b → (k : ℕ) → Idle n b c k → Elsewhere (Nodes n) i k
unfolding header_at record_at data_of
nodes_idle i bounds h k (front l) = record { outside = inl (omega arith); off = λ named. inl (omega (arith, named.low)) }
nodes_idle i bounds h k (spare e) = record { outside = inl (omega arith); off = λ named. inl (omega (arith, named.low)) }
nodes_idle i bounds h k (padding y low high l g) = record { outside = inr (omega arith); off = λ named. part (dec_le i y) }
  where
    part : Dec (i ≤ y) → (k < node_at i) ⊎ (node_at i + 10 ≤ k)
    part (yes e) = inr (omega arith)
    part (no e) = let less : y < i = lt_of_not-le e in inl (omega arith)
nodes_idle i bounds h k (nodes l g) = record { outside = inr (omega arith); off = λ named. inr (omega (arith, named.low)) }
nodes_idle i bounds h k (values l) =
    record { outside = inr (omega (arith, bounds.some_values)); off = λ named. inr (omega (arith, named.low, bounds.most, bounds.some_values)) }

values_idle : {m n b c : ℕ} (j : ℕ) → Bounds m n b c → j < c → (k : ℕ) → Idle n b c k → Elsewhere (Values n m) j k
unfolding header_at record_at data_of
values_idle j bounds h k (front l) = record { outside = inl (omega arith); off = λ named. inl (omega arith) }
values_idle j bounds h k (spare e) = record { outside = inl (omega arith); off = λ named. inl (omega (arith, named.low)) }
values_idle j bounds h k (padding y low high l g) = record { outside = inl (omega arith); off = λ named. inl (omega (arith, named.low)) }
values_idle j bounds h k (nodes l g) = record { outside = inl g; off = λ named. inl (omega (arith, named.low)) }
values_idle j bounds h k (values l) = record { outside = inr (omega arith); off = λ named. inr (omega arith) }

root_idle : {n b c : ℕ} (k : ℕ) → 1 ≤ b → Idle n b c k → k ≢ 2
root_idle k some (front l) e = omega arith
root_idle k some (spare h) e = omega arith
root_idle k some (padding y low high l g) e = omega arith
root_idle k some (nodes l g) e = omega arith
root_idle k some (values l) e = omega arith

module _ {m n b c : ℕ} {ws vs : List ℕ} {f : ℕ → Node → Node} {g : ℕ → ValueRecord → ValueRecord} {t : Header → Header} (s : Stored m n b c ws vs f g t) where
  pub front_after : front_of vs ≡ front_of ws
  front_after = front_kept ws vs (λ k l h. s.kept.word k (front h))

  pub spare_after : spare_of vs ≡ spare_of ws
  unfolding spare_of
  spare_after = s.kept.word 3 (spare refl)

  pub padding_after : (i : ℕ) → 1 ≤ i → i ≤ n → padding_of vs i ≡ padding_of ws i
  padding_after i low high = padding_kept ws vs i (λ k l h. s.kept.word k (padding i low high l h))

-- ---- a store that names a record of one arena

abbrev pub with_root : ℕ → Header → Header
with_root r h = record { root = record { 0 = r }; nodes = h.nodes; values = h.values }

abbrev pub with_nodes : Counts → Header → Header
with_nodes c h = record { root = h.root; nodes = c; values = h.values }

abbrev pub with_values : Counts → Header → Header
with_values c h = record { root = h.root; nodes = h.nodes; values = c }

module _ {m n b c : ℕ} {us ws : List ℕ} {f : ℕ → Node → Node} {g : ℕ → ValueRecord → ValueRecord} {t : Header → Header} (s : Stored m n b c us ws f g t) where
  room_after : (vs : List ℕ) → length vs ≡ length ws → image_length m n ≤ length vs
  room_after vs e = omega (arith, s.room)

  node_step : (i : ℕ) (vs : List ℕ) (change : Node → Node) (top : Header → Header) → i < b → Keeps (Elsewhere (Nodes n) i) ws vs
      → (1 ≤ i → node_of vs i ≡ change (node_of ws i)) → header_of n vs ≡ top (header_of n ws) → (Small ws → Small vs)
      → Stored m n b c us vs (λ y x. changed i change y (f y x)) g (λ h. top (t h))
  node_step i vs change top below kept own header small =
      record {
        bounds = s.bounds;
        room = room_after vs kept.as_many;
        header = header ∙ ap top s.header;
        node = λ y l h. node_changed change kept own y l ∙ ap (changed i change y) (s.node y l h);
        value = λ y l. value_left kept y l ∙ s.value y l;
        small = λ z. small (s.small z);
        kept = keeps_then s.kept (keeps_fewer (nodes_idle i s.bounds below) kept);
      }

  value_step : (j : ℕ) (vs : List ℕ) (alter : ValueRecord → ValueRecord) (top : Header → Header) → j < c → Keeps (Elsewhere (Values n m) j) ws vs
      → (1 ≤ j → value_record_of n vs j ≡ alter (value_record_of n ws j)) → header_of n vs ≡ top (header_of n ws) → (Small ws → Small vs)
      → Stored m n b c us vs f (λ y r. changed j alter y (g y r)) (λ h. top (t h))
  value_step j vs alter top below kept own header small =
      record {
        bounds = s.bounds;
        room = room_after vs kept.as_many;
        header = header ∙ ap top s.header;
        node = λ y l h. node_left kept y l h ∙ s.node y l h;
        value = λ y l. value_changed alter kept own y l ∙ ap (changed j alter y) (s.value y l);
        small = λ z. small (s.small z);
        kept = keeps_then s.kept (keeps_fewer (values_idle j s.bounds below) kept);
      }

  nodes_lie : Lies (Nodes n) (length ws)
  unfolding record_at capacity_of
  nodes_lie = record { room = omega (arith, s.room) }

  values_lie : Lies (Values n m) (length ws)
  unfolding record_at capacity_of
  values_lie = record { room = omega (arith, s.room) }

  node_named : (i : ℕ) → 1 ≤ i → i < b → Inside (Nodes n) i
  unfolding capacity_of
  node_named i l h = record { low = l; high = omega (arith, s.bounds.most) }

  value_named : (j : ℕ) → 1 ≤ j → j < c → Inside (Values n m) j
  unfolding capacity_of
  value_named j l h = record { low = l; high = omega (arith, s.bounds.most_values) }

  -- ---- the stores

  -- a register of a node; of index 0 nothing is stored
  pub store_register : (i v : ℕ) (r : Register) → i < b → v < 2 ^ 32 → Stored m n b c us (set_register (Nodes n) ws i v r) (λ y x. changed i (with_register r v) y (f y x)) g t
  store_register i v r h fits =
      node_step i _ (with_register r v) (λ x. x) h (register_kept (Nodes n) i v r elsewhere_spares unchanged) (λ l. register_own ws nodes_lie (node_named i l h) v r)
      (header_kept (register_kept (Nodes n) i v r node_apart unchanged)) (small_register (Nodes n) ws i v r fits)

  -- a node
  pub store_node : (i : ℕ) (x : Node) → i < b → FitsNode x → Stored m n b c us (set_node n ws i x) (λ y z. changed i (λ w. x) y (f y z)) g t
  store_node i x h fits =
      node_step i _ (λ w. x) (λ w. w) h (node_kept n i x elsewhere_spares unchanged) (λ l. node_own ws nodes_lie (node_named i l h) x)
      (header_kept (node_kept n i x node_apart unchanged)) (small_node n ws i x fits)

  -- a value record
  pub store_value : (j : ℕ) (r : ValueRecord) → j < c → FitsRecord r → Stored m n b c us (set_value m n ws j r) f (λ y z. changed j (λ w. r) y (g y z)) t
  store_value j r h fits =
      value_step j _ (λ w. r) (λ w. w) h (value_kept m n j r elsewhere_spares unchanged) (λ l. value_own ws values_lie (value_named j l h) r)
      (header_kept (value_kept m n j r value_apart unchanged)) (small_value m n ws j r fits)

  -- a record is added, with the header x of its arena: it names none
  pub add_node : (x : Counts) → 1 ≤ x.head → x.head < b → FitsCounts x
      → Stored m n b c us (add_image (Nodes n) ws x) (λ y z. changed x.head (with_register Left 0) y (f y z)) g (λ h. with_nodes (add_counts (Nodes n) ws x) (t h))
  add_node x l h fits =
      let kept = add_kept {us = ws} (Nodes n) x elsewhere_clears elsewhere_spares unchanged in
      let named = node_named x.head l h in
      node_step x.head _ (with_register Left 0) (with_nodes (add_counts (Nodes n) ws x)) h kept (λ _. node_added_own ws nodes_lie x named)
      (nodes_header _ kept (add_counts_lem (Nodes n) ws x nodes_lie named)) (small_added (Nodes n) ws x fits)

  pub add_value : (x : Counts) → 1 ≤ x.head → x.head < c → FitsCounts x
      → Stored m n b c us (add_image (Values n m) ws x) f (λ y z. changed x.head (with_link 0) y (g y z)) (λ h. with_values (add_counts (Values n m) ws x) (t h))
  add_value x l h fits =
      let kept = add_kept {us = ws} (Values n m) x elsewhere_clears elsewhere_spares unchanged in
      let named = value_named x.head l h in
      value_step x.head _ (with_link 0) (with_values (add_counts (Values n m) ws x)) h kept (λ _. value_added_own ws values_lie x named)
      (values_header _ kept (add_counts_lem (Values n m) ws x values_lie named)) (small_added (Values n m) ws x fits)

  -- a record is freed: it names what was the head
  pub free_node_lem : (i : ℕ) (x : Counts) → 1 ≤ i → i < b → FitsCounts x
      → Stored m n b c us (remove_image (Nodes n) ws i x) (λ y z. changed i (with_register Left x.head) y (f y z)) g (λ h. with_nodes (remove_counts (Nodes n) x i) (t h))
  free_node_lem i x l h fits =
      let kept = free_kept {us = ws} (Nodes n) i x elsewhere_clears elsewhere_spares unchanged in
      let named = node_named i l h in
      node_step i _ (with_register Left x.head) (with_nodes (remove_counts (Nodes n) x i)) h kept (λ _. node_removed_own ws nodes_lie named x)
      (nodes_header _ kept (remove_counts_lem (Nodes n) ws i x named nodes_lie)) (small_removed (Nodes n) ws i x (omega (arith, s.bounds.few, named.high)) fits)

  pub free_value_lem : (j : ℕ) (x : Counts) → 1 ≤ j → j < c → FitsCounts x
      → Stored m n b c us (remove_image (Values n m) ws j x) f (λ y z. changed j (with_link x.head) y (g y z)) (λ h. with_values (remove_counts (Values n m) x j) (t h))
  free_value_lem j x l h fits =
      let kept = free_kept {us = ws} (Values n m) j x elsewhere_clears elsewhere_spares unchanged in
      let named = value_named j l h in
      value_step j _ (with_link x.head) (with_values (remove_counts (Values n m) x j)) h kept (λ _. value_removed_own ws values_lie named x)
      (values_header _ kept (remove_counts_lem (Values n m) ws j x named values_lie)) (small_removed (Values n m) ws j x (omega (arith, s.bounds.few_values, named.high)) fits)

  -- the root
  pub store_root : (r : ℕ) → r < 2 ^ 32 → Stored m n b c us (set ws 2 r) f g (λ h. with_root r (t h))
  unfolding header_at
  store_root r fits =
      let kept : Keeps (λ k. k ≢ 2) ws (set ws 2 r) = root_kept r (λ k p. p) unchanged in
      record {
        bounds = s.bounds;
        room = room_after (set ws 2 r) kept.as_many;
        header = header_is m n (set ws 2 r) (get_or-set_same ws 2 r 0 (omega (arith, s.room))) (counts_set (Nodes n) ws 2 r (inl (omega arith))) (counts_set (Values n m) ws 2 r (inl (omega arith)))
            ∙ ap (with_root r) (sym (header_is m n ws refl refl refl) ∙ s.header);
        node = λ y l h. node_same (set ws 2 r) ws y (λ k low high. kept.word k (λ e. omega arith)) ∙ s.node y l h;
        value = λ y l. record_same (set ws 2 r) ws (value_at n y) (λ k low high. kept.word k (λ e. omega arith)) ∙ s.value y l;
        small = λ z. small_set ws 2 r fits (s.small z);
        kept = keeps_then s.kept (keeps_fewer (λ k i. root_idle k s.bounds.some i) kept);
      }
