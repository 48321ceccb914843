-- The records that insert takes pass their tests: each is the first of its free chain, or the one at the bump, whose
-- words are 0.
use Rattle.std.specs.Prelude.{◌≡◌, Bool, true, cond, ◌&&◌, ℕ, ◌+◌, ◌≤◌, ◌<◌, leb, ltb}
use Rattle.std.proofs.Common.{sym, subst, arith}
use mathlib.Core.List.{List, [], ◌∷◌}
use borrow.Author.Tests.{lt-ltb, le-ltb, le-leb, eq-eqb, ne_eqb}
use Rattle.words.specs.Zeros.{zeros_exact}
use Rattle.node_allocator.specs.declared.Arena.TheVariants.{Nodes, Values}
use Rattle.node_allocator.specs.Layout.{node_at, value_at, record_at, width_of}
use Rattle.node_allocator.specs.Steps.{never_used}
use Rattle.records.specs.declared.Header.{Header}
use Rattle.records.specs.Records.{header_of, node_of, value_record_of}
use Rattle.insert.specs.Plan.{taken_node, next_node, taken_value, leaf_tests, split_tests}
use Rattle.accepted.specs.Rules.{Chain}
use Rattle.accepted.specs.Accepted.{Accepted}
use Rattle.accepted.specs.Tests.{free_node_passes, free_value_passes}
use Rattle.accepted_insert.specs.Arenas.{Part, head_most, part_taken, FreeNodeOf, next_node_of, FreeValueOf, node_part, value_part}

-- where a chain begins: at a free record below the bump, or at the bump
chain_passes : (Free : ℕ → Type 0) (next : ℕ → ℕ) (bump limit : ℕ) (free unused : ℕ → Bool)
    → ((i : ℕ) → 1 ≤ i → i < bump → Free i → free i ≡ true)
    → ((i : ℕ) → bump ≤ i → i ≤ limit → unused i ≡ true) → (i : ℕ) (us : List ℕ) → Chain Free next bump i us → i ≤ limit
    → cond (ltb i bump) (free i) (leb i limit && unused i) ≡ true
unfolding Chain
chain_passes Free next bump limit free unused f g i [] c most =
    rw (le-ltb i bump (omega (arith, c)), le-leb i limit most) (g i (omega (arith, c)) most)
chain_passes Free next bump limit free unused f g i (x ∷ us) c most =
    rw (lt-ltb i bump (omega (arith, c.here, c.used)))
    (f i (omega (arith, c.here, c.some)) (omega (arith, c.here, c.used)) (subst Free (sym c.here) c.free))

module _ {m n : ℕ} {ws : List ℕ} (a : Accepted m n ws) where
  abbrev h : Header
  h = header_of n ws

  -- ---- a node

  unused_node : (i : ℕ) → h.nodes.bump ≤ i → i ≤ n → never_used (Nodes n) ws i ≡ true
  unfolding never_used record_at width_of
  unused_node i l most =
      (zeros_exact ws (node_at i) 12).1
      (λ k p q. a.nodes_unused k (omega arith) (omega (arith, a.header.nodes.bump_some)))

  node_taken : (i : ℕ) (us : List ℕ) → Chain (FreeNodeOf n ws) (next_node_of ws) h.nodes.bump i us → i ≤ n
      → taken_node n h ws i ≡ true
  unfolding taken_node
  node_taken =
      chain_passes (FreeNodeOf n ws) (next_node_of ws) h.nodes.bump n _ _
      (λ i l b. free_node_passes h ws i (node_of ws i) (a.padding i l (omega (arith, a.header.nodes.bump_most))))
      unused_node

  next_taken : (us : List ℕ) → Part h.nodes n (FreeNodeOf n ws) (next_node_of ws) us → h.nodes.size + 2 ≤ n
      → taken_node n h ws (next_node h ws h.nodes.head) ≡ true
  unfolding Chain next_node taken_node
  next_taken [] p room =
      let next : h.nodes.head + 1 ≤ n =
      omega (arith, p.chain, head_most [] (part_taken [] p (omega arith)) (omega arith)) in
      rw (
        eq-eqb h.nodes.head h.nodes.bump p.chain,
        le-ltb (h.nodes.head + 1) h.nodes.bump (omega (arith, p.chain)),
        le-leb (h.nodes.head + 1) n next,
      )
      (unused_node (h.nodes.head + 1) (omega (arith, p.chain)) next)
  next_taken (x ∷ us) p room =
      rw (ne_eqb h.nodes.head h.nodes.bump (λ e. omega (arith, p.chain.here, p.chain.used)))
      (subst (λ (y : ℕ). taken_node n h ws (next_node_of ws y) ≡ true) (sym p.chain.here)
      (node_taken (next_node_of ws x) us p.chain.rest
      (head_most us (part_taken (x ∷ us) p (omega arith)) (omega arith))))

  -- ---- a value record

  unused_value : (j : ℕ) → h.values.bump ≤ j → j ≤ m → never_used (Values n m) ws j ≡ true
  unfolding never_used record_at width_of
  unused_value j l most = (zeros_exact ws (value_at n j) 8).1 (λ k p q. a.values_unused k (omega arith) (omega arith))

  value_taken : h.values.head ≤ m → taken_value m n h ws h.values.head ≡ true
  unfolding taken_value
  value_taken most =
      chain_passes (FreeValueOf n ws) _ h.values.bump m _ _ (λ j l b. free_value_passes h j (value_record_of n ws j))
      unused_value
      h.values.head a.free_values a.value_chain most

  -- ---- together

  pub new_leaf_passes : h.nodes.size < n → h.values.size < m → leaf_tests m n h ws ≡ true
  unfolding leaf_tests
  new_leaf_passes s r =
      rw (
        node_taken h.nodes.head a.free_nodes a.node_chain (head_most a.free_nodes (node_part a) s),
        value_taken (head_most a.free_values (value_part a) r),
      )

  pub split_passes : h.nodes.size + 2 ≤ n → h.values.size < m → split_tests m n h ws ≡ true
  unfolding split_tests
  split_passes s r = rw (new_leaf_passes (omega arith) r, next_taken a.free_nodes (node_part a) s)
