-- Rule T16: each record is in the tree, on the chain or never used, one of the three. So each node's padding is tested.
use Rattle.std.specs.Prelude.{◌≡◌, refl, ◌≢◌, ◌⊎◌, ℕ, ◌+◌, ◌-◌, ◌*◌, ◌≤◌}
use Rattle.std.proofs.Math.Path.{sym}
use Rattle.std.proofs.Common.{subst, ◌∙◌, inl, inr, arith, length-append}
use mathlib.Core.List.{List, [], ◌∷◌, ◌++◌, map}
use Rattle.std.proofs.Math.Option.{none, some}
use Rattle.std.proofs.Math.ListN.{length, length-map}
use Rattle.words.specs.Wide.{wide_at}
use Rattle.words.specs.Zeros.{Zeros}
use Rattle.node_allocator.specs.Layout.{node_at, value_at}
use Rattle.node_allocator.specs.declared.Counts.{Counts}
use Rattle.records.specs.declared.Header.{Header}
use Rattle.records.specs.Records.{header_of, node_of, padding_of, value_record_of}
use Rattle.lists.specs.Lists.{All, all_map, all_append, all_mapped, pairs_append, pairs_mapped}
use Rattle.trees.specs.Tree.{Tree, leaf, inner, entries}
use Rattle.trees.specs.Nodes.{In}
use Rattle.trees.specs.Map.{Map, list_of}
use Rattle.trees.specs.Values.{Entry, Numbered}
use Rattle.accepted.specs.Rules.{HeaderRules, Live, FreeNode, FreeValue, Chain, NodeChain}
use Rattle.accepted.specs.Accepted.{Accepted, HoldsMap, nodes_in}
use Rattle.accepted.specs.Held.{Once, once, in_range, some_nodes, entries_used}
use Rattle.accepted.specs.Apart.{chain_once, node_not_free, live_not_free}
use Rattle.accepted.specs.Frame.{chain_range}
use Rattle.accepted_check.specs.Pigeons.{Has, Distinct, UpTo, has_all, has_left, has_right, OneOfThree, three_alike, three_places}

-- ---- the records of a tree

-- its nodes
abbrev pub nodes_of : Tree → List ℕ
nodes_of (leaf i key v) = i ∷ []
nodes_of (inner i key p l r) = i ∷ (nodes_of l ++ nodes_of r)

abbrev nodes_of_map : Map → List ℕ
nodes_of_map none = []
nodes_of_map (some t) = nodes_of t

abbrev pub InMap : ℕ → Map → Type 0
InMap x none = ⊥
InMap x (some t) = In x t

-- the value records that its leaves name
abbrev pub named_by : List Entry → List ℕ
named_by es = map (λ (e : Entry). e.1) es

nodes_length : (t : Tree) → length (nodes_of t) ≡ nodes_in t
unfolding nodes_in
nodes_length (leaf i key v) = refl
nodes_length (inner i key p l r) = simp length-append (omega (arith, nodes_length l, nodes_length r))

-- a fact of every node
all_nodes : (P : ℕ → Type 0) (t : Tree) → ((x : ℕ) → In x t → P x) → All P (nodes_of t)
all_nodes P (leaf i key v) f = (f i refl, tt)
all_nodes P (inner i key p l r) f =
    let left = all_nodes P l (λ x q. f x (inr (inl q))) in
    let right = all_nodes P r (λ x q. f x (inr (inr q))) in
    (f i (inl refl), all_append P (nodes_of l) (nodes_of r) left right)

-- what stands in the list is a node of the tree
pub has_in : (x : ℕ) (t : Tree) → Has x (nodes_of t) → In x t
has_in x t q = has_all (λ y. In y t) x (nodes_of t) (all_nodes (λ y. In y t) t (λ y z. z)) q

pub in_has : (x : ℕ) (t : Tree) → In x t → Has x (nodes_of t)
in_has x (leaf i key v) e = inl e
in_has x (inner i key p l r) (inl e) = inl e
in_has x (inner i key p l r) (inr (inl q)) = inr (has_left x (nodes_of l) (nodes_of r) (in_has x l q))
in_has x (inner i key p l r) (inr (inr q)) = inr (has_right x (nodes_of l) (nodes_of r) (in_has x r q))

module _ (h : Header) (ws : List ℕ) where
  nodes_distinct : (t : Tree) → Once h ws t → Distinct (nodes_of t)
  nodes_distinct (leaf i key v) o = (tt, tt)
  nodes_distinct (inner i key p l r) o = (
    all_append (λ y. i ≢ y) (nodes_of l) (nodes_of r) (all_nodes (λ y. i ≢ y) l (λ x q e. o.0 (subst (λ y. In y l) (sym e) q)))
        (all_nodes (λ y. i ≢ y) r (λ x q e. o.1 (subst (λ y. In y r) (sym e) q))),
    pairs_append (λ (x y : ℕ). x ≢ y) (nodes_of l) (nodes_of r) (nodes_distinct l o.3) (nodes_distinct r o.4)
        (all_nodes (λ x. All (λ y. x ≢ y) (nodes_of r)) l
        (λ x q. all_nodes (λ y. x ≢ y) r (λ y z e. o.2 x q (subst (λ u. In u r) (sym e) z)))),
  )

-- a tree has one node less than twice its entries
entries_count : (t : Tree) → nodes_in t + 1 ≡ 2 * length (entries t)
unfolding nodes_in
entries_count (leaf i key v) = refl
entries_count (inner i key p l r) = simp length-append (omega (arith, entries_count l, entries_count r))

-- ---- the records of a chain

module _ (Free : ℕ → Type 0) (next : ℕ → ℕ) (bump : ℕ) where
  chain_distinct : (i : ℕ) (xs : List ℕ) → Chain Free next bump i xs → Distinct xs
  unfolding Chain
  chain_distinct i [] c = tt
  chain_distinct i (x ∷ xs) c = (all_map (λ y d e. d (sym e)) xs (chain_once Free next bump i x xs c), chain_distinct (next x) xs c.rest)

  chain_up_to : (i : ℕ) (xs : List ℕ) → Chain Free next bump i xs → UpTo (bump - 1) xs
  chain_up_to i xs c = all_map (λ x k. (k.0, omega (arith, k.1))) xs (chain_range Free next bump i xs c)

  chain_free : (i : ℕ) (xs : List ℕ) → Chain Free next bump i xs → All Free xs
  chain_free i xs c = all_map (λ x k. k.2) xs (chain_range Free next bump i xs c)

-- ---- one of the three

-- at or above the bump, all zeros
pub record NeverUsed (ws : List ℕ) (bump at width x : ℕ) : Type 0 where
  pub beyond : bump ≤ x
  pub zeros : Zeros ws at width

-- the records of an arena that a tree uses: different ones below the bump, as many as size says
record Uses (c : Counts) (xs : List ℕ) : Type 0 where
  different : Distinct xs
  within : UpTo (c.bump - 1) xs
  many : length xs ≡ c.size

-- the chain has the others
chained : (c : Counts) (Free : ℕ → Type 0) (next : ℕ → ℕ) (xs ys : List ℕ) → Uses c xs → Chain Free next c.bump c.head ys
    → length ys ≡ c.bump - 1 - c.size → ((x : ℕ) → Has x xs → Free x → ⊥)
    → (x : ℕ) → 1 ≤ x → OneOfThree (Has x xs) (Has x ys) (c.bump ≤ x)
chained c Free next xs ys u k count taken =
    three_places c.bump xs ys u.different (chain_distinct Free next c.bump c.head ys k)
    (λ x q f. taken x q (has_all Free x ys (chain_free Free next c.bump c.head ys k) f))
    u.within (chain_up_to Free next c.bump c.head ys k) (omega (arith, u.many))

map_in : (x : ℕ) (t : Map) → Has x (nodes_of_map t) → InMap x t
map_in x none q = q
map_in x (some t) q = has_in x t q

in_map : (x : ℕ) (t : Map) → InMap x t → Has x (nodes_of_map t)
in_map x none q = q
in_map x (some t) q = in_has x t q

-- by the header, the tree and the chain alone: what the check has at hand before it knows that the image is accepted
module _ {m n : ℕ} {h : Header} (ws : List ℕ) (rules : HeaderRules m n h) where
  tree_nodes : (t : Map) → HoldsMap h ws t → Uses h.nodes (nodes_of_map t)
  unfolding HoldsMap
  tree_nodes none k = record { different = tt; within = tt; many = omega (arith, rules.node_size) }
  tree_nodes (some t) k =
      record {
        different = nodes_distinct h ws t (once h ws 0 0 t k.held);
        within =
            all_nodes (λ x. (1 ≤ x) × (x ≤ h.nodes.bump - 1)) t
            (λ x q. let r = in_range h ws 0 0 t x k.held q in (r.0, omega (arith, r.1)));
        many = nodes_length t ∙ k.counted;
      }

  node_taken : (t : Map) → HoldsMap h ws t → (x : ℕ) → Has x (nodes_of_map t) → FreeNode h x (node_of ws x) → ⊥
  unfolding HoldsMap
  node_taken none k x q f = q
  node_taken (some t) k x q f = node_not_free h ws 0 0 t x k.held (has_in x t q) f

  module _ (t : Map) (xs : List ℕ) (k : HoldsMap h ws t) (c : NodeChain h ws xs)
      (count : length xs ≡ h.nodes.bump - 1 - h.nodes.size) where
    nodes_placed : (x : ℕ) → 1 ≤ x → OneOfThree (Has x (nodes_of_map t)) (Has x xs) (h.nodes.bump ≤ x)
    nodes_placed = chained h.nodes _ _ (nodes_of_map t) xs (tree_nodes t k) c count (node_taken t k)

    -- padding is zero, where it is in the tree, on the chain, and in what was never used
    pub padding_zero : ((x : ℕ) → InMap x t → padding_of ws x ≡ 0) → All (λ x. padding_of ws x ≡ 0) xs
        → Zeros ws (node_at h.nodes.bump) (12 * (n + 1 - h.nodes.bump)) → (i : ℕ) → 1 ≤ i → i ≤ n → padding_of ws i ≡ 0
    unfolding padding_of wide_at
    padding_zero in_tree on_chain unused i low high = go (nodes_placed i low).at_least
      where
        go : Has i (nodes_of_map t) ⊎ (Has i xs ⊎ (h.nodes.bump ≤ i)) → padding_of ws i ≡ 0
        go (inl q) = in_tree i (map_in i t q)
        go (inr (inl q)) = has_all (λ x. padding_of ws x ≡ 0) i xs on_chain q
        go (inr (inr l)) =
            rw (unused (node_at i + 10) (omega arith) (omega arith), unused (node_at i + 10 + 1) (omega arith) (omega arith))

module _ {m n : ℕ} {ws : List ℕ} (a : Accepted m n ws) where
  -- Each node is in the tree, on the chain of free nodes, or never used, and only one of the three.
  pub node_places : (x : ℕ) → 1 ≤ x → x ≤ n
      → OneOfThree (InMap x a.tree) (Has x a.free_nodes) (NeverUsed ws (header_of n ws).nodes.bump (node_at x) 12 x)
  node_places x low high =
      three_alike (map_in x a.tree) (in_map x a.tree)
      (λ l. record { beyond = l; zeros = λ j p q. a.nodes_unused j (omega arith) (omega arith) })
      (λ u. u.beyond)
      (nodes_placed ws a.header a.tree a.free_nodes a.holds a.node_chain a.node_count x low)

  tree_values : (t : Map) → HoldsMap (header_of n ws) ws t → Numbered (list_of t) → Uses (header_of n ws).values (named_by (list_of t))
  unfolding HoldsMap
  tree_values none k d = record { different = tt; within = tt; many = sym k }
  tree_values (some t) k d =
      record {
        different = pairs_mapped (λ (i j : ℕ). i ≢ j) (λ (e : Entry). e.1) (entries t) d.different;
        within =
            all_mapped (λ (j : ℕ). (1 ≤ j) × (j ≤ (header_of n ws).values.bump - 1)) (λ (e : Entry). e.1) (entries t)
            (all_map (λ e u. (u.0, omega (arith, u.1))) (entries t) (entries_used (header_of n ws) ws 0 0 t k.held));
        many =
            let same : length (named_by (entries t)) ≡ length (entries t) = length-map (entries t) (λ (e : Entry). e.1) in
            omega (arith, entries_count t, k.counted, a.header.node_size, some_nodes t);
      }

  value_taken : (j : ℕ) → Has j (named_by (list_of a.tree)) → FreeValue (header_of n ws) j (value_record_of n ws j) → ⊥
  value_taken j q f =
      let each = all_mapped (λ (i : ℕ). Live (value_record_of n ws i)) (λ (e : Entry). e.1) (list_of a.tree) a.live in
      live_not_free (header_of n ws) j (value_record_of n ws j)
      (has_all (λ i. Live (value_record_of n ws i)) j (named_by (list_of a.tree)) each q) f

  -- Each value record is named by a leaf, on the chain of free value records, or never used, and only one of the three.
  pub value_places : (j : ℕ) → 1 ≤ j → j ≤ m
      → OneOfThree (Has j (named_by (list_of a.tree))) (Has j a.free_values)
      (NeverUsed ws (header_of n ws).values.bump (value_at n j) 8 j)
  value_places j low high =
      three_alike (λ q. q) (λ q. q)
      (λ l. record { beyond = l; zeros = λ i p q. a.values_unused i (omega arith) (omega arith) })
      (λ u. u.beyond)
      (chained (header_of n ws).values _ _ (named_by (list_of a.tree)) a.free_values
      (tree_values a.tree a.holds a.different) a.value_chain a.value_count value_taken j low)
