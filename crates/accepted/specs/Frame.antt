-- What the rules of an image depend on: its header, its nodes, its value records and its unused words. What a row of stores leaves of these keeps its rules.
use Rattle.std.specs.Prelude.{◌≡◌, refl, List, [], ◌∷◌, ◌≢◌, ℕ, ◌+◌, ◌-◌, ◌*◌, ◌≤◌, ◌<◌}
use Rattle.std.proofs.Common.{ap, subst, ◌∙◌, inl, inr, ⊎_elim, arith}
use Rattle.words.specs.Zeros.{Zeros}
use Rattle.node_allocator.specs.Layout.{node_at, value_at}
use Rattle.records.specs.declared.Header.{Header}
use Rattle.records.specs.declared.Node.{Node}
use Rattle.records.specs.declared.ValueRecord.{ValueRecord}
use Rattle.records.specs.Records.{header_of, node_of, with_parent}
use Rattle.lists.specs.Lists.{All}
use Rattle.trees.specs.Tree.{Tree, leaf, inner, top, prefix_of, relabel}
use Rattle.trees.specs.Nodes.{In, Child, is_top}
use Rattle.record_views.specs.Stored.{Bounds, nodes, values, Stored}
use Rattle.accepted.specs.Rules.{Holds, Chain}
use Rattle.accepted.specs.Accepted.{Accepted}
use Rattle.accepted.specs.Held.{once}

-- a tree is held where its nodes' records stay, and the bumps do not fall
pub holds_kept : (h g : Header) (ws vs : List ℕ) → h.nodes.bump ≤ g.nodes.bump → h.values.bump ≤ g.values.bump
    → (parent low : ℕ) (t : Tree) → ((x : ℕ) → In x t → node_of vs x ≡ node_of ws x) → Holds h ws parent low t → Holds g vs parent low t
unfolding Holds
holds_kept h g ws vs p q parent low (leaf i key v) e k =
    record { index_some = k.index_some; index_used = omega (arith, k.index_used); here = e i refl ∙ k.here; rises = k.rises; value_some = k.value_some; value_used = omega (arith, k.value_used) }
holds_kept h g ws vs p q parent low (inner i key c l r) e k =
    record {
      index_some = k.index_some;
      index_used = omega (arith, k.index_used);
      here = e i (inl refl) ∙ k.here;
      rises = k.rises;
      short = k.short;
      two = k.two;
      on_left = holds_kept h g ws vs p q i (c + 1) l (λ x z. e x (inr (inl z))) k.on_left;
      on_right = holds_kept h g ws vs p q i (c + 1) r (λ x z. e x (inr (inr z))) k.on_right;
    }

-- and where its top has another Parent, and no other node changes
pub holds_moved : (h g : Header) (ws vs : List ℕ) → h.nodes.bump ≤ g.nodes.bump → h.values.bump ≤ g.values.bump → (parent parent' low : ℕ) (t : Tree)
    → node_of vs (top t) ≡ with_parent parent' (node_of ws (top t)) → ((y : ℕ) → In y t → y ≢ top t → node_of vs y ≡ node_of ws y)
    → Holds h ws parent low t → Holds g vs parent' low t
unfolding Holds
holds_moved h g ws vs b c parent parent' low (leaf i key v) e kept k =
    record {
      index_some = k.index_some;
      index_used = omega (arith, k.index_used);
      here = e ∙ ap (with_parent parent') k.here;
      rises = k.rises;
      value_some = k.value_some;
      value_used = omega (arith, k.value_used);
    }
holds_moved h g ws vs b c parent parent' low (inner i key p l r) e kept k =
    let o = once h ws parent low (inner i key p l r) k in
    record {
      index_some = k.index_some;
      index_used = omega (arith, k.index_used);
      here = e ∙ ap (with_parent parent') k.here;
      rises = k.rises;
      short = k.short;
      two = k.two;
      on_left = holds_kept h g ws vs b c i (p + 1) l (λ y z. kept y (inr (inl z)) (λ q. o.0 (subst (λ x. In x l) q z))) k.on_left;
      on_right = holds_kept h g ws vs b c i (p + 1) r (λ y z. kept y (inr (inr z)) (λ q. o.1 (subst (λ x. In x r) q z))) k.on_right;
    }

-- and where the whole tree hangs at node j below another: j holds what its top held, the top's children have Parent j, and no other node of it changes
pub holds_relabelled : (h g : Header) (ws vs : List ℕ) → h.nodes.bump ≤ g.nodes.bump → h.values.bump ≤ g.values.bump
    → (parent low parent' low' j : ℕ) (t : Tree) → 1 ≤ j → j < g.nodes.bump → low' ≤ prefix_of t
    → node_of vs j ≡ with_parent parent' (node_of ws (top t)) → ((y : ℕ) → Child y t → node_of vs y ≡ with_parent j (node_of ws y))
    → ((y : ℕ) → In y t → y ≢ top t → (Child y t → ⊥) → node_of vs y ≡ node_of ws y) → Holds h ws parent low t → Holds g vs parent' low' (relabel j t)
unfolding Holds
holds_relabelled h g ws vs b c parent low parent' low' j (leaf i key v) index used rises e kid kept k =
    record {
      index_some = index;
      index_used = used;
      here = e ∙ ap (with_parent parent') k.here;
      rises = rises;
      value_some = k.value_some;
      value_used = omega (arith, k.value_used);
    }
holds_relabelled h g ws vs b c parent low parent' low' j (inner i key p l r) index used rises e kid kept k =
    let o = once h ws parent low (inner i key p l r) k in
    record {
      index_some = index;
      index_used = used;
      here = e ∙ ap (with_parent parent') k.here;
      rises = rises;
      short = k.short;
      two = k.two;
      on_left = holds_moved h g ws vs b c i j (p + 1) l (kid (top l) (inl refl))
          (λ y z d. kept y (inr (inl z)) (λ f. o.0 (subst (λ x. In x l) f z)) (λ q. ⊎_elim d (λ f. o.2 y z (is_top r f)) q)) k.on_left;
      on_right = holds_moved h g ws vs b c i j (p + 1) r (kid (top r) (inr refl))
          (λ y z d. kept y (inr (inr z)) (λ f. o.1 (subst (λ x. In x r) f z)) (λ q. ⊎_elim (λ f. o.2 y (is_top l f) z) d q)) k.on_right;
    }

-- a chain where its records stay free and name the same
pub chain_kept : (Free Free' : ℕ → Type 0) (next next' : ℕ → ℕ) (bump i : ℕ) (xs : List ℕ)
    → All (λ x. (Free x → Free' x) × (next' x ≡ next x)) xs → Chain Free next bump i xs → Chain Free' next' bump i xs
unfolding Chain
chain_kept Free Free' next next' bump i [] e c = c
chain_kept Free Free' next next' bump i (x ∷ xs) e c =
    record { here = c.here; some = c.some; used = c.used; free = e.0.0 c.free; rest = rw e.0.1 (chain_kept Free Free' next next' bump (next x) xs e.1 c.rest) }

-- each record of a chain lies below the bump
pub chain_range : (Free : ℕ → Type 0) (next : ℕ → ℕ) (bump i : ℕ) (xs : List ℕ) → Chain Free next bump i xs → All (λ x. (1 ≤ x) × (x < bump) × Free x) xs
unfolding Chain
chain_range Free next bump i [] c = tt
chain_range Free next bump i (x ∷ xs) c = ((c.some, c.used, c.free), chain_range Free next bump (next x) xs c.rest)

-- ---- a row of stores

-- the bounds of stores to records below the bumps
pub accepted_bounds : {m n : ℕ} {ws : List ℕ} → Accepted m n ws → Bounds m n (header_of n ws).nodes.bump (header_of n ws).values.bump
accepted_bounds a =
    record {
      few = a.shape.nodes_most;
      some = a.header.nodes.bump_some;
      most = a.header.nodes.bump_most;
      few_values = a.shape.most;
      some_values = a.header.values.bump_some;
      most_values = a.header.values.bump_most;
    }

-- the unused words stay, from the bounds on
module _ {m n b c : ℕ} {ws vs : List ℕ} {f : ℕ → Node → Node} {g : ℕ → ValueRecord → ValueRecord} {t : Header → Header} (s : Stored m n b c ws vs f g t) where
  pub nodes_unused_after : {bump : ℕ} → bump ≤ b → Zeros ws (node_at bump) (12 * (n + 1 - bump)) → Zeros vs (node_at b) (12 * (n + 1 - b))
  nodes_unused_after {bump} l z k low high =
      s.kept.word k (nodes low (omega (arith, s.bounds.some, s.bounds.most))) ∙ z k (omega arith) (omega (arith, s.bounds.most))

  pub values_unused_after : {bump : ℕ} → bump ≤ c → Zeros ws (value_at n bump) (8 * (m + 1 - bump)) → Zeros vs (value_at n c) (8 * (m + 1 - c))
  values_unused_after {bump} l z k low high = s.kept.word k (values low) ∙ z k (omega arith) (omega (arith, s.bounds.most_values))
