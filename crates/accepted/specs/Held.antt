-- A tree that an image holds: every node of it passes its test, no node stands at two places, the words determine it, and its entries name used value records.
use Rattle.std.specs.Prelude.{◌≡◌, refl, List, ◌⊎◌, true, not, ℕ, ◌+◌, ◌≤◌, ◌<◌, eqb, leb}
use Rattle.std.proofs.Math.Path.{sym, ap}
use Rattle.std.proofs.Common.{subst, subst₂, ◌∙◌, arith}
use Rattle.std.proofs.Math.Logic.{inl, inr, ⊎_elim}
use Rattle.std.proofs.Math.Option.{none, some}
use Rattle.std.specs.Bool.{beq}
use borrow.Author.Tests.{le-leb, lt-ltb, eq-eqb, ne_eqb}
use Rattle.records.specs.declared.Header.{Header}
use Rattle.records.specs.declared.Node.{Node}
use Rattle.records.specs.Records.{header_of, node_of, padding_of, leaf_node, inner_node}
use Rattle.inspection.specs.Tests.{form_ok, node_ok, root_ok, kids_ok}
use Rattle.lists.specs.Lists.{All, all_append}
use Rattle.trees.specs.Tree.{Tree, leaf, inner, top, entries}
use Rattle.trees.specs.Map.{Map, list_of}
use Rattle.trees.specs.Nodes.{In, in_top}
use Rattle.accepted.specs.Rules.{HeaderRules, Holds}
use Rattle.accepted.specs.Accepted.{nodes_in, HoldsMap, Accepted}
use Rattle.accepted.specs.Tests.{padding_passes}

-- ---- each node passes its test

-- a tree has a node
pub some_nodes : (t : Tree) → 1 ≤ nodes_in t
unfolding nodes_in
some_nodes (leaf i key v) = omega arith
some_nodes (inner i key p l r) = omega arith

-- the top of a tree is a node
pub top_used : (h : Header) (ws : List ℕ) (parent low : ℕ) (t : Tree) → Holds h ws parent low t → (1 ≤ top t) × (top t < h.nodes.bump)
unfolding Holds
top_used h ws parent low (leaf i key v) k = (k.index_some, k.index_used)
top_used h ws parent low (inner i key p l r) k = (k.index_some, k.index_used)

-- the padding of every node below the bump is zero
abbrev pub Clean : Header → List ℕ → Type 0
Clean h ws = (i : ℕ) → 1 ≤ i → i < h.nodes.bump → padding_of ws i ≡ 0

pub accepted_clean : {m n : ℕ} {ws : List ℕ} → Accepted m n ws → Clean (header_of n ws) ws
accepted_clean a i low high = a.padding i low (omega (arith, a.header.nodes.bump_most))

-- the root's rule: a leaf exactly if n is 1
pub root_passes : (m n : ℕ) (h : Header) (ws : List ℕ) (t : Tree) → HeaderRules m n h → top t ≡ h.root.0 → nodes_in t ≡ h.nodes.size → Holds h ws 0 0 t
    → root_ok h ws ≡ true
unfolding root_ok nodes_in Holds
root_passes m n h ws t rules at_root counted k =
    rw (← at_root, le-leb 1 (top t) (top_used h ws 0 0 t k).0, lt-ltb (top t) h.nodes.bump (top_used h ws 0 0 t k).1) (go t counted k)
  where
    go : (t : Tree) → nodes_in t ≡ h.nodes.size → Holds h ws 0 0 t → beq (not (eqb (node_of ws (top t)).value.0 0)) (eqb h.values.size 1) ≡ true
    go (leaf i key v) e k =
        rw (k.here, ne_eqb v 0 (λ z. omega (arith, k.value_some)), eq-eqb h.values.size 1 (omega (arith, rules.node_size)))
    go (inner i key p l r) e k =
        rw (k.here, ne_eqb h.values.size 1 (λ z. omega (arith, rules.node_size, some_nodes l, some_nodes r)))

module _ (h : Header) (ws : List ℕ) where
  pub form_passes : Clean h ws → (parent low : ℕ) (t : Tree) → Holds h ws parent low t → form_ok h ws (top t) ≡ true
  unfolding form_ok Holds
  form_passes clean parent low (leaf i key v) k =
      rw (
        le-leb 1 i k.index_some,
        lt-ltb i h.nodes.bump k.index_used,
        padding_passes ws i (clean i k.index_some k.index_used),
        k.here,
        le-leb 1 v k.value_some,
        lt-ltb v h.values.bump k.value_used,
      )
  form_passes clean parent low (inner i key p l r) k =
      rw (
        le-leb 1 i k.index_some,
        lt-ltb i h.nodes.bump k.index_used,
        padding_passes ws i (clean i k.index_some k.index_used),
        k.here,
        ne_eqb (top l) 0 (λ e. omega (arith, (top_used h ws i (p + 1) l k.on_left).0)),
        ne_eqb (top r) 0 (λ e. omega (arith, (top_used h ws i (p + 1) r k.on_right).0)),
        ne_eqb (top l) (top r) k.two,
        lt-ltb p 128 k.short,
      )

  links_pass : (parent low : ℕ) (t : Tree) → Holds h ws parent low t → (eqb (node_of ws (top t)).parent.0 parent ≡ true) × (leb low (node_of ws (top t)).prefix ≡ true)
  unfolding Holds
  links_pass parent low (leaf i key v) k = (rw k.here (eq-eqb parent parent refl), rw k.here (le-leb low 128 k.rises))
  links_pass parent low (inner i key p l r) k = (rw k.here (eq-eqb parent parent refl), rw k.here (le-leb low p k.rises))

  pub node_passes : Clean h ws → (parent low : ℕ) (t : Tree) → Holds h ws parent low t → node_ok h ws (top t) parent low ≡ true
  unfolding node_ok
  node_passes clean parent low t k = rw (form_passes clean parent low t k, (links_pass parent low t k).0, (links_pass parent low t k).1)

  -- the children of a node are visited nodes
  pub kids_pass : Clean h ws → (parent low : ℕ) (t : Tree) → Holds h ws parent low t → kids_ok h ws (top t) (node_of ws (top t)) ≡ true
  unfolding kids_ok Holds
  kids_pass clean parent low (leaf i key v) k = rw (k.here, ne_eqb v 0 (λ z. omega (arith, k.value_some)))
  kids_pass clean parent low (inner i key p l r) k =
      rw (k.here, lt-ltb p 128 k.short, node_passes clean i (p + 1) l k.on_left, node_passes clean i (p + 1) r k.on_right)

  -- ---- no node stands at two places

  rises : (parent low : ℕ) (t : Tree) (x : ℕ) → Holds h ws parent low t → In x t → low ≤ (node_of ws x).prefix
  unfolding Holds
  rises parent low (leaf i key v) x k q = rw (q, k.here) k.rises
  rises parent low (inner i key p l r) x k (inl q) = rw (q, k.here) k.rises
  rises parent low (inner i key p l r) x k (inr (inl q)) = omega (arith, k.rises, rises i (p + 1) l x k.on_left q)
  rises parent low (inner i key p l r) x k (inr (inr q)) = omega (arith, k.rises, rises i (p + 1) r x k.on_right q)

  pub top_parent : (parent low : ℕ) (t : Tree) → Holds h ws parent low t → (node_of ws (top t)).parent.0 ≡ parent
  unfolding Holds
  top_parent parent low (leaf i key v) k = rw k.here
  top_parent parent low (inner i key p l r) k = rw k.here

  parent_of : (parent low : ℕ) (t : Tree) (x : ℕ) → Holds h ws parent low t → x ≡ top t → (node_of ws x).parent.0 ≡ parent
  parent_of parent low t x k e = rw (e, top_parent parent low t k)

  pub in_range : (parent low : ℕ) (t : Tree) (x : ℕ) → Holds h ws parent low t → In x t → (1 ≤ x) × (x < h.nodes.bump)
  unfolding Holds
  in_range parent low (leaf i key v) x k q = rw q (k.index_some, k.index_used)
  in_range parent low (inner i key p l r) x k (inl q) = rw q (k.index_some, k.index_used)
  in_range parent low (inner i key p l r) x k (inr (inl q)) = in_range i (p + 1) l x k.on_left q
  in_range parent low (inner i key p l r) x k (inr (inr q)) = in_range i (p + 1) r x k.on_right q

  -- a node is the top, or its Parent is a node
  up : (parent low : ℕ) (t : Tree) (x : ℕ) → Holds h ws parent low t → In x t → (x ≡ top t) ⊎ In (node_of ws x).parent.0 t
  unfolding Holds
  up parent low (leaf i key v) x k q = inl q
  up parent low (inner i key p l r) x k (inl q) = inl q
  up parent low (inner i key p l r) x k (inr (inl q)) = inr (⊎_elim (λ e. inl (parent_of i (p + 1) l x k.on_left e)) (λ d. inr (inl d)) (up i (p + 1) l x k.on_left q))
  up parent low (inner i key p l r) x k (inr (inr q)) = inr (⊎_elim (λ e. inl (parent_of i (p + 1) r x k.on_right e)) (λ d. inr (inr d)) (up i (p + 1) r x k.on_right q))

  -- one step up: where the top of s is a node of t, its Parent i is one too, or the two tops are one
  meet_above : (i low : ℕ) (s : Tree) (b low' : ℕ) (t : Tree) → Holds h ws i low s → Holds h ws b low' t → In (top s) t ⊎ In (top t) s → In i t ⊎ In (top t) s
  meet_above i low s b low' t k g (inr d) = inr d
  meet_above i low s b low' t k g (inl d) = through (up b low' t (top s) g d)
    where
      through : (top s ≡ top t) ⊎ In (node_of ws (top s)).parent.0 t → In i t ⊎ In (top t) s
      through (inl e) = inr (subst (λ y. In y s) e (in_top s))
      through (inr d) = inl (subst (λ y. In y t) (top_parent i low s k) d)

  -- of two trees with a node in common one's top is a node of the other
  meet : (a low : ℕ) (s : Tree) (b low' : ℕ) (t : Tree) (x : ℕ) → Holds h ws a low s → Holds h ws b low' t → In x s → In x t → In (top s) t ⊎ In (top t) s
  unfolding Holds
  meet a low (leaf i key v) b low' t x k g q z = inl (subst (λ y. In y t) q z)
  meet a low (inner i key p l r) b low' t x k g (inl q) z = inl (subst (λ y. In y t) q z)
  meet a low (inner i key p l r) b low' t x k g (inr (inl q)) z =
      ⊎_elim inl (λ d. inr (inr (inl d))) (meet_above i (p + 1) l b low' t k.on_left g (meet i (p + 1) l b low' t x k.on_left g q z))
  meet a low (inner i key p l r) b low' t x k g (inr (inr q)) z =
      ⊎_elim inl (λ d. inr (inr (inr d))) (meet_above i (p + 1) r b low' t k.on_right g (meet i (p + 1) r b low' t x k.on_right g q z))

  -- a node is not below itself: prefix lengths rise
  not_below : (parent i key_prefix : ℕ) (t : Tree) → (node_of ws i).prefix ≡ key_prefix → Holds h ws i (key_prefix + 1) t → In i t → ⊥
  not_below parent i p t e k q = omega (arith, rises i (p + 1) t i k q)

  -- no node of a tree stands at two places
  abbrev pub Once : Tree → Type 0
  Once (leaf i key v) = Unit {0}
  Once (inner i key p l r) = (In i l → ⊥) × (In i r → ⊥) × ((x : ℕ) → In x l → In x r → ⊥) × Once l × Once r

  pub once : (parent low : ℕ) (t : Tree) → Holds h ws parent low t → Once t
  unfolding Holds
  once parent low (leaf i key v) k = tt
  once parent low (inner i key p l r) k =
      (not_left, not_right, (λ x a b. go (meet i (p + 1) l i (p + 1) r x k.on_left k.on_right a b)), once i (p + 1) l k.on_left, once i (p + 1) r k.on_right)
    where
      own : (node_of ws i).prefix ≡ p
      own = ap (λ (x : Node). x.prefix) k.here

      not_left : In i l → ⊥
      not_left = not_below parent i p l own k.on_left

      not_right : In i r → ⊥
      not_right = not_below parent i p r own k.on_right

      from_left : (top l ≡ top r) ⊎ In (node_of ws (top l)).parent.0 r → ⊥
      from_left (inl e) = k.two e
      from_left (inr d) = not_right (subst (λ y. In y r) (top_parent i (p + 1) l k.on_left) d)

      from_right : (top r ≡ top l) ⊎ In (node_of ws (top r)).parent.0 l → ⊥
      from_right (inl e) = k.two (sym e)
      from_right (inr d) = not_left (subst (λ y. In y l) (top_parent i (p + 1) r k.on_right) d)

      go : In (top l) r ⊎ In (top r) l → ⊥
      go (inl d) = from_left (up i (p + 1) r (top l) k.on_right d)
      go (inr d) = from_right (up i (p + 1) l (top r) k.on_left d)

  -- ---- the words determine the tree

  pub unique : (parent low : ℕ) (t u : Tree) → top t ≡ top u → Holds h ws parent low t → Holds h ws parent low u → t ≡ u
  unfolding Holds
  unique parent low (leaf i key v) (leaf j a w) e k g =
      let same : leaf_node parent key v ≡ leaf_node parent a w = sym k.here ∙ ap (node_of ws) e ∙ g.here in
      λ ι. leaf (e ι) (ap (λ (x : Node). x.key) same ι) (ap (λ (x : Node). x.value.0) same ι)
  unique parent low (leaf i key v) (inner j a p l r) e k g =
      absurd (omega (arith, k.value_some, ap (λ (x : Node). x.value.0) (sym k.here ∙ ap (node_of ws) e ∙ g.here)))
  unique parent low (inner j a p l r) (leaf i key v) e k g =
      absurd (omega (arith, g.value_some, ap (λ (x : Node). x.value.0) (sym k.here ∙ ap (node_of ws) e ∙ g.here)))
  unique parent low (inner i key p l r) (inner j a q x y) e k g =
      let same : inner_node parent key p (top l) (top r) ≡ inner_node parent a q (top x) (top y) = sym k.here ∙ ap (node_of ws) e ∙ g.here in
      let long : p ≡ q = ap (λ (z : Node). z.prefix) same in
      let left : l ≡ x = unique i (p + 1) l x (ap (λ (z : Node). z.left.0) same) k.on_left (subst₂ (λ (b c : ℕ). Holds h ws b (c + 1) x) (sym e) (sym long) g.on_left) in
      let right : r ≡ y = unique i (p + 1) r y (ap (λ (z : Node). z.right.0) same) k.on_right (subst₂ (λ (b c : ℕ). Holds h ws b (c + 1) y) (sym e) (sym long) g.on_right) in
      λ ι. inner (e ι) (ap (λ (z : Node). z.key) same ι) (long ι) (left ι) (right ι)

  -- ---- the entries

  -- each names a value record in 1..bump-1
  pub entries_used : (parent low : ℕ) (t : Tree) → Holds h ws parent low t → All (λ e. (1 ≤ e.1) × (e.1 < h.values.bump)) (entries t)
  unfolding Holds
  entries_used parent low (leaf i key v) k = ((k.value_some, k.value_used), tt)
  entries_used parent low (inner i key p l r) k =
      all_append _ (entries l) (entries r) (entries_used i (p + 1) l k.on_left) (entries_used i (p + 1) r k.on_right)

  pub list_used : (t : Map) → HoldsMap h ws t → All (λ e. (1 ≤ e.1) × (e.1 < h.values.bump)) (list_of t)
  unfolding HoldsMap
  list_used none k = tt
  list_used (some t) k = entries_used 0 0 t k.held
