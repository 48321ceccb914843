-- The stores of remove as rows of the calculus (record_views/Stored), over any records: what they make of each node, of
-- each value record and of the header.
use Rattle.std.specs.Prelude.{◌≡◌, refl, List, ◌≢◌, ◌⊎◌, Bool, true, false, cond, ℕ, ◌^◌, ◌≤◌, ◌<◌, eqb}
use Rattle.std.proofs.Common.{inl, inr, arith, eq-eqb, ne_eqb}
use Rattle.std.proofs.lemmas.Bool.{eqb-false}
use Rattle.words.specs.Tests.{either_way}
use Rattle.node_allocator.specs.declared.Arena.{Arena}
use Rattle.node_allocator.specs.declared.Arena.TheVariants.{Nodes, Values}
use Rattle.node_allocator.specs.declared.Counts.{Counts}
use Rattle.node_allocator.specs.declared.Register.TheVariants.{Left, Parent}
use Rattle.node_allocator.specs.Layout.{inside}
use Rattle.node_allocator.specs.Steps.{freed, remove_counts, remove_image}
use Rattle.records.specs.declared.Header.{Header}
use Rattle.records.specs.declared.Node.{Node}
use Rattle.records.specs.declared.ValueRecord.{ValueRecord}
use Rattle.records.specs.Records.{with_parent, bare_node}
use Rattle.records.specs.Writes.{set_node}
use Rattle.remove.specs.Steps.{leaf_freed, moved, place_freed, cut_image}
use Rattle.record_views.specs.Nodes.{changed, with_register}
use Rattle.record_views.specs.Values.{with_link}
use Rattle.record_views.specs.Small.{FitsNode, FitsCounts}
use Rattle.record_views.specs.Stored.{Stored, with_nodes, with_values, store_node, store_register, free_node_lem, free_value_lem}

-- ---- what is stored fits

fits_bare : (parent : ℕ) (x : Node) → parent < 2 ^ 32 → FitsNode x → FitsNode (bare_node parent x)
fits_bare parent x l f =
    record { left_fits = omega arith; right_fits = omega arith; parent_fits = l; value_fits = omega arith; key_fits = f.key_fits; prefix_fits = f.prefix_fits }

fits_moved : (parent : ℕ) (x : Node) → parent < 2 ^ 32 → FitsNode x → FitsNode (with_parent parent x)
fits_moved parent x l f =
    record { left_fits = f.left_fits; right_fits = f.right_fits; parent_fits = l; value_fits = f.value_fits; key_fits = f.key_fits; prefix_fits = f.prefix_fits }

fits_removed : (a : Arena) (c : Counts) (i : ℕ) → i < 2 ^ 32 → FitsCounts c → FitsCounts (remove_counts a c i)
unfolding remove_counts freed
fits_removed a c i l f = either_way FitsCounts (inside a i) _ c (record { bump_fits = f.bump_fits; head_fits = l }) f

-- ---- a leaf is freed

-- node i is stored as x and goes to the front of the chain that began at head
abbrev pub frees : ℕ → Node → ℕ → ℕ → Node → Node
frees i x head y w = changed i (with_register Left head) y (changed i (λ u. x) y w)

module _ {m n b c : ℕ} {us ws : List ℕ} {f : ℕ → Node → Node} {g : ℕ → ValueRecord → ValueRecord} {t : Header → Header} (s : Stored m n b c us ws f g t) where
  free_stored : (i : ℕ) (x : Node) (k : Counts) → 1 ≤ i → i < b → FitsNode x → FitsCounts k
      → Stored m n b c us (remove_image (Nodes n) (set_node n ws i x) i k) (λ y w. frees i x k.head y (f y w)) g (λ h. with_nodes (remove_counts (Nodes n) k i) (t h))
  free_stored i x k l u fits counts = free_node_lem (store_node s i x u fits) i k l u counts

-- the header k after leaf i and value record j are freed, with the counts of h
abbrev pub less_leaf : ℕ → ℕ → Header → ℕ → ℕ → Header → Header
less_leaf m n h i j k = with_nodes (remove_counts (Nodes n) h.nodes i) (with_values (remove_counts (Values n m) h.values j) k)

module _ {m n b c : ℕ} {us ws : List ℕ} {f : ℕ → Node → Node} {g : ℕ → ValueRecord → ValueRecord} {t : Header → Header} (s : Stored m n b c us ws f g t)
    (h : Header) (nodes : FitsCounts h.nodes) (values : FitsCounts h.values) where
  pub leaf_stored : (i : ℕ) (x : Node) → 1 ≤ i → i < b → 1 ≤ x.value.0 → x.value.0 < c → FitsNode x
      → Stored m n b c us (leaf_freed m n ws h i x) (λ y w. frees i (bare_node 0 x) h.nodes.head y (f y w))
      (λ y r. changed x.value.0 (with_link h.values.head) y (g y r)) (λ k. less_leaf m n h i x.value.0 (t k))
  unfolding leaf_freed
  leaf_stored i x l u some used fits =
      free_stored (free_value_lem s x.value.0 h.values some used values) i (bare_node 0 x) h.nodes l u (fits_bare 0 x (omega arith) fits) nodes

-- ---- a leaf is cut off

-- leaf i, whose record is x, is freed; the sibling s, whose record is z, moves into node p below `above`; its old
-- node is freed, before which the chain began at `next`
abbrev pub cuts : ℕ → Node → ℕ → ℕ → ℕ → ℕ → Node → ℕ → ℕ → Node → Node
cuts i x head p above s z next y w =
    frees s (bare_node z.parent.0 z) next y
    (changed z.right.0 (with_register Parent p) y
    (changed z.left.0 (with_register Parent p) y
    (changed p (λ u. with_parent above z) y (frees i (bare_node 0 x) head y w))))

abbrev pub less_two : ℕ → ℕ → Header → ℕ → ℕ → ℕ → Header → Header
less_two m n h i j s k = with_nodes (remove_counts (Nodes n) (remove_counts (Nodes n) h.nodes i) s) (less_leaf m n h i j k)

module _ {m n b c : ℕ} {ws : List ℕ} (begun : Stored m n b c ws ws (λ y x. x) (λ y r. r) (λ h. h)) (h : Header) (nodes : FitsCounts h.nodes) (values : FitsCounts h.values)
    (i : ℕ) (x y : Node) (s : ℕ) (z : Node) where
  pub cut_stored : 1 ≤ i → i < b → 1 ≤ x.value.0 → x.value.0 < c → FitsNode x → x.parent.0 < b → FitsNode y
      → 1 ≤ s → s < b → FitsNode z → z.left.0 < b → z.right.0 < b
      → Stored m n b c ws (cut_image m n ws h i x y s z) (cuts i x h.nodes.head x.parent.0 y.parent.0 s z (remove_counts (Nodes n) h.nodes i).head)
      (changed x.value.0 (with_link h.values.head)) (less_two m n h i x.value.0 s)
  unfolding cut_image place_freed moved
  cut_stored l u some used fx up fy sl su fz kl kr =
      let small : x.parent.0 < 2 ^ 32 = fx.parent_fits in
      let index : i < 2 ^ 32 = omega (arith, begun.bounds.most, begun.bounds.few) in
      let one = leaf_stored begun h nodes values i x l u some used fx in
      let two = store_node one x.parent.0 (with_parent y.parent.0 z) up (fits_moved y.parent.0 z fy.parent_fits fz) in
      let three = store_register two z.left.0 x.parent.0 Parent kl small in
      let four = store_register three z.right.0 x.parent.0 Parent kr small in
      free_stored four s (bare_node z.parent.0 z) (remove_counts (Nodes n) h.nodes i) sl su (fits_bare z.parent.0 z fz.parent_fits fz) (fits_removed (Nodes n) h.nodes i index nodes)

-- ---- each node afterwards

module _ (i : ℕ) (x : Node) (head p above s : ℕ) (z : Node) (next : ℕ) where
  pub cuts_other : (y : ℕ) (w : Node) → y ≢ i → y ≢ p → y ≢ s → y ≢ z.left.0 → y ≢ z.right.0 → cuts i x head p above s z next y w ≡ w
  cuts_other y w a b c d e = simp (ne_eqb y i a, ne_eqb y p b, ne_eqb y s c, ne_eqb y z.left.0 d, ne_eqb y z.right.0 e)

  pub cuts_leaf : (w : Node) → i ≢ p → i ≢ s → i ≢ z.left.0 → i ≢ z.right.0 → cuts i x head p above s z next i w ≡ with_register Left head (bare_node 0 x)
  cuts_leaf w a b c d = simp (eq-eqb i i refl, ne_eqb i p a, ne_eqb i s b, ne_eqb i z.left.0 c, ne_eqb i z.right.0 d)

  pub cuts_parent : (w : Node) → p ≢ s → p ≢ z.left.0 → p ≢ z.right.0 → cuts i x head p above s z next p w ≡ with_parent above z
  cuts_parent w a b c = simp (eq-eqb p p refl, ne_eqb p s a, ne_eqb p z.left.0 b, ne_eqb p z.right.0 c)

  pub cuts_place : (w : Node) → cuts i x head p above s z next s w ≡ with_register Left next (bare_node z.parent.0 z)
  cuts_place w = simp (eq-eqb s s refl)

  pub cuts_kid : (y : ℕ) (w : Node) → y ≢ i → y ≢ p → y ≢ s → (y ≡ z.left.0) ⊎ (y ≡ z.right.0) → cuts i x head p above s z next y w ≡ with_parent p w
  cuts_kid y w a b c k = simp (ne_eqb y i a, ne_eqb y p b, ne_eqb y s c) (go k (eqb y z.left.0) (eqb y z.right.0) refl refl)
    where
      go : (y ≡ z.left.0) ⊎ (y ≡ z.right.0) → (l r : Bool) → eqb y z.left.0 ≡ l → eqb y z.right.0 ≡ r
          → cond r (with_parent p (cond l (with_parent p w) w)) (cond l (with_parent p w) w) ≡ with_parent p w
      go k true true d e = refl
      go k true false d e = refl
      go k false true d e = refl
      go (inl q) false false d e = absurd (eqb-false y z.left.0 d q)
      go (inr q) false false d e = absurd (eqb-false y z.right.0 e q)
