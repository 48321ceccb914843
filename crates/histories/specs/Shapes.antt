-- The tree of every accepted image is the one that its keys alone determine, its paths are short, its keys ascend, and n counts them.
use Rattle.std.specs.Prelude.{◌≡◌, refl, ◌≢◌, ◌⊎◌, List, [], ◌∷◌, map, ℕ, suc, ◌+◌, ◌-◌, ◌*◌, ◌≤◌, min, length}
use Rattle.std.proofs.Common.{sym, ap, subst, ◌∙◌, ⊎_elim, arith}
use Rattle.std.proofs.Math.Option.{none, some}
use Rattle.std.proofs.lemmas.List.{length-map}
use Rattle.keys.specs.declared.Key.{Key}
use Rattle.records.specs.declared.Value.{Value}
use Rattle.records.specs.declared.Header.{Header}
use Rattle.records.specs.declared.Node.{Node}
use Rattle.records.specs.Records.{header_of, node_of}
use Rattle.lists.specs.Entries.{Rising}
use Rattle.trees.specs.Tree.{Tree, leaf, inner, top}
use Rattle.trees.specs.Map.{Map, list_of, OrderedMap, shape_is}
use Rattle.trees.proofs.Map.{map_shape, map_ascending}
use Rattle.trees.specs.Shape.{shape}
use Rattle.trees.specs.Paths.{depth}
use Rattle.trees.proofs.Paths.{depth_bound}
use Rattle.accepted.specs.Rules.{Holds}
use Rattle.accepted.specs.Accepted.{Accepted, HoldsMap, value_at_record}
use Rattle.accepted_lookup.specs.Answers.{valued, valued_rising, listed}
use Rattle.accepted_insert.specs.Planned.{sized}

-- the keys of a list, in its order
abbrev pub keys_of : {A : Type 0} → List (Key × A) → List Key
keys_of es = map (λ e. e.0) es

valued_keys : (n : ℕ) (ws : List ℕ) (es : List (Key × ℕ)) → keys_of (valued n ws es) ≡ keys_of es
valued_keys n ws [] = refl
valued_keys n ws (e ∷ es) = ap (λ (l : List Key). e.0 ∷ l) (valued_keys n ws es)

-- the nodes on the longest path from the root; a map without nodes has none
abbrev pub longest : Map → ℕ
longest none = 0
longest (some t) = depth t

longest_bound : (t : Map) → OrderedMap t → longest t ≤ min (length (list_of t)) 129
longest_bound none o = omega arith
longest_bound (some t) o = depth_bound t o

module _ {m n : ℕ} {ws : List ℕ} (a : Accepted m n ws) where
  -- A lone key is a leaf; more keys hang under a node holding the length of their longest common prefix, split by the next bit.
  pub canonical_shape : shape_is a.tree ≡ shape (keys_of (listed a))
  canonical_shape = map_shape a.tree a.ordered ∙ ap shape (sym (valued_keys n ws (list_of a.tree)))

  -- No path from the root has more nodes than the smaller of the number of keys and 129.
  pub short_paths : longest a.tree ≤ min (length (listed a)) 129
  short_paths =
      omega (arith, longest_bound a.tree a.ordered, length-map {B = Key × Value} (list_of a.tree) (λ e. (e.0, value_at_record n ws e.1)))

  -- The keys strictly ascend.
  pub ascends : Rising (listed a)
  ascends = valued_rising n ws (list_of a.tree) (map_ascending a.tree a.ordered)

  -- The header's n counts the list, which has at most M entries.
  pub counted : (header_of n ws).values.size ≡ length (listed a)
  counted = sized a

  -- So does node size: 2n-1, or 0 if n is 0.
  pub nodes_counted : (header_of n ws).nodes.size ≡ 2 * length (listed a) - 1
  nodes_counted = omega (arith, a.header.node_size, counted)

  pub at_most : length (listed a) ≤ m
  at_most = omega (arith, a.header.size_most, counted)

-- ---- paths over the words

-- from node i down through these nodes: each is the Left or the Right of the one before it, and 0 is none
abbrev pub Descends : List ℕ → ℕ → List ℕ → Type 0
Descends ws i [] = Unit {0}
Descends ws i (j ∷ js) = (j ≢ 0) × ((j ≡ (node_of ws i).left.0) ⊎ (j ≡ (node_of ws i).right.0)) × Descends ws j js

path_bound : (h : Header) (ws : List ℕ) (parent low : ℕ) (t : Tree) → Holds h ws parent low t → (js : List ℕ) → Descends ws (top t) js → suc (length js) ≤ depth t
unfolding Holds
path_bound h ws parent low (leaf i key v) k [] d = omega arith
path_bound h ws parent low (leaf i key v) k (j ∷ js) d = absurd (⊎_elim (λ (e : j ≡ (node_of ws i).left.0). d.0 (e ∙ left)) (λ (e : j ≡ (node_of ws i).right.0). d.0 (e ∙ right)) d.1)
  where
    left : (node_of ws i).left.0 ≡ 0
    left = ap (λ (x : Node). x.left.0) k.here

    right : (node_of ws i).right.0 ≡ 0
    right = ap (λ (x : Node). x.right.0) k.here
path_bound h ws parent low (inner i key p l r) k [] d = omega arith
path_bound h ws parent low (inner i key p l r) k (j ∷ js) d =
    let left : (node_of ws i).left.0 ≡ top l = ap (λ (x : Node). x.left.0) k.here in
    let right : (node_of ws i).right.0 ≡ top r = ap (λ (x : Node). x.right.0) k.here in
    ⊎_elim
    (λ (e : j ≡ (node_of ws i).left.0). omega (arith, path_bound h ws i (p + 1) l k.on_left js (subst (λ (x : ℕ). Descends ws x js) (e ∙ left) d.2)))
    (λ (e : j ≡ (node_of ws i).right.0). omega (arith, path_bound h ws i (p + 1) r k.on_right js (subst (λ (x : ℕ). Descends ws x js) (e ∙ right) d.2)))
    d.1

-- No path from the root has more nodes than the smaller of n and 129.
pub paths_bound : {m n : ℕ} {ws : List ℕ} (a : Accepted m n ws) → (header_of n ws).values.size ≢ 0 → (js : List ℕ) → Descends ws (header_of n ws).root.0 js
    → suc (length js) ≤ min (header_of n ws).values.size 129
unfolding HoldsMap
paths_bound {m} {n} {ws} a held js d = go a.tree a.holds (short_paths a)
  where
    go : (t : Map) → HoldsMap (header_of n ws) ws t → longest t ≤ min (length (listed a)) 129 → suc (length js) ≤ min (header_of n ws).values.size 129
    go none k s = absurd (held k)
    go (some t) k s = omega (arith, path_bound (header_of n ws) ws 0 0 t k.held js (subst (λ (x : ℕ). Descends ws x js) (sym k.at_root) d), counted a)

-- Equal keys, equal shapes: whatever calls made the two images, and whatever M and N each has.
pub same_shape : {m n m' n' : ℕ} {ws vs : List ℕ} (a : Accepted m n ws) (b : Accepted m' n' vs) → keys_of (listed a) ≡ keys_of (listed b) → shape_is a.tree ≡ shape_is b.tree
same_shape a b e = canonical_shape a ∙ ap shape e ∙ sym (canonical_shape b)
