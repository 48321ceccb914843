-- An ordered tree has the shape that its keys determine.
use Rattle.std.specs.Prelude.{◌≡◌, refl, Bool, true, false, cond, not, List, [], ◌∷◌, ◌++◌, ℕ, zero, suc, ◌≤◌, min, length}
use Rattle.std.proofs.Common.{ap, sym, ◌∙◌, append-nil, arith, length-append}
use Rattle.std.specs.Bool.{beq}
use Rattle.words.specs.Tests.{beq_itself}
use Rattle.keys.specs.declared.Key.{Key}
use Rattle.trees.specs.Keys.{shared, bit, turn, ultra, apart}
use Rattle.trees.specs.Tree.{Tree, leaf, inner, keys_of, gather_some, Each, each_map, first, each_first, Side, Ordered}
use Rattle.trees.specs.Shape.{shape_of, common_to, with_bit, shape_in, shape, branch}

-- ---- the keys below a node, by their bit

with_bit_append : (p : ℕ) (b : Bool) (xs ys : List Key) → with_bit p b (xs ++ ys) ≡ with_bit p b xs ++ with_bit p b ys
with_bit_append p b [] ys = refl
with_bit_append p b (x ∷ xs) ys = go (beq (bit x p) b) (with_bit_append p b xs ys)
  where
    go : (t : Bool) → with_bit p b (xs ++ ys) ≡ with_bit p b xs ++ with_bit p b ys
        → cond t (x ∷ with_bit p b (xs ++ ys)) (with_bit p b (xs ++ ys)) ≡ cond t (x ∷ with_bit p b xs) (with_bit p b xs) ++ with_bit p b ys
    go true e = rw e
    go false e = e

all_with : (p : ℕ) (b : Bool) (t : Tree) → Each (λ a. bit a p ≡ b) t → with_bit p b (keys_of t) ≡ keys_of t
all_with p b (leaf i k v) h = rw (h, beq_itself b)
all_with p b (inner i k q l r) h = rw (with_bit_append, all_with p b l h.0, all_with p b r h.1)

none_with : (p : ℕ) (b : Bool) (t : Tree) → Each (λ a. bit a p ≡ not b) t → with_bit p b (keys_of t) ≡ []
none_with p b (leaf i k v) h = rw (h, unlike b)
  where
    unlike : (b : Bool) → beq (not b) b ≡ false
    unlike true = refl
    unlike false = refl
none_with p b (inner i k q l r) h = rw (with_bit_append, none_with p b l h.0, none_with p b r h.1)

-- ---- the keys after the first

abbrev rest : Tree → List Key
rest (leaf i k v) = []
rest (inner i k p l r) = rest l ++ keys_of r

keys_first : (t : Tree) → keys_of t ≡ first t ∷ rest t
keys_first (leaf i k v) = refl
keys_first (inner i k p l r) = rw (keys_first l)

keys_some : (t : Tree) → 1 ≤ length (keys_of t)
keys_some t = gather_some (λ i k v. k) t

shape_two : (levels : ℕ) (k : Key) (bs ks : List Key) → ks ≡ k ∷ bs → 1 ≤ length bs
    → shape_in (suc levels) ks ≡ branch (common_to k bs) (shape_in levels (with_bit (common_to k bs) false ks)) (shape_in levels (with_bit (common_to k bs) true ks))
shape_two levels k [] ks e n = absurd (omega arith)
shape_two levels k (a ∷ bs) ks e n = rw e

-- ---- their longest common prefix

common_append : (k : Key) (xs ys : List Key) → common_to k (xs ++ ys) ≡ min (common_to k xs) (common_to k ys)
common_append k [] ys = omega (arith, small k ys)
  where
    small : (k : Key) (ys : List Key) → common_to k ys ≤ 128
    small k [] = omega arith
    small k (y ∷ ys) = omega (arith, small k ys)
common_append k (x ∷ xs) ys = omega (arith, common_append k xs ys)

common_low : (k : Key) (p : ℕ) (t : Tree) → p ≤ 128 → Each (λ a. p ≤ shared k a) t → p ≤ common_to k (keys_of t)
common_low k p (leaf i a v) s h = omega arith
common_low k p (inner i a q l r) s h = rw common_append (omega (arith, common_low k p l s h.0, common_low k p r s h.1))

common_rest : (k : Key) (t : Tree) → common_to k (keys_of t) ≤ common_to k (rest t)
common_rest k t = rw (keys_first t) (omega arith)

common_first : (k : Key) (t : Tree) → common_to k (keys_of t) ≤ shared k (first t)
common_first k t = rw (keys_first t) (omega arith)

-- below an inner node it is the node's prefix length
node_prefix : (i : ℕ) (k : Key) (p : ℕ) (l r : Tree) → Ordered (inner i k p l r) → common_to (first l) (rest l ++ keys_of r) ≡ p
node_prefix i k p l r o =
    rw common_append
    (omega (
      arith,
      o.low,
      common_rest (first l) l,
      common_low (first l) p l (omega (arith, o.low)) (each_map (near false) l o.left),
      common_low (first l) p r (omega (arith, o.low)) (each_map (near true) r o.right),
      common_first (first l) r,
      apart (first l) (first r) one.turns two.turns,
    ))
  where
    one : Side k p false (first l)
    one = each_first (Side k p false) l o.left

    two : Side k p true (first r)
    two = each_first (Side k p true) r o.right

    near : (b : Bool) (a : Key) → Side k p b a → p ≤ shared (first l) a
    near b a h = omega (arith, h.shares, one.shares, turn k (first l), ultra (first l) k a)

canonical_in : (levels : ℕ) (t : Tree) → length (keys_of t) ≤ levels → Ordered t → shape_in levels (keys_of t) ≡ shape_of t
canonical_in zero t h o = absurd (omega (arith, keys_some t))
canonical_in (suc levels) (leaf i k v) h o = refl
canonical_in (suc levels) (inner i k p l r) h o =
    rw (
      shape_two levels (first l) (rest l ++ keys_of r) (keys_of l ++ keys_of r) (keys_first (inner i k p l r)) (simp length-append (omega (arith, keys_some r))),
      node_prefix i k p l r o,
      with_bit_append,
      all_with p false l (each_map (λ a h. h.turns) l o.left),
      none_with p false r (each_map (λ a h. h.turns) r o.right),
      with_bit_append,
      none_with p true l (each_map (λ a h. h.turns) l o.left),
      all_with p true r (each_map (λ a h. h.turns) r o.right),
      append-nil,
      canonical_in levels l (omega (arith, keys_some r, simp length-append at h)) o.on_left,
      canonical_in levels r (omega (arith, keys_some l, simp length-append at h)) o.on_right,
    )

-- An ordered tree has the shape that its keys determine.
pub canonical : (t : Tree) → Ordered t → shape (keys_of t) ≡ shape_of t
canonical t o = canonical_in (length (keys_of t)) t (omega arith) o

-- Two ordered trees with equal keys have equal shapes.
pub same_shape : (t u : Tree) → Ordered t → Ordered u → keys_of t ≡ keys_of u → shape_of t ≡ shape_of u
same_shape t u o q e = sym (canonical t o) ∙ ap shape e ∙ canonical u q
