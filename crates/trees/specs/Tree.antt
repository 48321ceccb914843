-- Crit-bit trees. A node "is a leaf .. or an inner node" with a key and a prefix length p; "every leaf below an inner node shares the first p bits of that
-- node's key .., has bit p 0 on the left and 1 on the right" (the rules T). The leaves of such a tree stand in ascending order.
use Rattle.std.specs.Prelude.{◌≡◌, refl, Bool, true, false, not, List, [], ◌∷◌, ◌++◌, map, ℕ, ◌≤◌, ◌<◌, length}
use Rattle.std.proofs.lemmas.List.{map-append}
use Rattle.std.proofs.Common.{arith, length-append}
use Rattle.keys.specs.declared.Key.{Key}
use Rattle.keys.specs.Number.{number_of, Fits}
use Rattle.lists.specs.Lists.{All, all_append}
use Rattle.trees.specs.Keys.{shared, bit, turn, ultra, order}
use Rattle.trees.specs.Ends.{beside}

-- A node is known by its index; a leaf names a value record.
pub data Tree : Type 0 where
  leaf : (index : ℕ) (key : Key) (value : ℕ) → Tree
  inner : (index : ℕ) (key : Key) (prefix : ℕ) (left right : Tree) → Tree

-- an inner node with near as the child on the side
abbrev pub fork : ℕ → Key → ℕ → Bool → Tree → Tree → Tree
fork i k p false near far = inner i k p near far
fork i k p true near far = inner i k p far near

abbrev pub top : Tree → ℕ
top (leaf i k v) = i
top (inner i k p l r) = i

abbrev pub key_of : Tree → Key
key_of (leaf i k v) = k
key_of (inner i k p l r) = k

-- the prefix length at the top: 128 at a leaf
abbrev pub prefix_of : Tree → ℕ
prefix_of (leaf i k v) = 128
prefix_of (inner i k p l r) = p

-- the same content in the node j
abbrev pub relabel : ℕ → Tree → Tree
relabel j (leaf i k v) = leaf j k v
relabel j (inner i k p l r) = inner j k p l r

-- ---- the leaves, from left to right

abbrev pub gather : {A : Type 0} → (ℕ → Key → ℕ → A) → Tree → List A
gather f (leaf i k v) = f i k v ∷ []
gather f (inner i k p l r) = gather f l ++ gather f r

-- key and value record
abbrev pub entries : Tree → List (Key × ℕ)
entries t = gather (λ i k v. (k, v)) t

abbrev pub keys_of : Tree → List Key
keys_of t = gather (λ i k v. k) t

-- key, and beside it the leaf's node and value record
abbrev pub places : Tree → List (Key × (ℕ × ℕ))
places t = gather (λ i k v. (k, (i, v))) t

pub gather_map : {A B : Type 0} (g : A → B) (f : ℕ → Key → ℕ → A) (t : Tree) → map g (gather f t) ≡ gather (λ i k v. g (f i k v)) t
gather_map g f (leaf i k v) = refl
gather_map g f (inner i k p l r) = simp (map-append, gather_map g f l, gather_map g f r)

-- a tree has at least one leaf
pub gather_some : {A : Type 0} (f : ℕ → Key → ℕ → A) (t : Tree) → 1 ≤ length (gather f t)
gather_some f (leaf i k v) = omega arith
gather_some f (inner i k p l r) = simp length-append (omega (arith, gather_some f l))

pub entries_some : (t : Tree) → 1 ≤ length (entries t)
entries_some t = gather_some {A = Key × ℕ} (λ i k v. (k, v)) t

pub entries_relabel : (j : ℕ) (t : Tree) → entries (relabel j t) ≡ entries t
entries_relabel j (leaf i k v) = refl
entries_relabel j (inner i k p l r) = refl

pub gather_fork : {A : Type 0} (f : ℕ → Key → ℕ → A) (i : ℕ) (k : Key) (p : ℕ) (b : Bool) (near far : Tree)
    → gather f (fork i k p b near far) ≡ beside b (gather f near) (gather f far)
gather_fork f i k p false near far = refl
gather_fork f i k p true near far = refl

-- ---- a fact of every leaf's key

abbrev pub Each : (Key → Type 0) → Tree → Type 0
Each P (leaf i k v) = P k
Each P (inner i k p l r) = Each P l × Each P r

pub each_gather : {A : Type 0} {P : Key → Type 0} (Q : A → Type 0) (f : ℕ → Key → ℕ → A) → ((i : ℕ) (k : Key) (v : ℕ) → P k → Q (f i k v))
    → (t : Tree) → Each P t → All Q (gather f t)
each_gather Q f g (leaf i k v) h = (g i k v h, tt)
each_gather Q f g (inner i k p l r) h = all_append Q (gather f l) (gather f r) (each_gather Q f g l h.0) (each_gather Q f g r h.1)

pub each_entries : (P : Key → Type 0) (t : Tree) → Each P t → All (λ e. P e.0) (entries t)
each_entries P t h = each_gather (λ e. P e.0) (λ i k v. (k, v)) (λ i k v h. h) t h

pub each_map : {P Q : Key → Type 0} → ((a : Key) → P a → Q a) → (t : Tree) → Each P t → Each Q t
each_map f (leaf i k v) h = f k h
each_map f (inner i k p l r) h = (each_map f l h.0, each_map f r h.1)

pub each_both : {P Q R : Key → Type 0} → ((a : Key) → P a → Q a → R a) → (t : Tree) → Each P t → Each Q t → Each R t
each_both f (leaf i k v) h g = f k h g
each_both f (inner i k p l r) h g = (each_both f l h.0 g.0, each_both f r h.1 g.1)

pub each_fork : (P : Key → Type 0) (i : ℕ) (k : Key) (p : ℕ) (b : Bool) (near far : Tree) → Each P near → Each P far → Each P (fork i k p b near far)
each_fork P i k p false near far h g = (h, g)
each_fork P i k p true near far h g = (g, h)

pub each_relabel : (P : Key → Type 0) (j : ℕ) (t : Tree) → Each P t → Each P (relabel j t)
each_relabel P j (leaf i k v) h = h
each_relabel P j (inner i k p l r) h = h

-- the leftmost leaf's key
abbrev pub first : Tree → Key
first (leaf i k v) = k
first (inner i k p l r) = first l

pub each_first : (P : Key → Type 0) (t : Tree) → Each P t → P (first t)
each_first P (leaf i k v) h = h
each_first P (inner i k p l r) h = each_first P l h.0

-- ---- order

-- a leaf's key below an inner node with key k and prefix length p, on the side b
pub record Side (k : Key) (p : ℕ) (b : Bool) (a : Key) : Type 0 where
  pub shares : p ≤ shared k a
  pub turns : bit a p ≡ b

abbrev pub Ordered : Tree → Type 0
Ordered (leaf i k v) = Fits k
Ordered (inner i k p l r) = record {
  fits : Fits k;
  low : p < 128;
  left : Each (Side k p false) l;
  right : Each (Side k p true) r;
  on_left : Ordered l;
  on_right : Ordered r;
}

pub ordered_relabel : (j : ℕ) (t : Tree) → Ordered t → Ordered (relabel j t)
ordered_relabel j (leaf i k v) o = o
ordered_relabel j (inner i k p l r) o = o

pub prefix_low : (t : Tree) → Ordered t → prefix_of t ≤ 128
prefix_low (leaf i k v) o = omega arith
prefix_low (inner i k p l r) o = omega (arith, o.low)

pub each_fits : (t : Tree) → Ordered t → Each Fits t
each_fits (leaf i k v) o = o
each_fits (inner i k p l r) o = (each_fits l o.on_left, each_fits r o.on_right)

pub ordered_fork : (i : ℕ) {k : Key} {p : ℕ} (b : Bool) (near far : Tree) → Fits k → p < 128 → Each (Side k p b) near → Each (Side k p (not b)) far
    → Ordered near → Ordered far → Ordered (fork i k p b near far)
ordered_fork i false near far f h n m x y = record { fits = f; low = h; left = n; right = m; on_left = x; on_right = y }
ordered_fork i true near far f h n m x y = record { fits = f; low = h; left = m; right = n; on_left = y; on_right = x }

pub sides : (k : Key) (p : ℕ) {a b : Key} → Fits a → Side k p false a → Side k p true b → number_of a < number_of b
sides k p {a} {b} f x y = order b f (omega (arith, x.shares, y.shares, turn k a, ultra a k b)) x.turns y.turns
