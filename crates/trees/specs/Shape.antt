-- The shape that the keys determine: a lone key is a leaf; more keys hang under a node holding the length of their longest common prefix, split by the
-- next bit. An ordered tree has the shape of its keys, whatever inserts and removes have made it.
use Rattle.std.specs.Prelude.{◌↔◌, Bool, true, false, cond, List, [], ◌∷◌, ℕ, zero, suc, ◌≤◌, min, length}
use Rattle.std.proofs.Common.{arith}
use Rattle.std.specs.Bool.{beq}
use Rattle.keys.specs.declared.Key.{Key}
use Rattle.lists.specs.Lists.{All, Pairs, all_map}
use Rattle.trees.specs.Keys.{shared, bit, turn, ultra}
use Rattle.trees.specs.Tree.{Tree, leaf, inner}

pub data Shape : Type 0 where
  blank : Shape
  lone : Key → Shape
  branch : ℕ → Shape → Shape → Shape

abbrev pub shape_of : Tree → Shape
shape_of (leaf i k v) = lone k
shape_of (inner i k p l r) = branch p (shape_of l) (shape_of r)

-- the length of the longest prefix that k shares with all of a list
abbrev pub common_to : Key → List Key → ℕ
common_to k [] = 128
common_to k (a ∷ bs) = min (shared k a) (common_to k bs)

-- All of them share as much with one another: it is the length of their longest common prefix.
pub common_to_all : (k : Key) (bs : List Key) (p : ℕ) → p ≤ 128 → (p ≤ common_to k bs) ↔ Pairs (λ a b. p ≤ shared a b) (k ∷ bs)
common_to_all k bs p s = (λ h. let g = each bs h in (g, between bs g), λ g. least bs g.0)
  where
    each : (bs : List Key) → p ≤ common_to k bs → All (λ b. p ≤ shared k b) bs
    each [] h = tt
    each (b ∷ bs) h = (omega arith, each bs (omega arith))

    between : (bs : List Key) → All (λ b. p ≤ shared k b) bs → Pairs (λ a b. p ≤ shared a b) bs
    between [] g = tt
    between (b ∷ bs) g = (all_map (λ c h. omega (arith, g.0, turn k b, ultra b k c)) bs g.1, between bs g.1)

    least : (bs : List Key) → All (λ b. p ≤ shared k b) bs → p ≤ common_to k bs
    least [] g = s
    least (b ∷ bs) g = omega (arith, g.0, least bs g.1)

-- the keys whose bit at p is b
abbrev pub with_bit : ℕ → Bool → List Key → List Key
with_bit p b [] = []
with_bit p b (a ∷ bs) = cond (beq (bit a p) b) (a ∷ with_bit p b bs) (with_bit p b bs)

-- Each half has fewer keys than the whole, so as many levels as there are keys are enough.
abbrev pub shape_in : ℕ → List Key → Shape
shape_in zero ks = blank
shape_in (suc levels) [] = blank
shape_in (suc levels) (k ∷ []) = lone k
shape_in (suc levels) (k ∷ a ∷ bs) =
    let p = common_to k (a ∷ bs) in
    branch p (shape_in levels (with_bit p false (k ∷ a ∷ bs))) (shape_in levels (with_bit p true (k ∷ a ∷ bs)))

abbrev pub shape : List Key → Shape
shape ks = shape_in (length ks) ks
