-- Lookup "descends by the key's bit at the prefix length; it stops at the first node whose prefix the key does not share and answers absent. At a leaf the
-- whole key is compared. Remove compares no prefix on its way, only the leaf" (the rules S). Both find what the ascending list
-- holds; and the smallest and the largest key are reached by turning always to one side.
use Rattle.std.specs.Prelude.{◌≡◌, refl, ◌≢◌, Bool, true, false, cond, [], ◌∷◌, ℕ, suc, ◌<◌, leb}
use Rattle.std.proofs.Common.{◌∙◌, inl, inr, arith}
use Rattle.std.proofs.Math.Option.{Option, none, some, map}
use Rattle.keys.specs.declared.Key.{Key}
use Rattle.lists.specs.Entries.{same, list_end, Other}
use Rattle.trees.specs.Keys.{shared, bit, Cmp, Same, test≤, test_same, turn, ultra, agree, itself}
use Rattle.trees.specs.Ends.{end_beside}
use Rattle.trees.specs.Tree.{Tree, leaf, inner, gather, entries, Side}

-- the leaf's node and value record
abbrev pub lookup : Key → Tree → Option (ℕ × ℕ)
lookup k (leaf i a v) = cond (same k a) (some (i, v)) none
lookup k (inner i a p l r) = cond (leb p (shared k a)) (cond (bit k p) (lookup k r) (lookup k l)) none

-- the same with no prefix compared
abbrev pub reach : Key → Tree → Option (ℕ × ℕ)
reach k (leaf i a v) = cond (same k a) (some (i, v)) none
reach k (inner i a p l r) = cond (bit k p) (reach k r) (reach k l)

-- the leaf at the side's end: its key, node and value record
abbrev pub outermost : Bool → Tree → Key × (ℕ × ℕ)
outermost b (leaf i k v) = (k, (i, v))
outermost b (inner i k p l r) = cond b (outermost b r) (outermost b l)

abbrev pub least_of : Tree → Key × (ℕ × ℕ)
least_of t = outermost false t

abbrev pub greatest_of : Tree → Key × (ℕ × ℕ)
greatest_of t = outermost true t

-- ---- keys that k is not

pub other : (k a : Key) → shared k a < 128 → Other k a
other k a h = go (test_same k a)
  where
    go : Same k a → Other k a
    go (inl t) = absurd (omega (arith, rw t.0 at h, itself a))
    go (inr t) = t.1

-- k turns away from the side b at p: it is no key there
pub other_side : (k n : Key) (p : ℕ) (b : Bool) {a : Key} → p < 128 → bit k p ≢ b → Side n p b a → Other k a
other_side k n p b {a} s x h = other k a (go (test≤ (suc p) (shared k a)))
  where
    go : Cmp (suc p) (shared k a) → shared k a < 128
    go (inl t) = absurd (x (agree k a t.0 ∙ h.turns))
    go (inr t) = omega arith

-- k does not share the node's p bits: it is no key of either side
pub other_prefix : (k n : Key) (p : ℕ) (b : Bool) {a : Key} → p < 128 → shared k n < p → Side n p b a → Other k a
other_prefix k n p b {a} s x h = other k a (omega (arith, h.shares, turn n a, ultra k a n))

-- ---- from the list of leaves to the list of entries: the node's index is left out

abbrev pub value_of : Option (ℕ × ℕ) → Option ℕ
value_of o = map (λ n. n.1) o

-- ---- the ends

outermost_gather : {A : Type 0} (f : ℕ → Key → ℕ → A) (b : Bool) (t : Tree)
    → list_end b (gather f t) ≡ some (f (outermost b t).1.0 (outermost b t).0 (outermost b t).1.1)
outermost_gather f b (leaf i k v) = lone b
  where
    lone : (b : Bool) → list_end b (f i k v ∷ []) ≡ some (f i k v)
    lone true = refl
    lone false = refl
outermost_gather f true (inner i k p l r) = end_beside true (gather f r) (gather f l) (outermost_gather f true r)
outermost_gather f false (inner i k p l r) = end_beside false (gather f l) (gather f r) (outermost_gather f false l)

-- Going always to one side leads to the first or to the last entry.
pub outermost_entry : (b : Bool) (t : Tree) → list_end b (entries t) ≡ some ((outermost b t).0, (outermost b t).1.1)
outermost_entry b t = outermost_gather (λ i k v. (k, v)) b t
