-- The descents find what the list of leaves holds.
use Rattle.std.specs.Prelude.{◌≡◌, refl, ◌≢◌, Bool, true, false, not, cond, List, [], ◌∷◌, ◌++◌, ℕ, ◌<◌}
use Rattle.std.proofs.Common.{sym, ◌∙◌, inl, inr}
use Rattle.keys.specs.declared.Key.{Key}
use Rattle.lists.specs.Lists.{All}
use Rattle.lists.specs.Entries.{find, Other, find_none, find_map}
use Rattle.trees.specs.Keys.{shared, bit, Bit, Cmp, testb, test≤, unequal}
use Rattle.trees.specs.Ends.{beside}
use Rattle.trees.specs.Tree.{Tree, leaf, inner, entries, places, gather_map, Each, each_gather, each_map, Side, Ordered}
use Rattle.trees.specs.Lookup.{lookup, reach, other_side, other_prefix, value_of}

-- k turns to the side not b: none of the side b is k
pub strangers : (k n : Key) (p : ℕ) (b : Bool) (t : Tree) → p < 128 → bit k p ≡ not b → Each (Side n p b) t → Each (Other k) t
strangers k n p b t s e h = each_map (λ a x. other_side k n p b s (λ f. differs b (sym e ∙ f)) x) t h
  where
    differs : (b : Bool) → not b ≢ b
    differs true e = unequal false e refl
    differs false e = unequal true refl e

-- ---- find beside keys that k is not

find_beside : {A : Type 0} (k : Key) (b : Bool) (near far : List (Key × A)) → All (λ e. Other k e.0) far → find k (beside b near far) ≡ find k near
find_beside k false [] far h = find_none k far h
find_beside k false (e ∷ near) far h = rw (find_beside k false near far h)
find_beside k true near [] h = refl
find_beside k true near (e ∷ far) h = rw h.0 (find_beside k true near far h.1)

each_places : (P : Key → Type 0) (t : Tree) → Each P t → All (λ e. P e.0) (places t)
each_places P t h = each_gather (λ e. P e.0) (λ i k v. (k, (i, v))) (λ i k v h. h) t h

-- ---- the descents find what the list of leaves holds

-- one turn: the leaves on the other side do not matter
turn_find : (k : Key) (i : ℕ) (a : Key) (p : ℕ) (l r : Tree) → Ordered (inner i a p l r)
    → cond (bit k p) (find k (places r)) (find k (places l)) ≡ find k (places (inner i a p l r))
turn_find k i a p l r o = go (testb (bit k p))
  where
    go : Bit (bit k p) → cond (bit k p) (find k (places r)) (find k (places l)) ≡ find k (places l ++ places r)
    go (inl e) = rw e (sym (find_beside k true (places r) (places l) (each_places (Other k) l (strangers k a p false l o.low e o.left))))
    go (inr e) = rw e (sym (find_beside k false (places l) (places r) (each_places (Other k) r (strangers k a p true r o.low e o.right))))

pub reach_places : (k : Key) (t : Tree) → Ordered t → reach k t ≡ find k (places t)
reach_places k (leaf i a v) o = refl
reach_places k (inner i a p l r) o = rw (reach_places k l o.on_left, reach_places k r o.on_right) (turn_find k i a p l r o)

pub lookup_places : (k : Key) (t : Tree) → Ordered t → lookup k t ≡ find k (places t)
lookup_places k (leaf i a v) o = refl
lookup_places k (inner i a p l r) o = go (test≤ p (shared k a)) (lookup_places k l o.on_left) (lookup_places k r o.on_right)
  where
    stop : shared k a < p → All (λ e. Other k e.0) (places (inner i a p l r))
    stop s =
        each_places (Other k) (inner i a p l r)
        (each_map (λ b h. other_prefix k a p false o.low s h) l o.left, each_map (λ b h. other_prefix k a p true o.low s h) r o.right)

    go : Cmp p (shared k a) → lookup k l ≡ find k (places l) → lookup k r ≡ find k (places r) → lookup k (inner i a p l r) ≡ find k (places (inner i a p l r))
    go (inl s) x y = rw (s.1, x, y) (turn_find k i a p l r o)
    go (inr s) x y = rw s.1 (sym (find_none k (places (inner i a p l r)) (stop s.0)))

find_entries : (k : Key) (t : Tree) → find k (entries t) ≡ value_of (find k (places t))
find_entries k t = rw (← (gather_map {A = Key × (ℕ × ℕ)} {B = Key × ℕ} (λ e. (e.0, e.1.1)) (λ i a v. (a, (i, v))) t)) (find_map k (λ n. n.1) (places t))

-- Lookup, and the descent of remove, answer for every key what the list of entries holds.
pub lookup_find : (k : Key) (t : Tree) → Ordered t → value_of (lookup k t) ≡ find k (entries t)
lookup_find k t o = rw (lookup_places k t o, find_entries k t)

pub reach_find : (k : Key) (t : Tree) → Ordered t → value_of (reach k t) ≡ find k (entries t)
reach_find k t o = rw (reach_places k t o, find_entries k t)
