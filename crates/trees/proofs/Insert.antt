-- Insert keeps the order, and does to the entries what the ascending list's insert does.
use Rattle.std.specs.Prelude.{◌≡◌, refl, Bool, true, false, cond, not, List, [], ◌∷◌, ◌++◌, ℕ, ◌<◌, leb, ltb}
use Rattle.std.proofs.Common.{ap, sym, ◌∙◌, inl, inr, arith, lt-ltb, le-ltb, le-leb, eq-eqb, ne_eqb}
use Rattle.std.proofs.Math.Option.{some, get_or}
use Rattle.keys.specs.declared.Key.{Key}
use Rattle.keys.specs.Number.{number_of, Fits}
use Rattle.lists.specs.Lists.{All}
use Rattle.lists.specs.Entries.{same}
use Rattle.trees.specs.Keys.{shared, bit, Bit, Cmp, Same, testb, test≤, test_same, at_most, itself}
use Rattle.trees.specs.Ends.{beside, beside_nil}
use Rattle.trees.specs.Tree.{Tree, leaf, inner, fork, top, key_of, prefix_of, relabel, entries, entries_relabel, gather_fork, Each, each_entries, each_map, each_both, each_relabel, Side, Ordered, ordered_relabel, prefix_low, ordered_fork, each_fits, sides}
use Rattle.trees.specs.Lookup.{lookup}
use Rattle.trees.specs.Insert.{split, insert, put, Apart, stopped, key_side, each_insert, Beyond}

own_side : (k a : Key) → Side k (shared k a) (bit k (shared k a)) k
own_side k a = key_side k k (omega (arith, itself k, at_most k a)) refl

other_sides : (k : Key) (c : ℕ) (x : Tree) → Each (Apart k c) x → Each (Side k c (not (bit k c))) x
other_sides k c x g = each_map (λ a h. record { shares = omega (arith, h.shares); turns = h.turned }) x g

ordered_split : (k : Key) (v new copy : ℕ) (x : Tree) → Fits k → Ordered x → shared k (key_of x) < prefix_of x → Ordered (split k v new copy x)
ordered_split k v new copy x f o s =
    ordered_fork (top x) (bit k (shared k (key_of x))) (leaf new k v) (relabel copy x) f (omega (arith, prefix_low x o))
    (own_side k (key_of x))
    (each_relabel _ copy x (other_sides k (shared k (key_of x)) x (stopped x f o s)))
    f (ordered_relabel copy x o)

-- Insert keeps the order.
pub ordered_insert : (k : Key) (v new copy : ℕ) (t : Tree) → Fits k → Ordered t → Ordered (insert k v new copy t)
ordered_insert k v new copy (leaf i a w) f o = go (test_same k a)
  where
    go : Same k a → Ordered (insert k v new copy (leaf i a w))
    go (inl s) = rw s.1 o
    go (inr s) = rw s.1 (ordered_split k v new copy (leaf i a w) f o s.0)
ordered_insert k v new copy (inner i a p l r) f o =
    go (test≤ p (shared k a)) (testb (bit k p)) (ordered_insert k v new copy l f o.on_left) (ordered_insert k v new copy r f o.on_right)
  where
    go : Cmp p (shared k a) → Bit (bit k p) → Ordered (insert k v new copy l) → Ordered (insert k v new copy r)
        → Ordered (insert k v new copy (inner i a p l r))
    go (inl s) (inl e) x y =
        let h = each_insert (Side a p true) k v new copy r (key_side k a s.0 e) o.right in
        rw (s.1, e) (ordered_fork i true (insert k v new copy r) l o.fits o.low h o.left y o.on_left)
    go (inl s) (inr e) x y =
        let h = each_insert (Side a p false) k v new copy l (key_side k a s.0 e) o.left in
        rw (s.1, e) (ordered_fork i false (insert k v new copy l) r o.fits o.low h o.right x o.on_right)
    go (inr s) e x y = rw s.1 (ordered_split k v new copy (inner i a p l r) f o s.0)

put_beside : {A : Type 0} (k : Key) (v : A) (b : Bool) (near far : List (Key × A)) → All (λ e. Beyond b k e.0) far
    → put k v (beside b near far) ≡ beside b (put k v near) far
put_beside k v false [] [] h = refl
put_beside k v false [] (e ∷ far) h = rw (ne_eqb (number_of k) (number_of e.0) (omega arith), lt-ltb (number_of k) (number_of e.0) h.0)
put_beside k v false (e ∷ near) far h = go (same k e.0) (ltb (number_of k) (number_of e.0)) (put_beside k v false near far h)
  where
    go : (x y : Bool) → put k v (near ++ far) ≡ put k v near ++ far
        → cond x (e ∷ (near ++ far)) (cond y ((k, v) ∷ e ∷ (near ++ far)) (e ∷ put k v (near ++ far)))
        ≡ cond x (e ∷ near) (cond y ((k, v) ∷ e ∷ near) (e ∷ put k v near)) ++ far
    go true y z = refl
    go false true z = refl
    go false false z = rw z
put_beside k v true near [] h = refl
put_beside k v true near (e ∷ far) h =
    rw (ne_eqb (number_of k) (number_of e.0) (omega arith), le-ltb (number_of k) (number_of e.0) (omega arith), put_beside k v true near far h.1)

beyond : (k n : Key) (p : ℕ) (b : Bool) (t : Tree) → Fits k → Ordered t → Side n p b k → Each (Side n p (not b)) t → All (λ e. Beyond b k e.0) (entries t)
beyond k n p b t f o s h = each_entries (Beyond b k) t (each_both (go b s) t (each_fits t o) h)
  where
    go : (b : Bool) → Side n p b k → (a : Key) → Fits a → Side n p (not b) a → Beyond b k a
    go false s a g x = sides n p f s x
    go true s a g x = sides n p g x s

-- ---- where the key is found afterwards

lookup_split : (k : Key) (v new copy : ℕ) (x : Tree) → lookup k (split k v new copy x) ≡ some (new, v)
lookup_split k v new copy x = go (bit k c) refl
  where
    c : ℕ
    c = shared k (key_of x)

    shares : leb c (shared k k) ≡ true
    shares = le-leb c (shared k k) (omega (arith, itself k, at_most k (key_of x)))

    go : (b : Bool) → bit k c ≡ b → lookup k (fork (top x) k c b (leaf new k v) (relabel copy x)) ≡ some (new, v)
    go true e = rw (shares, e, eq-eqb (number_of k) (number_of k) refl)
    go false e = rw (shares, e, eq-eqb (number_of k) (number_of k) refl)

-- in the leaf where it stood, or else in the new leaf: "The new leaf's index is returned"
pub lookup_insert : (k : Key) (v new copy : ℕ) (t : Tree) → lookup k (insert k v new copy t) ≡ some (get_or (lookup k t) (new, v))
lookup_insert k v new copy (leaf i a w) = go (test_same k a)
  where
    go : Same k a → lookup k (insert k v new copy (leaf i a w)) ≡ some (get_or (lookup k (leaf i a w)) (new, v))
    go (inl s) = rw (s.1, s.1)
    go (inr s) = rw s.1 (lookup_split k v new copy (leaf i a w))
lookup_insert k v new copy (inner i a p l r) = go (test≤ p (shared k a)) (testb (bit k p)) (lookup_insert k v new copy l) (lookup_insert k v new copy r)
  where
    go : Cmp p (shared k a) → Bit (bit k p) → lookup k (insert k v new copy l) ≡ some (get_or (lookup k l) (new, v))
        → lookup k (insert k v new copy r) ≡ some (get_or (lookup k r) (new, v))
        → lookup k (insert k v new copy (inner i a p l r)) ≡ some (get_or (lookup k (inner i a p l r)) (new, v))
    go (inl s) (inl e) x y = rw (s.1, e) (rw (s.1, e) y)
    go (inl s) (inr e) x y = rw (s.1, e) (rw (s.1, e) x)
    go (inr s) e x y = rw s.1 (lookup_split k v new copy (inner i a p l r))

-- ---- the entries

entries_split : (k : Key) (v new copy : ℕ) (x : Tree) → Fits k → Ordered x → shared k (key_of x) < prefix_of x
    → entries (split k v new copy x) ≡ put k v (entries x)
entries_split k v new copy x f o s =
    let h = beyond k k c (bit k c) x f o (own_side k (key_of x)) (other_sides k c x (stopped x f o s)) in
    rw (gather_fork, entries_relabel) (sym (put_beside k v (bit k c) [] (entries x) h) ∙ ap (put k v) (beside_nil (bit k c) (entries x)))
  where
    c : ℕ
    c = shared k (key_of x)

-- The entries after insert are those of the list after insert.
pub entries_insert : (k : Key) (v new copy : ℕ) (t : Tree) → Fits k → Ordered t → entries (insert k v new copy t) ≡ put k v (entries t)
entries_insert k v new copy (leaf i a w) f o = go (test_same k a)
  where
    go : Same k a → entries (insert k v new copy (leaf i a w)) ≡ put k v (entries (leaf i a w))
    go (inl s) = rw s.1
    go (inr s) = rw s.1 (entries_split k v new copy (leaf i a w) f o s.0 ∙ rw s.1)
entries_insert k v new copy (inner i a p l r) f o =
    go (test≤ p (shared k a)) (testb (bit k p)) (entries_insert k v new copy l f o.on_left) (entries_insert k v new copy r f o.on_right)
  where
    go : Cmp p (shared k a) → Bit (bit k p) → entries (insert k v new copy l) ≡ put k v (entries l) → entries (insert k v new copy r) ≡ put k v (entries r)
        → entries (insert k v new copy (inner i a p l r)) ≡ put k v (entries (inner i a p l r))
    go (inl s) (inl e) x y =
        let h = beyond k a p true l f o.on_left (key_side k a s.0 e) o.left in
        rw (s.1, e, y) (sym (put_beside k v true (entries r) (entries l) h))
    go (inl s) (inr e) x y =
        let h = beyond k a p false r f o.on_right (key_side k a s.0 e) o.right in
        rw (s.1, e, x) (sym (put_beside k v false (entries l) (entries r) h))
    go (inr s) e x y = rw s.1 (entries_split k v new copy (inner i a p l r) f o s.0)
