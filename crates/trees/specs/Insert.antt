-- Insert into a tree. "Equal leaf: the value is replaced, that node's index returned. Else at node x, which shares fewer bits than its prefix: .. x becomes
-- inner with the new key, the shared length, and both as children", the new leaf and "a copy of x" (the rules S). The tree stays
-- ordered, and its entries are those of the ascending list after the insert.
use Rattle.std.specs.Prelude.{◌≡◌, refl, Bool, true, false, cond, not, List, [], ◌∷◌, ℕ, suc, ◌≤◌, ◌<◌, leb, ltb, length}
use Rattle.std.proofs.Common.{sym, ◌∙◌, inl, inr, arith, ltb-true, ne_eqb}
use Rattle.keys.specs.declared.Key.{Key}
use Rattle.keys.specs.Number.{number_of, Fits}
use Rattle.lists.specs.Lists.{Pairs, all_map}
use Rattle.lists.specs.Entries.{same, held, held_none}
use Rattle.trees.specs.Keys.{shared, bit, Bit, Cmp, Same, testb, test≤, test_same, is_not, through, at_most, itself, turn, ultra, agree, differ}
use Rattle.trees.specs.Tree.{Tree, leaf, inner, fork, top, key_of, prefix_of, relabel, Each, each_map, each_fork, each_relabel, Side, Ordered}

-- ---- the steps

-- the node of x becomes inner with the key k and the shared length; the node new is the new leaf, and the node copy takes what x was
abbrev pub split : Key → ℕ → ℕ → ℕ → Tree → Tree
split k v new copy x = fork (top x) k (shared k (key_of x)) (bit k (shared k (key_of x))) (leaf new k v) (relabel copy x)

abbrev pub insert : Key → ℕ → ℕ → ℕ → Tree → Tree
insert k v new copy (leaf i a w) = cond (same k a) (leaf i a w) (split k v new copy (leaf i a w))
insert k v new copy (inner i a p l r) = cond (leb p (shared k a))
    (cond (bit k p) (inner i a p l (insert k v new copy r)) (inner i a p (insert k v new copy l) r))
    (split k v new copy (inner i a p l r))

-- into the ascending list: an equal key stays with its value record
abbrev pub put : {A : Type 0} → Key → A → List (Key × A) → List (Key × A)
put k v [] = (k, v) ∷ []
put k v (e ∷ es) = cond (same k e.0) (e ∷ es) (cond (ltb (number_of k) (number_of e.0)) ((k, v) ∷ e ∷ es) (e ∷ put k v es))

-- ---- where x shares fewer bits than its prefix, all its leaves lie on one side of k

pub record Apart (k : Key) (c : ℕ) (a : Key) : Type 0 where
  pub shares : shared k a ≡ c
  pub turned : bit a c ≡ not (bit k c)

-- b shares with a what k does not
apart_of : {k a : Key} (b : Key) → Fits k → Fits a → shared k a < shared a b → Apart k (shared k a) b
apart_of {k} {a} b f g s = record {
  shares = omega (arith, ultra k a b, ultra k b a, turn a b);
  turned = is_not _ _ (λ e. differ f g (omega (arith, at_most a b)) (e ∙ sym (agree a b s)));
}

pub stopped : {k : Key} (x : Tree) → Fits k → Ordered x → shared k (key_of x) < prefix_of x → Each (Apart k (shared k (key_of x))) x
stopped (leaf i a w) f o s = apart_of a f o (omega (arith, itself a))
stopped {k} (inner i a p l r) f o s =
    (each_map (below false) l o.left, each_map (below true) r o.right)
  where
    below : (side : Bool) (b : Key) → Side a p side b → Apart k (shared k a) b
    below side b h = apart_of b f o.fits (omega (arith, h.shares))

-- k's side, and the side of all leaves of x
pub key_side : (k n : Key) {p : ℕ} {b : Bool} → p ≤ shared k n → bit k p ≡ b → Side n p b k
key_side k n s e = record { shares = omega (arith, turn k n); turns = e }

-- ---- a fact of every key stays

each_split : (P : Key → Type 0) (k : Key) (v new copy : ℕ) (x : Tree) → P k → Each P x → Each P (split k v new copy x)
each_split P k v new copy x h g = each_fork P (top x) k c (bit k c) (leaf new k v) (relabel copy x) h (each_relabel P copy x g)
  where
    c : ℕ
    c = shared k (key_of x)

pub each_insert : (P : Key → Type 0) (k : Key) (v new copy : ℕ) (t : Tree) → P k → Each P t → Each P (insert k v new copy t)
each_insert P k v new copy (leaf i a w) h g = go (test_same k a)
  where
    go : Same k a → Each P (insert k v new copy (leaf i a w))
    go (inl s) = rw s.1 g
    go (inr s) = rw s.1 (each_split P k v new copy (leaf i a w) h g)
each_insert P k v new copy (inner i a p l r) h g =
    go (test≤ p (shared k a)) (testb (bit k p)) (each_insert P k v new copy l h g.0) (each_insert P k v new copy r h g.1)
  where
    go : Cmp p (shared k a) → Bit (bit k p) → Each P (insert k v new copy l) → Each P (insert k v new copy r) → Each P (insert k v new copy (inner i a p l r))
    go (inl s) (inl e) x y = rw (s.1, e) (g.0, y)
    go (inl s) (inr e) x y = rw (s.1, e) (x, g.1)
    go (inr s) e x y = rw s.1 (each_split P k v new copy (inner i a p l r) h g)

-- ---- the list's insert, beside keys that are all greater or all less

-- a lies beyond k, seen from the side b
abbrev pub Beyond : Bool → Key → Key → Type 0
Beyond false k a = number_of k < number_of a
Beyond true k a = number_of a < number_of k

-- one entry more, unless the key is there
pub length_put : {A : Type 0} (k : Key) (v : A) (es : List (Key × A)) → Pairs (λ x y. number_of x.0 < number_of y.0) es
    → length (put k v es) ≡ cond (held k es) (length es) (suc (length es))
length_put k v [] h = refl
length_put k v (e ∷ es) h = go (testb (same k e.0)) (testb (ltb (number_of k) (number_of e.0))) (length_put k v es h.1)
  where
    later : number_of k < number_of e.0 → held k es ≡ false
    later s = held_none k es (all_map (λ x l. ne_eqb (number_of k) (number_of x.0) (omega arith)) es h.0)

    go : Bit (same k e.0) → Bit (ltb (number_of k) (number_of e.0)) → length (put k v es) ≡ cond (held k es) (length es) (suc (length es))
        → length (put k v (e ∷ es)) ≡ cond (held k (e ∷ es)) (suc (length es)) (suc (suc (length es)))
    go (inl s) l z = rw s
    go (inr s) (inl l) z = rw (s, l, later (ltb-true (number_of k) (number_of e.0) l))
    go (inr s) (inr l) z = rw (s, l, z) (through suc (held k es) (length es) (suc (length es)))
