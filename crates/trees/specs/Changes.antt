-- Which nodes a call changes: insert the two that it takes, the node x where the descent stops, and x's children; remove the leaf, its parent, its sibling, and
-- the sibling's children. At most five each; all other nodes of the tree hold what they held.
use Rattle.std.specs.Prelude.{◌≡◌, refl, ◌⊎◌, Bool, true, false, cond, ℕ, leb}
use Rattle.std.proofs.Common.{sym, subst, inl, inr}
use Rattle.keys.specs.declared.Key.{Key}
use Rattle.lists.specs.Entries.{same}
use Rattle.trees.specs.Keys.{shared, bit, Bit, testb, unequal}
use Rattle.trees.specs.Tree.{Tree, leaf, inner, fork, top, key_of, relabel}
use Rattle.trees.specs.Insert.{split, insert}
use Rattle.trees.specs.Remove.{hit, close, remove}
use Rattle.trees.specs.Nodes.{
  In,
  Child,
  top_relabel,
  top_fork,
  relabel_top,
  Row,
  Says,
  SaysFork,
  fork_says,
  says_fork,
  says_moved,
  Except,
  except_same,
  except_below,
}

-- ---- insert

-- the node x where the descent of insert stops
abbrev pub target : Key → Tree → Tree
target k (leaf i a v) = leaf i a v
target k (inner i a p l r) = cond (leb p (shared k a)) (cond (bit k p) (target k r) (target k l)) (inner i a p l r)

-- the new leaf's node, the copy's, x and its children
abbrev pub Split : ℕ → ℕ → Tree → ℕ → Type 0
Split new copy x y = (y ≡ new) ⊎ ((y ≡ copy) ⊎ ((y ≡ top x) ⊎ Child y x))

pub in_target : (k : Key) (t : Tree) (y : ℕ) → In y (target k t) → In y t
in_target k (leaf i a v) y q = q
in_target k (inner i a p l r) y q = go (leb p (shared k a)) (bit k p) (in_target k l y) (in_target k r y) q
  where
    go : (s b : Bool) → (In y (target k l) → In y l) → (In y (target k r) → In y r)
        → In y (cond s (cond b (target k r) (target k l)) (inner i a p l r)) → In y (inner i a p l r)
    go true true f g z = inr (inr (g z))
    go true false f g z = inr (inl (f z))
    go false b f g z = z

pub top_insert : (k : Key) (v new copy : ℕ) (t : Tree) → top (insert k v new copy t) ≡ top t
top_insert k v new copy (leaf i a w) = go (same k a)
  where
    go : (s : Bool) → top (cond s (leaf i a w) (split k v new copy (leaf i a w))) ≡ i
    go true = refl
    go false = top_fork i k (shared k a) (bit k (shared k a)) (leaf new k v) (leaf copy a w)
top_insert k v new copy (inner i a p l r) = go (leb p (shared k a)) (bit k p)
  where
    go : (s b : Bool)
        → top (cond s (cond b (inner i a p l (insert k v new copy r)) (inner i a p (insert k v new copy l) r)) (split k v new copy (inner i a p l r))) ≡ i
    go true true = refl
    go true false = refl
    go false b = top_fork i k (shared k a) (bit k (shared k a)) (leaf new k v) (inner copy a p l r)

split_changes : (k : Key) (v new copy parent : ℕ) (x : Tree) → Except (Split new copy x) parent x (split k v new copy x)
split_changes k v new copy parent x = record {
  stays = λ y n q. stays y n (says_moved y n parent (top x) (top x) copy x (subst (λ t. Says y n parent t) (sym (relabel_top x)) q));
  comes = λ y n q. comes y n (fork_says y n parent (top x) k c b (leaf new k v) (relabel copy x) q);
}
  where
    c : ℕ
    c = shared k (key_of x)

    b : Bool
    b = bit k c

    stays : (y : ℕ) (n : Row) → (y ≡ top x) ⊎ (Child y x ⊎ Says y n (top x) (relabel copy x)) → Split new copy x y ⊎ Says y n parent (split k v new copy x)
    stays y n (inl e) = inl (inr (inr (inl e)))
    stays y n (inr (inl z)) = inl (inr (inr (inr z)))
    stays y n (inr (inr z)) = inr (says_fork y n parent (top x) k c b (leaf new k v) (relabel copy x) (inr (inr z)))

    back : (y : ℕ) (n : Row) → (y ≡ copy) ⊎ (Child y x ⊎ Says y n parent (relabel (top x) x)) → Split new copy x y ⊎ Says y n parent x
    back y n (inl e) = inl (inr (inl e))
    back y n (inr (inl z)) = inl (inr (inr (inr z)))
    back y n (inr (inr z)) = inr (subst (λ t. Says y n parent t) (relabel_top x) z)

    comes : (y : ℕ) (n : Row) → SaysFork y n parent (top x) k c b (leaf new k v) (relabel copy x) → Split new copy x y ⊎ Says y n parent x
    comes y n (inl z) = inl (inr (inr (inl z.0)))
    comes y n (inr (inl z)) = inl (inl z.0)
    comes y n (inr (inr z)) = back y n (says_moved y n (top x) parent copy (top x) x z)

pub insert_changes : (k : Key) (v new copy parent : ℕ) (t : Tree) → Except (Split new copy (target k t)) parent t (insert k v new copy t)
insert_changes k v new copy parent (leaf i a w) = go (same k a)
  where
    go : (s : Bool) → Except (Split new copy (leaf i a w)) parent (leaf i a w) (cond s (leaf i a w) (split k v new copy (leaf i a w)))
    go true = except_same (Split new copy (leaf i a w)) parent (leaf i a w)
    go false = split_changes k v new copy parent (leaf i a w)
insert_changes k v new copy parent (inner i a p l r) = go (leb p (shared k a)) (bit k p) (insert_changes k v new copy i l) (insert_changes k v new copy i r)
  where
    go : (s b : Bool) → Except (Split new copy (target k l)) i l (insert k v new copy l) → Except (Split new copy (target k r)) i r (insert k v new copy r)
        → Except (Split new copy (cond s (cond b (target k r) (target k l)) (inner i a p l r))) parent (inner i a p l r)
        (cond s (cond b (inner i a p l (insert k v new copy r)) (inner i a p (insert k v new copy l) r)) (split k v new copy (inner i a p l r)))
    go true true x y = except_below (Split new copy (target k r)) parent i a p true r (insert k v new copy r) l (sym (top_insert k v new copy r)) y
    go true false x y = except_below (Split new copy (target k l)) parent i a p false l (insert k v new copy l) r (sym (top_insert k v new copy l)) x
    go false b x y = split_changes k v new copy parent (inner i a p l r)

-- ---- remove

-- the parent of the key's leaf; a leaf where there is none
abbrev pub spot : Key → Tree → Tree
spot k (leaf i a v) = leaf i a v
spot k (inner i a p l r) = cond (bit k p) (cond (hit k r) (inner i a p l r) (spot k r)) (cond (hit k l) (inner i a p l r) (spot k l))

-- the parent, the leaf and its sibling, and the sibling's children
abbrev pub Closed : Key → Tree → ℕ → Type 0
Closed k (leaf i a v) y = ⊥
Closed k (inner i a p l r) y = (y ≡ i) ⊎ ((y ≡ top l) ⊎ ((y ≡ top r) ⊎ Child y (cond (bit k p) l r)))

pub in_spot : (k : Key) (t : Tree) (y : ℕ) → In y (spot k t) → In y t
in_spot k (leaf i a v) y q = q
in_spot k (inner i a p l r) y q = go (bit k p) (hit k l) (hit k r) (in_spot k l y) (in_spot k r y) q
  where
    go : (b u w : Bool) → (In y (spot k l) → In y l) → (In y (spot k r) → In y r)
        → In y (cond b (cond w (inner i a p l r) (spot k r)) (cond u (inner i a p l r) (spot k l))) → In y (inner i a p l r)
    go true u true f g z = z
    go true u false f g z = inr (inr (g z))
    go false true w f g z = z
    go false false w f g z = inr (inl (f z))

pub top_remove : (k : Key) (t : Tree) → top (remove k t) ≡ top t
top_remove k (leaf i a v) = refl
top_remove k (inner i a p l r) = go (bit k p) (hit k l) (hit k r)
  where
    go : (b u w : Bool) → top (cond b (close i a p true w (remove k r) l) (close i a p false u (remove k l) r)) ≡ i
    go true u true = top_relabel i l
    go true u false = refl
    go false true w = top_relabel i r
    go false false w = refl

-- near is the key's leaf, far its sibling
close_changes : (S : ℕ → Type 0) (k : Key) (parent i : ℕ) (a : Key) (p : ℕ) (b : Bool) (near far : Tree) → hit k near ≡ true
    → ((y : ℕ) → (y ≡ i) ⊎ ((y ≡ top near) ⊎ ((y ≡ top far) ⊎ Child y far)) → S y) → Except S parent (fork i a p b near far) (relabel i far)
close_changes S k parent i a p b (inner j d q l r) far e s = absurd (unequal false e refl)
close_changes S k parent i a p b (leaf j d v) far e s = record {
  stays = λ y n q. stays y n (fork_says y n parent i a p b (leaf j d v) far q);
  comes = λ y n q. comes y n (says_moved y n parent i i (top far) far q);
}
  where
    lifted : (y : ℕ) (n : Row) → (y ≡ top far) ⊎ (Child y far ⊎ Says y n parent (relabel i far)) → S y ⊎ Says y n parent (relabel i far)
    lifted y n (inl f) = inl (s y (inr (inr (inl f))))
    lifted y n (inr (inl z)) = inl (s y (inr (inr (inr z))))
    lifted y n (inr (inr z)) = inr z

    stays : (y : ℕ) (n : Row) → SaysFork y n parent i a p b (leaf j d v) far → S y ⊎ Says y n parent (relabel i far)
    stays y n (inl z) = inl (s y (inl z.0))
    stays y n (inr (inl z)) = inl (s y (inr (inl z.0)))
    stays y n (inr (inr z)) = lifted y n (says_moved y n i parent (top far) i far (subst (λ t. Says y n i t) (sym (relabel_top far)) z))

    comes : (y : ℕ) (n : Row) → (y ≡ i) ⊎ (Child y far ⊎ Says y n i (relabel (top far) far)) → S y ⊎ Says y n parent (fork i a p b (leaf j d v) far)
    comes y n (inl f) = inl (s y (inl f))
    comes y n (inr (inl z)) = inl (s y (inr (inr (inr z))))
    comes y n (inr (inr z)) = inr (says_fork y n parent i a p b (leaf j d v) far (inr (inr (subst (λ t. Says y n i t) (relabel_top far) z))))

pub remove_changes : (k : Key) (parent : ℕ) (t : Tree) → Except (Closed k (spot k t)) parent t (remove k t)
remove_changes k parent (leaf i a v) = except_same (λ y. ⊥) parent (leaf i a v)
remove_changes k parent (inner i a p l r) = go (testb (bit k p)) (testb (hit k l)) (testb (hit k r)) (remove_changes k i l) (remove_changes k i r)
  where
    S : ℕ → Type 0
    S y = Closed k (inner i a p l r) y

    on_right : bit k p ≡ true → (y : ℕ) → (y ≡ i) ⊎ ((y ≡ top r) ⊎ ((y ≡ top l) ⊎ Child y l)) → S y
    on_right e y (inl z) = inl z
    on_right e y (inr (inl z)) = inr (inr (inl z))
    on_right e y (inr (inr (inl z))) = inr (inl z)
    on_right e y (inr (inr (inr z))) = inr (inr (inr (rw e z)))

    on_left : bit k p ≡ false → (y : ℕ) → (y ≡ i) ⊎ ((y ≡ top l) ⊎ ((y ≡ top r) ⊎ Child y r)) → S y
    on_left e y (inl z) = inl z
    on_left e y (inr (inl z)) = inr (inl z)
    on_left e y (inr (inr (inl z))) = inr (inr (inl z))
    on_left e y (inr (inr (inr z))) = inr (inr (inr (rw e z)))

    go : Bit (bit k p) → Bit (hit k l) → Bit (hit k r) → Except (Closed k (spot k l)) i l (remove k l) → Except (Closed k (spot k r)) i r (remove k r)
        → Except (Closed k (spot k (inner i a p l r))) parent (inner i a p l r) (remove k (inner i a p l r))
    go (inl e) u (inl w) x y = rw (e, w) (close_changes S k parent i a p true r l w (on_right e))
    go (inl e) u (inr w) x y = rw (e, w) (except_below (Closed k (spot k r)) parent i a p true r (remove k r) l (sym (top_remove k r)) y)
    go (inr e) (inl u) w x y = rw (e, u) (close_changes S k parent i a p false l r u (on_left e))
    go (inr e) (inr u) w x y = rw (e, u) (except_below (Closed k (spot k l)) parent i a p false l (remove k l) r (sym (top_remove k l)) x)
