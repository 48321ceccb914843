-- Remove does to the entries what the ascending list's remove does.
use Rattle.std.specs.Prelude.{◌≡◌, refl, Bool, true, false, cond, not, List, [], ◌∷◌, ◌++◌, ℕ, ◌<◌}
use Rattle.std.proofs.Common.{sym, ◌∙◌, inl, inr}
use Rattle.std.proofs.Math.Bool.{not-not}
use Rattle.keys.specs.declared.Key.{Key}
use Rattle.lists.specs.Lists.{All}
use Rattle.lists.specs.Entries.{same, Other, erase, erase_none}
use Rattle.trees.specs.Keys.{bit, Bit, testb}
use Rattle.trees.specs.Ends.{beside, beside_nil}
use Rattle.trees.specs.Tree.{Tree, leaf, inner, entries, entries_relabel, gather_fork, Each, each_entries, Side, Ordered}
use Rattle.trees.proofs.Lookup.{strangers}
use Rattle.trees.specs.Remove.{hit, close, remove, erase_hit}

-- ---- the list's remove, beside keys that k is not

erase_beside : {A : Type 0} (k : Key) (b : Bool) (near far : List (Key × A)) → All (λ e. Other k e.0) far
    → erase k (beside b near far) ≡ beside b (erase k near) far
erase_beside k false [] far h = erase_none k far h
erase_beside k false (e ∷ near) far h = go (same k e.0) (erase_beside k false near far h)
  where
    go : (x : Bool) → erase k (near ++ far) ≡ erase k near ++ far → cond x (near ++ far) (e ∷ erase k (near ++ far)) ≡ cond x near (e ∷ erase k near) ++ far
    go true z = refl
    go false z = rw z
erase_beside k true near [] h = refl
erase_beside k true near (e ∷ far) h = rw (h.0, erase_beside k true near far h.1)

entries_close : (k : Key) (i : ℕ) (a : Key) (p : ℕ) (b : Bool) (near far : Tree) → p < 128 → bit k p ≡ b → Each (Side a p (not b)) far
    → (hit k near ≡ false → entries (remove k near) ≡ erase k (entries near))
    → entries (close i a p b (hit k near) (remove k near) far) ≡ erase k (beside b (entries near) (entries far))
entries_close k i a p b near far s e h z = go (testb (hit k near))
  where
    far_stays : erase k (beside b (entries near) (entries far)) ≡ beside b (erase k (entries near)) (entries far)
    far_stays = erase_beside k b (entries near) (entries far) (each_entries (Other k) far (strangers k a p (not b) far s (e ∙ sym (not-not b)) h))

    go : Bit (hit k near) → entries (close i a p b (hit k near) (remove k near) far) ≡ erase k (beside b (entries near) (entries far))
    go (inl g) = rw (g, far_stays, entries_relabel, erase_hit k near g) (sym (beside_nil b (entries far)))
    go (inr g) = rw (g, far_stays, gather_fork, z g)

-- The entries after remove are those of the list after remove.
pub entries_remove : (k : Key) (t : Tree) → Ordered t → hit k t ≡ false → entries (remove k t) ≡ erase k (entries t)
entries_remove k (leaf i a v) o n = rw n
entries_remove k (inner i a p l r) o n = go (testb (bit k p)) (entries_remove k l o.on_left) (entries_remove k r o.on_right)
  where
    go : Bit (bit k p) → (hit k l ≡ false → entries (remove k l) ≡ erase k (entries l)) → (hit k r ≡ false → entries (remove k r) ≡ erase k (entries r))
        → entries (remove k (inner i a p l r)) ≡ erase k (entries (inner i a p l r))
    go (inl e) x y = rw e (entries_close k i a p true r l o.low e o.left y)
    go (inr e) x y = rw e (entries_close k i a p false l r o.low e o.right x)
