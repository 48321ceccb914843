-- The calls on the map are those on its list, and keep its order and its shape.
use Rattle.std.specs.Prelude.{◌≡◌, refl, cond, map, ℕ, suc, length}
use Rattle.std.proofs.Common.{ap, sym, ◌∙◌, inl, inr}
use Rattle.std.proofs.Math.Option.{none, some}
use Rattle.keys.specs.declared.Key.{Key}
use Rattle.keys.specs.Number.{Fits}
use Rattle.lists.specs.Entries.{Rising, find, held, erase, length_erase}
use Rattle.trees.specs.Keys.{Bit, testb}
use Rattle.trees.specs.Tree.{entries, gather_map}
use Rattle.trees.proofs.Tree.{ascending}
use Rattle.trees.specs.Lookup.{value_of}
use Rattle.trees.proofs.Lookup.{lookup_find, reach_find}
use Rattle.trees.specs.Insert.{put, length_put}
use Rattle.trees.proofs.Insert.{ordered_insert, entries_insert}
use Rattle.trees.specs.Remove.{hit, erase_hit}
use Rattle.trees.proofs.Remove.{entries_remove}
use Rattle.trees.specs.Shape.{shape}
use Rattle.trees.proofs.Shape.{canonical}
use Rattle.trees.specs.Map.{Map, list_of, OrderedMap, insert_into, remove_from, lookup_in, reach_in, shape_is}

pub map_insert_ordered : (k : Key) (v new copy : ℕ) (m : Map) → Fits k → OrderedMap m → OrderedMap (insert_into k v new copy m)
map_insert_ordered k v new copy none f o = f
map_insert_ordered k v new copy (some t) f o = ordered_insert k v new copy t f o

pub map_ascending : (m : Map) → OrderedMap m → Rising (list_of m)
map_ascending none o = tt
map_ascending (some t) o = ascending t o

pub map_lookup : (k : Key) (m : Map) → OrderedMap m → (value_of (lookup_in k m) ≡ find k (list_of m)) × (value_of (reach_in k m) ≡ find k (list_of m))
map_lookup k none o = (refl, refl)
map_lookup k (some t) o = (lookup_find k t o, reach_find k t o)

pub map_insert : (k : Key) (v new copy : ℕ) (m : Map) → Fits k → OrderedMap m → list_of (insert_into k v new copy m) ≡ put k v (list_of m)
map_insert k v new copy none f o = refl
map_insert k v new copy (some t) f o = entries_insert k v new copy t f o

pub map_remove : (k : Key) (m : Map) → OrderedMap m → list_of (remove_from k m) ≡ erase k (list_of m)
map_remove k none o = refl
map_remove k (some t) o = go (testb (hit k t))
  where
    go : Bit (hit k t) → list_of (remove_from k (some t)) ≡ erase k (entries t)
    go (inl e) = rw e (sym (erase_hit k t e))
    go (inr e) = rw e (entries_remove k t o e)

-- ---- the number of entries

pub map_insert_length : (k : Key) (v new copy : ℕ) (m : Map) → Fits k → OrderedMap m
    → length (list_of (insert_into k v new copy m)) ≡ cond (held k (list_of m)) (length (list_of m)) (suc (length (list_of m)))
map_insert_length k v new copy m f o = rw (map_insert k v new copy m f o) (length_put k v (list_of m) (map_ascending m o))

pub map_remove_length : (k : Key) (m : Map) → OrderedMap m
    → length (list_of m) ≡ cond (held k (list_of m)) (suc (length (list_of (remove_from k m)))) (length (list_of (remove_from k m)))
map_remove_length k m o = rw (map_remove k m o) (length_erase k (list_of m))

-- ---- the shape

-- The tree is the one that the keys determine.
pub map_shape : (m : Map) → OrderedMap m → shape_is m ≡ shape (map (λ e. e.0) (list_of m))
map_shape none o = refl
map_shape (some t) o = sym (canonical t o) ∙ ap shape (sym (gather_map {A = Key × ℕ} (λ e. e.0) (λ i k v. (k, v)) t))
