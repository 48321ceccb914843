-- The map: empty, or a tree. "the ascending list decides what a map means" (the rules P): insert, remove and lookup on the map are
-- those on its list, with nothing assumed but order, and order stays.
use Rattle.std.specs.Prelude.{◌≡◌, refl, Bool, true, false, cond, List, [], ℕ}
use Rattle.std.proofs.Common.{sym}
use Rattle.std.proofs.Math.Option
use Rattle.std.proofs.Math.Option.{Option, none, some}
use Rattle.keys.specs.declared.Key.{Key}
use Rattle.lists.specs.Entries.{list_end}
use Rattle.trees.specs.Tree.{Tree, leaf, entries, Ordered}
use Rattle.trees.specs.Lookup.{lookup, reach, outermost, outermost_entry}
use Rattle.trees.specs.Insert.{insert}
use Rattle.trees.specs.Remove.{hit, remove, ordered_remove}
use Rattle.trees.specs.Shape.{Shape, blank, shape_of}

abbrev pub Map : Type 0
Map = Option Tree

abbrev pub list_of : Map → List (Key × ℕ)
list_of none = []
list_of (some t) = entries t

abbrev pub OrderedMap : Map → Type 0
OrderedMap none = Unit {0}
OrderedMap (some t) = Ordered t

-- ---- the calls

-- into the empty map only the new leaf goes
abbrev pub insert_into : Key → ℕ → ℕ → ℕ → Map → Map
insert_into k v new copy none = some (leaf new k v)
insert_into k v new copy (some t) = some (insert k v new copy t)

-- a lone leaf leaves the empty map
abbrev pub remove_from : Key → Map → Map
remove_from k none = none
remove_from k (some t) = cond (hit k t) none (some (remove k t))

-- by the descent of lookup, and by that of remove
abbrev pub lookup_in : Key → Map → Option (ℕ × ℕ)
lookup_in k none = none
lookup_in k (some t) = lookup k t

abbrev pub reach_in : Key → Map → Option (ℕ × ℕ)
reach_in k none = none
reach_in k (some t) = reach k t

-- the smallest key is at the side false, the largest at the side true
abbrev pub outermost_in : Bool → Map → Option (Key × (ℕ × ℕ))
outermost_in b none = none
outermost_in b (some t) = some (outermost b t)

abbrev pub shape_is : Map → Shape
shape_is none = blank
shape_is (some t) = shape_of t

-- ---- order stays

pub map_remove_ordered : (k : Key) (m : Map) → OrderedMap m → OrderedMap (remove_from k m)
map_remove_ordered k none o = tt
map_remove_ordered k (some t) o = go (hit k t)
  where
    go : (b : Bool) → OrderedMap (cond b none (some (remove k t)))
    go true = tt
    go false = ordered_remove k t o

-- ---- the list decides

pub map_outermost : (b : Bool) (m : Map) → Option.map (λ e. (e.0, e.1.1)) (outermost_in b m) ≡ list_end b (list_of m)
map_outermost b none = refl
map_outermost b (some t) = sym (outermost_entry b t)
