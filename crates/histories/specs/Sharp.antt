-- Every ordered tree is, in shape, the tree of some accepted image. So the bound on paths is reached: "B and all 128 powers of two: B's path is 129 nodes", in an image that calls made of blank memory.
use Rattle.std.specs.Prelude.{◌≡◌, refl, List, [], ◌∷◌, map, ℕ, suc, max, ◌≤◌, length}
use Rattle.std.proofs.Common.{sym, ap, ◌∙◌, arith, lit<}
use Rattle.std.proofs.Math.Option.{none, some}
use Rattle.std.proofs.lemmas.List.{length-map}
use Rattle.keys.specs.declared.Key.{Key}
use Rattle.keys.specs.Number.{Fits}
use Rattle.records.specs.Numbers.{zero_value}
use Rattle.lists.specs.Lists.{All, all_map, all_mapped, pairs_mapped}
use Rattle.lists.specs.Entries.{Before, Rising}
use Rattle.lists.specs.Machine.{Call, start, Entries}
use Rattle.trees.specs.Tree.{Tree, leaf, inner, entries, each_entries, each_fits, Ordered}
use Rattle.trees.proofs.Tree.{ascending}
use Rattle.trees.specs.Map.{Map, shape_is}
use Rattle.trees.proofs.Map.{map_shape}
use Rattle.trees.specs.Shape.{Shape, lone, branch, shape_of, shape}
use Rattle.trees.specs.Shape as shapes
use Rattle.trees.specs.Paths.{depth, powers}
use Rattle.trees.proofs.Paths.{longest_path}
use Rattle.accepted.specs.Accepted.{Accepted}
use Rattle.accepted_lookup.specs.Answers.{listed}
use Rattle.histories.specs.Calls.{image_after}
use Rattle.histories.specs.Shapes.{keys_of, longest, canonical_shape}
use Rattle.histories.specs.NotEmpty.{Limits, zero_words, inserts, FitsEntry, every_list}

-- the keys of a tree, each with a value of zeros
abbrev zeroed : List (Key × ℕ) → Entries
zeroed es = map (λ e. (e.0, zero_value)) es

zeroed_keys : (es : List (Key × ℕ)) → keys_of (zeroed es) ≡ keys_of es
zeroed_keys [] = refl
zeroed_keys (e ∷ es) = ap (λ (l : List Key). e.0 ∷ l) (zeroed_keys es)

zeroed_rising : (es : List (Key × ℕ)) → Rising es → Rising (zeroed es)
zeroed_rising es h = pairs_mapped Before (λ e. (e.0, zero_value)) es h

zeroed_fits : (es : List (Key × ℕ)) → All (λ e. Fits e.0) es → All FitsEntry (zeroed es)
zeroed_fits es h = all_mapped FitsEntry (λ e. (e.0, zero_value)) es (all_map (λ e f. (f, record { first_fits = lit< tt; second_fits = lit< tt })) es h)

-- An ordered tree of at most M leaves is in shape the tree of an image that calls made of blank memory, and holds the same keys.
pub every_shape : (m n : ℕ) → Limits m n → (t : Tree) → Ordered t → length (entries t) ≤ m
    → (cs : List Call) × ((a : Accepted m n (image_after m n cs (zero_words m n))) × (keys_of (listed a) ≡ keys_of (entries t)) × (shape_is a.tree ≡ shape_of t))
every_shape m n l t o long =
    let es : Entries = zeroed (entries t) in
    let many : length es ≡ length (entries t) = length-map (entries t) (λ (e : Key × ℕ). (e.0, zero_value)) in
    let a = every_list m n l es (zeroed_rising (entries t) (ascending t o)) (zeroed_fits (entries t) (each_entries Fits t (each_fits t o))) (omega arith) in
    let keys : keys_of (listed a.0) ≡ keys_of (entries t) = ap (λ (l : Entries). keys_of l) a.1 ∙ zeroed_keys (entries t) in
    (start ∷ inserts es, (a.0, keys, canonical_shape a.0 ∙ ap shape keys ∙ sym (map_shape (some t) o)))

-- ---- the longest path

-- the nodes on the longest path of a shape
abbrev tall : Shape → ℕ
tall shapes.blank = 0
tall (lone k) = 1
tall (branch p l r) = suc (max (tall l) (tall r))

tall_depth : (t : Tree) → tall (shape_of t) ≡ depth t
tall_depth (leaf i k v) = refl
tall_depth (inner i k p l r) = rw (tall_depth l, tall_depth r)

tall_longest : (t : Map) → tall (shape_is t) ≡ longest t
tall_longest none = refl
tall_longest (some t) = tall_depth t

-- M = 129 and N = 258 are enough for the bound to be reached.
pub bound_reached : (cs : List Call) × ((a : Accepted 129 258 (image_after 129 258 cs (zero_words 129 258))) × (longest a.tree ≡ 129))
bound_reached =
    let limits : Limits 129 258 = record { some = omega arith; most = omega arith; twice = omega arith; nodes_most = omega arith } in
    go limits (powers 128) longest_path.0 longest_path.2 longest_path.3
  where
    go : Limits 129 258 → (t : Tree) → Ordered t → depth t ≡ 129 → length (entries t) ≡ 129
        → (cs : List Call) × ((a : Accepted 129 258 (image_after 129 258 cs (zero_words 129 258))) × (longest a.tree ≡ 129))
    go limits t o deep many =
        let r = every_shape 129 258 limits t o (omega arith) in
        (r.0, (r.1.0, sym (tall_longest r.1.0.tree) ∙ ap tall r.1.2 ∙ tall_depth t ∙ deep))
