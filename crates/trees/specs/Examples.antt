-- The bench examples of the rules B, on trees: "A is 2^127, B is 0, C is 1". A is inserted into the empty map, then B, then C.
use Rattle.std.specs.Prelude.{◌≡◌, refl, true, false, List, [], ◌∷◌, ℕ, ◌^◌, max, length}
use Rattle.std.proofs.Math.Option.{none, some}
use Rattle.keys.specs.declared.Key.{Key}
use Rattle.keys.specs.Number.{number_of}
use Rattle.keys.specs.Common.{common, common_of, bit_of}
use Rattle.trees.specs.Tree.{Tree, leaf, inner}
use Rattle.trees.specs.Shape.{lone, branch, shape}
use Rattle.trees.specs.Paths.{powers}
use Rattle.trees.specs.Map.{Map, insert_into, remove_from, lookup_in, outermost_in, list_of}
use Rattle.trees.specs.Walk.{start, step, run}
use Rattle.trees.specs.Stacks.{moments}

abbrev A : Key
A = record { high = 2 ^ 63; low = 0 }

abbrev B : Key
B = record { high = 0; low = 0 }

abbrev C : Key
C = record { high = 0; low = 1 }

-- "B gives 2: root prefix 0, Left 2, Right 3. C gives 4: node 2 has prefix 127, Left 5, Right 4, so index 2 no longer names B."
abbrev two : Map
two = insert_into B 2 2 3 (insert_into A 1 1 0 none)

abbrev three : Map
three = insert_into C 3 4 5 two

pub inserted : (two ≡ some (inner 1 B 0 (leaf 2 B 2) (leaf 3 A 1))) × (three ≡ some (inner 1 B 0 (inner 2 C 127 (leaf 5 B 2) (leaf 4 C 3)) (leaf 3 A 1)))
unfolding number_of common common_of bit_of
inserted = (refl, refl)

-- "Listing: B, C, A."
pub listed : list_of three ≡ (B, 2) ∷ (C, 3) ∷ (A, 1) ∷ []
unfolding number_of common common_of bit_of
listed = refl

-- "front, back, front, back, front: B, A, C, 4, 4", where 4 is the number for absent; and the front alone
pub walked : (run step (start three) (false ∷ true ∷ false ∷ true ∷ false ∷ []) ≡ some (B, 2) ∷ some (A, 1) ∷ some (C, 3) ∷ none ∷ none ∷ [])
    × (run step (start three) (false ∷ false ∷ false ∷ false ∷ true ∷ []) ≡ some (B, 2) ∷ some (C, 3) ∷ some (A, 1) ∷ none ∷ none ∷ [])
unfolding number_of common common_of bit_of
walked = (refl, refl)

pub found : (lookup_in A three ≡ some (3, 1)) × (lookup_in B three ≡ some (5, 2)) × (lookup_in (record { high = 0; low = 2 }) three ≡ none)
    × (outermost_in false three ≡ some (B, (5, 2))) × (outermost_in true three ≡ some (A, (3, 1)))
unfolding number_of common common_of bit_of
found = (refl, refl, refl, refl, refl)

-- Remove A, and "A again gives 2; the root has Left 3, Right 2."
pub removed : (remove_from A three ≡ some (inner 1 C 127 (leaf 5 B 2) (leaf 4 C 3)))
    × (insert_into A 1 2 3 (remove_from A three) ≡ some (inner 1 A 0 (inner 3 C 127 (leaf 5 B 2) (leaf 4 C 3)) (leaf 2 A 1)))
unfolding number_of common common_of bit_of
removed = (refl, refl)

-- the shape that the three keys determine
pub shaped : shape (B ∷ C ∷ A ∷ []) ≡ branch 0 (branch 127 (lone B) (lone C)) (lone A)
unfolding number_of common common_of bit_of
shaped = refl

-- "They give a stack 128 places": with B and all powers of two the front's stack holds 129.
abbrev highest : List (List Tree) → ℕ
highest [] = 0
highest (s ∷ ss) = max (length s) (highest ss)

pub full_stack : highest (moments (start (some (powers 128))) (false ∷ [])) ≡ 129
unfolding number_of common common_of bit_of
full_stack = refl
