-- Taking from the two ends of a list: each element is taken once, in the order of its end, one element a step, and then none for ever.
use Rattle.std.specs.Prelude.{◌≡◌, refl, List, [], ◌∷◌, ◌++◌, map, Bool, true, false, ◌-◌, ◌≤◌, length}
use Rattle.std.proofs.Common.{sym, ap, subst, ◌∙◌, append-nil, append_assoc, inl, inr, arith, length-append}
use Rattle.std.proofs.Math.Option
use Rattle.std.proofs.Math.Option.{Option, none, some}
use Rattle.lists.specs.Entries.{list_end, rest_of}
use Rattle.trees.specs.Ends.{end_lone, rest_lone, Ends, ends}
use Rattle.trees.specs.Walk.{taken, run}

-- ---- what was taken, and what is left

-- what the steps at the front gave, in their order
abbrev pub at_front : {A : Type 0} → List Bool → List (Option A) → List A
at_front [] answers = []
at_front (back ∷ sides) [] = []
at_front (back ∷ sides) (none ∷ answers) = at_front sides answers
at_front (false ∷ sides) (some x ∷ answers) = x ∷ at_front sides answers
at_front (true ∷ sides) (some x ∷ answers) = at_front sides answers

-- what the steps at the back gave, the last one first
abbrev pub at_back : {A : Type 0} → List Bool → List (Option A) → List A
at_back [] answers = []
at_back (back ∷ sides) [] = []
at_back (back ∷ sides) (none ∷ answers) = at_back sides answers
at_back (false ∷ sides) (some x ∷ answers) = at_back sides answers
at_back (true ∷ sides) (some x ∷ answers) = at_back sides answers ++ x ∷ []

abbrev pub left : {A : Type 0} → List Bool → List A → List A
left [] xs = xs
left (back ∷ sides) xs = left sides (rest_of back xs)

-- Whatever the order of the steps: what the front gave, what is left and what the back gave are the list.
pub taken_once : {A : Type 0} (sides : List Bool) (xs : List A) → at_front sides (run taken xs sides) ++ (left sides xs ++ at_back sides (run taken xs sides)) ≡ xs
taken_once [] xs = append-nil xs
taken_once {A} (b ∷ sides) xs = go b xs (ends b xs) (taken_once sides)
  where
    Whole : (sides : List Bool) → List A → Type 0
    Whole sides ys = at_front sides (run taken ys sides) ++ (left sides ys ++ at_back sides (run taken ys sides)) ≡ ys

    go : (b : Bool) (ys : List A) → Ends b ys → ((zs : List A) → Whole sides zs) → Whole (b ∷ sides) ys
    go b ys (inl e) rec = subst (Whole (b ∷ sides)) (sym e) (rec [])
    go false ys (inr (x, rest, e)) rec = subst (Whole (false ∷ sides)) (sym e) (ap (λ (l : List A). x ∷ l) (rec rest))
    go true ys (inr (x, rest, e)) rec =
        subst (Whole (true ∷ sides)) (sym e)
        (rw (end_lone true x rest, rest_lone true x rest) (simp append_assoc at (ap (λ (l : List A). l ++ x ∷ []) (rec rest))))

-- a step takes one
rest_length : {A : Type 0} (b : Bool) (xs : List A) → length (rest_of b xs) ≡ length xs - 1
rest_length {A} b xs = go b xs (ends b xs)
  where
    go : (b : Bool) (ys : List A) → Ends b ys → length (rest_of b ys) ≡ length ys - 1
    go b ys (inl e) = rw e refl
    go false ys (inr (x, rest, e)) = rw e (omega arith)
    go true ys (inr (x, rest, e)) = rw e (omega (arith, ap length (rest_lone true x rest), length-append rest (x ∷ [])))

pub left_length : {A : Type 0} (sides : List Bool) (xs : List A) → length (left sides xs) ≡ length xs - length sides
left_length [] xs = omega arith
left_length (b ∷ sides) xs = omega (arith, left_length sides (rest_of b xs), rest_length b xs)

-- from the empty list every step takes nothing
pub none_taken : {A : Type 0} (sides : List Bool) → run {A = A} taken [] sides ≡ map {B = Option A} (λ b. none) sides
none_taken [] = refl
none_taken {A} (b ∷ sides) = ap (λ (l : List (Option A)). none ∷ l) (none_taken sides)

run_append : {A : Type 0} (sides more : List Bool) (xs : List A) → run taken xs (sides ++ more) ≡ run taken xs sides ++ run taken (left sides xs) more
run_append [] more xs = refl
run_append {A} (b ∷ sides) more xs = ap (λ (l : List (Option A)). list_end b xs ∷ l) (run_append sides more (rest_of b xs))

pub no_elements : {A : Type 0} (xs : List A) → length xs ≡ 0 → xs ≡ []
no_elements [] e = refl
no_elements (x ∷ xs) e = absurd (omega arith)

-- As many steps as the list is long take all of it; every later step takes nothing.
pub taken_all : {A : Type 0} (sides more : List Bool) (xs : List A) → length xs ≤ length sides
    → (at_front sides (run taken xs sides) ++ at_back sides (run taken xs sides) ≡ xs) × (run taken xs (sides ++ more) ≡ run taken xs sides ++ map (λ b. none) more)
taken_all {A} sides more xs l =
    let gone : left sides xs ≡ [] = no_elements (left sides xs) (omega (arith, left_length sides xs)) in (
      sym (ap (λ (ys : List A). at_front sides (run taken xs sides) ++ (ys ++ at_back sides (run taken xs sides))) gone) ∙ taken_once sides xs,
      run_append sides more xs ∙ ap (λ (ys : List A). run taken xs sides ++ run taken ys more) gone ∙ ap (λ (l : List (Option A)). run taken xs sides ++ l) (none_taken more),
    )

-- ---- a list and its image under a function

pub end_map : {A B : Type 0} (f : A → B) (b : Bool) (xs : List A) → list_end b (map f xs) ≡ Option.map f (list_end b xs)
end_map f b [] = refl
end_map f false (x ∷ xs) = refl
end_map f true (x ∷ []) = refl
end_map f true (x ∷ y ∷ xs) = end_map f true (y ∷ xs)

pub rest_map : {A B : Type 0} (f : A → B) (b : Bool) (xs : List A) → rest_of b (map f xs) ≡ map f (rest_of b xs)
rest_map f b [] = refl
rest_map f false (x ∷ xs) = refl
rest_map f true (x ∷ []) = refl
rest_map {A} {B} f true (x ∷ y ∷ xs) = ap (λ (l : List B). f x ∷ l) (rest_map f true (y ∷ xs))

pub map_constant : {A B C : Type 0} (f : B → C) (x : B) (ys : List A) → map f (map (λ y. x) ys) ≡ map (λ y. f x) ys
map_constant f x [] = refl
map_constant {A} {B} {C} f x (y ∷ ys) = ap (λ (l : List C). f x ∷ l) (map_constant f x ys)
