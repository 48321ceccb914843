-- Lists: a fact of every element, and a fact of every element and each later one.
use Rattle.std.specs.Prelude.{List, [], ◌∷◌, ◌++◌, map}

abbrev pub All : {A : Type 0} → (A → Type 0) → List A → Type 0
All P [] = Unit {0}
All P (x ∷ xs) = P x × All P xs

abbrev pub Pairs : {A : Type 0} → (A → A → Type 0) → List A → Type 0
Pairs R [] = Unit {0}
Pairs R (x ∷ xs) = All (R x) xs × Pairs R xs

-- R of each element of the one list and each of the other
abbrev pub Across : {A : Type 0} → (A → A → Type 0) → List A → List A → Type 0
Across R xs ys = All (λ x. All (R x) ys) xs

-- ---- a fact of every element

pub all_map : {A : Type 0} {P Q : A → Type 0} → ((a : A) → P a → Q a) → (xs : List A) → All P xs → All Q xs
all_map f [] h = tt
all_map f (x ∷ xs) h = (f x h.0, all_map f xs h.1)

pub all_both : {A : Type 0} {P Q R : A → Type 0} → ((a : A) → P a → Q a → R a) → (xs : List A) → All P xs → All Q xs → All R xs
all_both f [] h k = tt
all_both f (x ∷ xs) h k = (f x h.0 k.0, all_both f xs h.1 k.1)

pub all_append : {A : Type 0} (P : A → Type 0) (xs ys : List A) → All P xs → All P ys → All P (xs ++ ys)
all_append P [] ys h k = k
all_append P (x ∷ xs) ys h k = (h.0, all_append P xs ys h.1 k)

pub all_parts : {A : Type 0} (P : A → Type 0) (xs ys : List A) → All P (xs ++ ys) → All P xs × All P ys
all_parts P [] ys h = (tt, h)
all_parts P (x ∷ xs) ys h = let k = all_parts P xs ys h.1 in ((h.0, k.0), k.1)

pub all_mapped : {A B : Type 0} (P : B → Type 0) (f : A → B) (xs : List A) → All (λ x. P (f x)) xs → All P (map f xs)
all_mapped P f [] h = tt
all_mapped P f (x ∷ xs) h = (h.0, all_mapped P f xs h.1)

-- ---- a fact of every pair

pub pairs_mapped : {A B : Type 0} (R : B → B → Type 0) (f : A → B) (xs : List A) → Pairs (λ x y. R (f x) (f y)) xs → Pairs R (map f xs)
pairs_mapped R f [] h = tt
pairs_mapped R f (x ∷ xs) h = (all_mapped (R (f x)) f xs h.0, pairs_mapped R f xs h.1)

pub pairs_append : {A : Type 0} (R : A → A → Type 0) (xs ys : List A) → Pairs R xs → Pairs R ys → Across R xs ys → Pairs R (xs ++ ys)
pairs_append R [] ys h k b = k
pairs_append R (x ∷ xs) ys h k b = (all_append (R x) xs ys h.0 b.0, pairs_append R xs ys h.1 k b.1)

pub pairs_parts : {A : Type 0} (R : A → A → Type 0) (xs ys : List A) → Pairs R (xs ++ ys) → Pairs R xs × Pairs R ys × Across R xs ys
pairs_parts R [] ys h = (tt, h, tt)
pairs_parts R (x ∷ xs) ys h =
    let k = pairs_parts R xs ys h.1 in
    let a = all_parts (R x) xs ys h.0 in
    ((a.0, k.0), k.1, (a.1, k.2))

pub across : {A : Type 0} {P Q : A → Type 0} {R : A → A → Type 0} → ((a b : A) → P a → Q b → R a b) → (xs ys : List A) → All P xs → All Q ys → Across R xs ys
across f xs ys h k = all_map (λ a p. all_map (λ b q. f a b p q) ys k) xs h

across_column : {A : Type 0} {R : A → A → Type 0} → ((a b : A) → R a b → R b a) → (xs : List A) (y : A) (ys : List A) → Across R xs (y ∷ ys)
    → All (R y) xs × Across R xs ys
across_column s [] y ys h = (tt, tt)
across_column s (x ∷ xs) y ys h =
    let k = across_column s xs y ys h.1 in
    ((s x y h.0.0, k.0), (h.0.1, k.1))

pub across_turned : {A : Type 0} {R : A → A → Type 0} → ((a b : A) → R a b → R b a) → (xs ys : List A) → Across R xs ys → Across R ys xs
across_turned s xs [] h = tt
across_turned s xs (y ∷ ys) h = let k = across_column s xs y ys h in (k.0, across_turned s xs ys k.1)
