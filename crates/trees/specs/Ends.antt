-- Laws of the two ends of a list (`list_end`, `rest_of`: crate `lists`, Entries). A side is a Bool: false is the left, the front; true is the right, the back. What holds at both ends is said once, over the side.
use Rattle.std.specs.Prelude.{◌≡◌, refl, ◌⊎◌, Bool, true, false, not, List, [], ◌∷◌, ◌++◌}
use Rattle.std.proofs.Common.{ap, sym, subst, ◌∙◌, inl, inr, append-nil, append_assoc}
use Rattle.std.proofs.Math.Option.{some, none-ne-some, some-injective}
use Rattle.lists.specs.Lists.{All, Pairs, Across, all_parts, pairs_parts, across_turned}
use Rattle.lists.specs.Entries.{last_of, list_end, rest_of}

-- two lists in a row, near on the side
abbrev pub beside : {A : Type 0} → Bool → List A → List A → List A
beside false near far = near ++ far
beside true near far = far ++ near

-- ---- laws of beside

pub beside_nil : {A : Type 0} (b : Bool) (far : List A) → beside b [] far ≡ far
beside_nil false far = refl
beside_nil true far = append-nil far

pub beside_turned : {A : Type 0} (b : Bool) (near far : List A) → beside (not b) near far ≡ beside b far near
beside_turned false near far = refl
beside_turned true near far = refl

pub beside_beside : {A : Type 0} (b : Bool) (xs ys zs : List A) → beside b (beside b xs ys) zs ≡ beside b xs (beside b ys zs)
beside_beside false xs ys zs = append_assoc xs ys zs
beside_beside true xs ys zs = sym (append_assoc zs ys xs)

pub all_beside : {A : Type 0} (P : A → Type 0) (b : Bool) (near far : List A) → All P (beside b near far) → All P near × All P far
all_beside P false near far h = all_parts P near far h
all_beside P true near far h = let k = all_parts P far near h in (k.1, k.0)

pub pairs_beside : {A : Type 0} {R : A → A → Type 0} → ((x y : A) → R x y → R y x) → (b : Bool) (near far : List A) → Pairs R (beside b near far)
    → Pairs R near × Pairs R far × Across R near far
pairs_beside {A} {R} s false near far h = pairs_parts R near far h
pairs_beside {A} {R} s true near far h = let k = pairs_parts R far near h in (k.1, k.0, across_turned s far near k.2)

-- ---- what stands at an end

pub end_beside : {A : Type 0} (b : Bool) (near far : List A) {x : A} → list_end b near ≡ some x → list_end b (beside b near far) ≡ some x
end_beside false [] far e = absurd (none-ne-some _ e)
end_beside false (y ∷ ys) far e = e
end_beside true near [] e = e
end_beside true [] (z ∷ zs) e = absurd (none-ne-some _ e)
end_beside true (y ∷ ys) (z ∷ zs) e = rw (behind z zs y ys) e
  where
    behind : {A : Type 0} (z : A) (zs : List A) (y : A) (ys : List A) → last_of z (zs ++ y ∷ ys) ≡ last_of y ys
    behind z [] y ys = refl
    behind z (a ∷ zs) y ys = behind a zs y ys

pub end_lone : {A : Type 0} (b : Bool) (x : A) (far : List A) → list_end b (beside b (x ∷ []) far) ≡ some x
end_lone b x far = end_beside b (x ∷ []) far (lone b)
  where
    lone : (b : Bool) → list_end b (x ∷ []) ≡ some x
    lone true = refl
    lone false = refl

pub rest_lone : {A : Type 0} (b : Bool) (x : A) (far : List A) → rest_of b (beside b (x ∷ []) far) ≡ far
rest_lone false x far = refl
rest_lone true x [] = refl
rest_lone true x (y ∷ []) = refl
rest_lone true x (y ∷ z ∷ far) = ap (λ l. y ∷ l) (rest_lone true x (z ∷ far))

-- a list is empty, or something stands at its end
abbrev pub Ends : {A : Type 0} → Bool → List A → Type 0
Ends {A} b xs = (xs ≡ []) ⊎ ((x : A) × (rest : List A) × (xs ≡ beside b (x ∷ []) rest))

pub ends : {A : Type 0} (b : Bool) (xs : List A) → Ends b xs
ends b [] = inl refl
ends false (x ∷ xs) = inr (x, xs, refl)
ends true (x ∷ xs) = go (ends true xs)
  where
    go : Ends true xs → Ends true (x ∷ xs)
    go (inl e) = inr (x, [], rw e)
    go (inr (y, rest, e)) = inr (y, x ∷ rest, rw e)

pub all_end : {A : Type 0} (P : A → Type 0) (b : Bool) (xs : List A) {x : A} → All P xs → list_end b xs ≡ some x → P x
all_end P b xs {x} h e = go (ends b xs)
  where
    go : Ends b xs → P x
    go (inl f) = absurd (none-ne-some x (sym (ap (list_end b) f) ∙ e))
    go (inr (y, rest, f)) =
        let g : y ≡ x = some-injective y x (sym (end_lone b y rest) ∙ sym (ap (list_end b) f) ∙ e) in
        subst P g (all_beside P b (y ∷ []) rest (rw f at h)).0.0
