-- Lists of numbers: as many different numbers of 1..k as there are in it are all of them.
use Rattle.std.specs.Prelude.{◌≡◌, refl, List, [], ◌∷◌, ◌++◌, ◌≢◌, ◌⊎◌, ℕ, zero, suc, ◌+◌, ◌-◌, ◌≤◌, length}
use Rattle.std.proofs.Common.{sym, subst, inl, inr, arith, lt_of_not-le, length-append}
use Rattle.std.proofs.Math.Decide.{ℕ_discrete, dec_le}
use Rattle.lists.specs.Lists.{All, Pairs, Across, all_append, pairs_append}

-- x stands in the list
abbrev pub Has : ℕ → List ℕ → Type 0
Has x [] = ⊥
Has x (y ∷ ys) = (x ≡ y) ⊎ Has x ys

-- no number stands twice
abbrev pub Distinct : List ℕ → Type 0
Distinct xs = Pairs (λ (x y : ℕ). x ≢ y) xs

-- each is one of 1..k
abbrev pub UpTo : ℕ → List ℕ → Type 0
UpTo k xs = All (λ (x : ℕ). (1 ≤ x) × (x ≤ k)) xs

pub has_all : (P : ℕ → Type 0) (x : ℕ) (xs : List ℕ) → All P xs → Has x xs → P x
has_all P x [] a q = absurd q
has_all P x (y ∷ ys) a (inl e) = subst P (sym e) a.0
has_all P x (y ∷ ys) a (inr q) = has_all P x ys a.1 q

pub has_parts : (x : ℕ) (xs ys : List ℕ) → Has x (xs ++ ys) → Has x xs ⊎ Has x ys
has_parts x [] ys q = inr q
has_parts x (z ∷ xs) ys (inl e) = inl (inl e)
has_parts x (z ∷ xs) ys (inr q) = go (has_parts x xs ys q)
  where
    go : Has x xs ⊎ Has x ys → Has x (z ∷ xs) ⊎ Has x ys
    go (inl p) = inl (inr p)
    go (inr p) = inr p

pub has_left : (x : ℕ) (xs ys : List ℕ) → Has x xs → Has x (xs ++ ys)
has_left x [] ys q = absurd q
has_left x (z ∷ xs) ys (inl e) = inl e
has_left x (z ∷ xs) ys (inr q) = inr (has_left x xs ys q)

pub has_right : (x : ℕ) (xs ys : List ℕ) → Has x ys → Has x (xs ++ ys)
has_right x [] ys q = q
has_right x (z ∷ xs) ys q = inr (has_right x xs ys q)

has_or_not : (x : ℕ) (xs : List ℕ) → Has x xs ⊎ All (λ y. x ≢ y) xs
has_or_not x [] = inr tt
has_or_not x (y ∷ ys) = go (ℕ_discrete x y) (has_or_not x ys)
  where
    go : Dec (x ≡ y) → Has x ys ⊎ All (λ z. x ≢ z) ys → Has x (y ∷ ys) ⊎ All (λ z. x ≢ z) (y ∷ ys)
    go (yes e) q = inl (inl e)
    go (no d) (inl q) = inl (inr q)
    go (no d) (inr q) = inr (d, q)

-- ---- a list without its entry k

pub record Rest (k : ℕ) (xs : List ℕ) : Type 0 where
  pub others : List ℕ
  pub different : Distinct others
  pub within : UpTo k others
  pub one_less : length xs ≤ suc (length others)
  -- who differs from every entry differs from the others
  pub unlike : (x : ℕ) → All (λ y. x ≢ y) xs → All (λ y. x ≢ y) others

-- the list itself, where no entry is k + 1
whole : (k : ℕ) (xs : List ℕ) → All (λ y. suc k ≢ y) xs → UpTo (suc k) xs → UpTo k xs
whole k [] d w = tt
whole k (x ∷ xs) d w = ((w.0.0, omega (arith, w.0.1, d.0)), whole k xs d.1 w.1)

without : (k : ℕ) (xs : List ℕ) → Distinct xs → UpTo (suc k) xs → Rest k xs
without k [] a w = record { others = []; different = tt; within = tt; one_less = omega arith; unlike = λ y p. tt }
without k (x ∷ xs) a w = go (ℕ_discrete (suc k) x) (without k xs a.1 w.1)
  where
    go : Dec (suc k ≡ x) → Rest k xs → Rest k (x ∷ xs)
    go (yes e) r =
        record {
          others = xs;
          different = a.1;
          within = whole k xs (subst (λ (y : ℕ). All (λ z. y ≢ z) xs) (sym e) a.0) w.1;
          one_less = omega arith;
          unlike = λ y p. p.1;
        }
    go (no d) r =
        record {
          others = x ∷ r.others;
          different = (r.unlike x a.0, r.different);
          within = ((w.0.0, omega (arith, w.0.1)), r.within);
          one_less = omega (arith, r.one_less);
          unlike = λ y p. (p.0, r.unlike y p.1);
        }

-- different numbers of 1..k are at most k
pub at_most : (k : ℕ) (xs : List ℕ) → Distinct xs → UpTo k xs → length xs ≤ k
at_most zero [] a w = omega arith
at_most zero (x ∷ xs) a w = absurd (omega (arith, w.0))
at_most (suc k) xs a w =
    let r : Rest k xs = without k xs a w in
    omega (arith, r.one_less, at_most k r.others r.different r.within)

-- k different numbers of 1..k are all of them
pub all_there : (k : ℕ) (xs : List ℕ) → Distinct xs → UpTo k xs → k ≤ length xs → (y : ℕ) → 1 ≤ y → y ≤ k → Has y xs
all_there k xs a w many y low high = go (has_or_not y xs)
  where
    go : Has y xs ⊎ All (λ x. y ≢ x) xs → Has y xs
    go (inl q) = q
    go (inr d) = absurd (omega (arith, at_most k (y ∷ xs) (d, a) ((low, high), w)))

-- ---- one of three

pub record OneOfThree (A B C : Type 0) : Type 0 where
  pub at_least : A ⊎ (B ⊎ C)
  pub not_first_two : A → B → ⊥
  pub not_outer_two : A → C → ⊥
  pub not_last_two : B → C → ⊥

-- the same of what follows from the first and the last and comes to the same
pub three_alike : {A B C A' C' : Type 0} → (A → A') → (A' → A) → (C → C') → (C' → C) → OneOfThree A B C → OneOfThree A' B C'
three_alike {A} {B} {C} {A'} {C'} f g h k o =
    record {
      at_least = go o.at_least;
      not_first_two = λ a b. o.not_first_two (g a) b;
      not_outer_two = λ a c. o.not_outer_two (g a) (k c);
      not_last_two = λ b c. o.not_last_two b (k c);
    }
  where
    go : A ⊎ (B ⊎ C) → A' ⊎ (B ⊎ C')
    go (inl a) = inl (f a)
    go (inr (inl b)) = inr (inl b)
    go (inr (inr c)) = inr (inr (h c))

-- Different numbers below the bump, in two lists, as many as there are: each number is in the one, in the other, or not below the
-- bump.
pub three_places : (bump : ℕ) (xs ys : List ℕ) → Distinct xs → Distinct ys → ((x : ℕ) → Has x xs → Has x ys → ⊥)
    → UpTo (bump - 1) xs → UpTo (bump - 1) ys → bump - 1 ≤ length xs + length ys → (x : ℕ) → 1 ≤ x → OneOfThree (Has x xs) (Has x ys) (bump ≤ x)
three_places bump xs ys a b both w v many x low =
    record {
      at_least = go (dec_le bump x);
      not_first_two = both x;
      not_outer_two = λ q l. omega (arith, has_all (λ z. (1 ≤ z) × (z ≤ bump - 1)) x xs w q);
      not_last_two = λ q l. omega (arith, has_all (λ z. (1 ≤ z) × (z ≤ bump - 1)) x ys v q);
    }
  where
    apart_each : (zs : List ℕ) → ((x : ℕ) → Has x zs → Has x ys → ⊥) → Across (λ (x y : ℕ). x ≢ y) zs ys
    apart_each [] f = tt
    apart_each (z ∷ zs) f = (unlike ys (λ q. f z (inl refl) q), apart_each zs (λ y q. f y (inr q)))
      where
        unlike : (us : List ℕ) → (Has z us → ⊥) → All (λ y. z ≢ y) us
        unlike [] g = tt
        unlike (u ∷ us) g = ((λ e. g (inl e)), unlike us (λ q. g (inr q)))

    go : Dec (bump ≤ x) → Has x xs ⊎ (Has x ys ⊎ (bump ≤ x))
    go (yes l) = inr (inr l)
    go (no d) =
        let each = pairs_append (λ (x y : ℕ). x ≢ y) xs ys a b (apart_each xs both) in
        let all = all_append (λ z. (1 ≤ z) × (z ≤ bump - 1)) xs ys w v in
        let there = all_there (bump - 1) (xs ++ ys) each all (rw length-append many) x low (omega (arith, lt_of_not-le d)) in
        found (has_parts x xs ys there)
      where
        found : Has x xs ⊎ Has x ys → Has x xs ⊎ (Has x ys ⊎ (bump ≤ x))
        found (inl q) = inl q
        found (inr q) = inr (inl q)
