-- The marks of the value records that leaves name: leaves mark one after the other, each a record that none marked before,
-- exactly if they name different records.
use Rattle.std.specs.Prelude.{◌≡◌, refl, List, [], ◌∷◌, ◌++◌, ◌≢◌, ℕ, zero, suc, ◌-◌, ◌≤◌, ◌<◌, length, get_or, set}
use Rattle.std.proofs.Common.{ap, ◌∙◌, arith, length-set, get_or-set_same, get_or-set_other}
use Rattle.std.proofs.Math.Decide.{ℕ_discrete}
use Rattle.full_check.specs.Check.{unmarked}
use Rattle.lists.specs.Lists.{All, Pairs}
use Rattle.trees.specs.Values.{Entry, Unlike}

-- the marks after so many entries
abbrev pub marked : List ℕ → List Entry → List ℕ
marked marks [] = marks
marked marks (e ∷ es) = marked (set marks (e.1 - 1) 1) es

-- each finds its record unmarked
abbrev pub Fresh : List ℕ → List Entry → Type 0
Fresh marks [] = Unit {0}
Fresh marks (e ∷ es) = (get_or marks (e.1 - 1) 0 ≡ 0) × Fresh (set marks (e.1 - 1) 1) es

pub marked_append : (marks : List ℕ) (xs ys : List Entry) → marked marks (xs ++ ys) ≡ marked (marked marks xs) ys
marked_append marks [] ys = refl
marked_append marks (x ∷ xs) ys = marked_append (set marks (x.1 - 1) 1) xs ys

pub fresh_append : (marks : List ℕ) (xs ys : List Entry) → Fresh marks xs → Fresh (marked marks xs) ys → Fresh marks (xs ++ ys)
fresh_append marks [] ys f g = g
fresh_append marks (x ∷ xs) ys f g = (f.0, fresh_append (set marks (x.1 - 1) 1) xs ys f.1 g)

pub fresh_parts : (marks : List ℕ) (xs ys : List Entry) → Fresh marks (xs ++ ys) → Fresh marks xs × Fresh (marked marks xs) ys
fresh_parts marks [] ys f = (tt, f)
fresh_parts marks (x ∷ xs) ys f = let k = fresh_parts (set marks (x.1 - 1) 1) xs ys f.1 in ((f.0, k.0), k.1)

-- ---- the records' places are in the marks

abbrev pub Placed : ℕ → List Entry → Type 0
Placed long es = All (λ e. (1 ≤ e.1) × (e.1 ≤ long)) es

-- a marked place stays marked
still : (marks : List ℕ) (k at : ℕ) → k < length marks → get_or marks k 0 ≡ 1 → get_or (set marks at 1) k 0 ≡ 1
still marks k at l e = go (ℕ_discrete k at)
  where
    go : Dec (k ≡ at) → get_or (set marks at 1) k 0 ≡ 1
    go (yes z) = rw (← z) (get_or-set_same marks k 1 0 l)
    go (no d) = get_or-set_other marks at k 1 0 d ∙ e

-- who finds its record unmarked does not name a marked one
unlike_marked : (x : Entry) (marks : List ℕ) (es : List Entry) → 1 ≤ x.1 → x.1 ≤ length marks → get_or marks (x.1 - 1) 0 ≡ 1
    → Fresh marks es → All (Unlike x) es
unlike_marked x marks [] s l e f = tt
unlike_marked x marks (y ∷ ys) s l e f = (
  (λ z. omega (arith, e, f.0, ap (λ (j : ℕ). get_or marks (j - 1) 0) z)),
  unlike_marked x (set marks (y.1 - 1) 1) ys s (rw length-set l) (still marks (x.1 - 1) (y.1 - 1) (omega arith) e) f.1,
)

pub fresh_different : (marks : List ℕ) (es : List Entry) → Placed (length marks) es → Fresh marks es → Pairs Unlike es
fresh_different marks [] p f = tt
fresh_different marks (x ∷ xs) p f = (
  unlike_marked x (set marks (x.1 - 1) 1) xs p.0.0 (rw length-set p.0.1)
      (get_or-set_same marks (x.1 - 1) 1 0 (omega (arith, p.0))) f.1,
  fresh_different (set marks (x.1 - 1) 1) xs (rw length-set p.1) f.1,
)

-- ---- the other way round

abbrev Clear : List ℕ → List Entry → Type 0
Clear marks es = All (λ e. get_or marks (e.1 - 1) 0 ≡ 0) es

kept_clear : (x : Entry) (marks : List ℕ) (es : List Entry) → 1 ≤ x.1 → All (λ e. 1 ≤ e.1) es → All (Unlike x) es
    → Clear marks es → Clear (set marks (x.1 - 1) 1) es
kept_clear x marks [] s p u c = tt
kept_clear x marks (y ∷ ys) s p u c =
    let d : y.1 - 1 ≢ x.1 - 1 = λ z. u.0 (omega (arith, p.0)) in
    (get_or-set_other marks (x.1 - 1) (y.1 - 1) 1 0 d ∙ c.0, kept_clear x marks ys s p.1 u.1 c.1)

clear_fresh : (marks : List ℕ) (es : List Entry) → All (λ e. 1 ≤ e.1) es → Pairs Unlike es → Clear marks es → Fresh marks es
clear_fresh marks [] p u c = tt
clear_fresh marks (x ∷ xs) p u c =
    (c.0, clear_fresh (set marks (x.1 - 1) 1) xs p.1 u.1 (kept_clear x marks xs p.0 p.1 u.0 c.1))

unmarked_zero : (m k : ℕ) → get_or (unmarked m) k 0 ≡ 0
unmarked_zero zero k = refl
unmarked_zero (suc m) zero = refl
unmarked_zero (suc m) (suc k) = unmarked_zero m k

-- entries that name different records find each of them unmarked, where none was marked before
pub different_fresh : (m : ℕ) (es : List Entry) → All (λ e. 1 ≤ e.1) es → Pairs Unlike es → Fresh (unmarked m) es
different_fresh m es p u = clear_fresh (unmarked m) es p u (clear es p)
  where
    clear : (es : List Entry) → All (λ e. 1 ≤ e.1) es → Clear (unmarked m) es
    clear [] p = tt
    clear (y ∷ ys) p = (unmarked_zero m (y.1 - 1), clear ys p.1)
