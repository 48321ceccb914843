-- Keys as trees use them: the number of leading bits that two keys share, a key's bit at a place, and whether two keys are one. That a key "shares the first p
-- bits" of another (the rules T) is `p ≤ shared a b`: it holds for every smaller p too.
use Rattle.std.specs.Prelude.{◌≡◌, refl, ◌≢◌, ◌⊎◌, Bool, true, false, not, cond, ℕ, ◌≤◌, ◌<◌, min, leb}
use Rattle.std.proofs.Common.{sym, ◌∙◌, inl, inr, true≢false, lt_of_not-le, arith, leb-true, leb-false, eqb-true}
use Rattle.std.proofs.lemmas.Bool.{eqb-false}
use Rattle.keys.specs.declared.Key.{Key}
use Rattle.keys.specs.Number.{number_of, Fits, number_bounded, number_equal}
use Rattle.keys.specs.Common.{common, bit_of}
use Rattle.keys.specs.Prefixes.{common_at_most, common_itself, common_turned, common_all, common_through}
use Rattle.keys.specs.Bits.{bits_agree, bits_apart, bits_differ, common_more}
use Rattle.keys.specs.Order.{order_of_bits}
use Rattle.lists.specs.Entries.{same}

abbrev pub shared : Key → Key → ℕ
shared a b = common (number_of a) (number_of b)

abbrev pub bit : Key → ℕ → Bool
bit a p = bit_of (number_of a) p

-- ---- tests, each with its fact and its equation

abbrev pub Bit : Bool → Type 0
Bit b = (b ≡ true) ⊎ (b ≡ false)

abbrev pub Cmp : ℕ → ℕ → Type 0
Cmp a b = ((a ≤ b) × (leb a b ≡ true)) ⊎ ((b < a) × (leb a b ≡ false))

abbrev pub Same : Key → Key → Type 0
Same a b = ((number_of a ≡ number_of b) × (same a b ≡ true)) ⊎ ((shared a b < 128) × (same a b ≡ false))

pub testb : (b : Bool) → Bit b
testb true = inl refl
testb false = inr refl

pub test≤ : (a b : ℕ) → Cmp a b
test≤ a b = go (testb (leb a b))
  where
    go : Bit (leb a b) → Cmp a b
    go (inl e) = inl (leb-true a b e, e)
    go (inr e) = inr (leb-false a b e, e)

pub test_same : (a b : Key) → Same a b
test_same a b = go (testb (same a b))
  where
    go : Bit (same a b) → Same a b
    go (inl e) = inl (eqb-true (number_of a) (number_of b) e, e)
    go (inr e) = inr (lt_of_not-le (λ h. eqb-false (number_of a) (number_of b) e (common_all h)), e)

pub unequal : (b : Bool) → b ≡ true → b ≡ false → ⊥
unequal b p q = true≢false (sym p ∙ q)

pub is_not : (a b : Bool) → a ≢ b → b ≡ not a
is_not true true h = absurd (h refl)
is_not true false h = refl
is_not false true h = refl
is_not false false h = absurd (h refl)

-- what holds of both holds of the one that a test chooses
pub chosen : {A : Type 0} (P : A → Type 0) (b : Bool) (x y : A) → P x → P y → P (cond b x y)
chosen P true x y h g = h
chosen P false x y h g = g

pub through : {A B : Type 0} (f : A → B) (b : Bool) (x y : A) → f (cond b x y) ≡ cond b (f x) (f y)
through f true x y = refl
through f false x y = refl

-- ---- laws

pub at_most : (a b : Key) → shared a b ≤ 128
at_most a b = common_at_most (number_of a) (number_of b)

pub itself : (a : Key) → shared a a ≡ 128
itself a = common_itself (number_of a)

pub equal : {a b : Key} → Fits a → Fits b → 128 ≤ shared a b → a ≡ b
equal f g h = number_equal f g (common_all h)

pub turn : (a b : Key) → shared a b ≡ shared b a
turn a b = common_turned (number_of a) (number_of b)

pub ultra : (a b c : Key) → min (shared a b) (shared b c) ≤ shared a c
ultra a b c = common_through (number_of a) (number_of b) (number_of c)

pub agree : (a b : Key) {p : ℕ} → p < shared a b → bit a p ≡ bit b p
agree a b h = bits_agree (number_of a) (number_of b) h

pub differ : {a b : Key} → Fits a → Fits b → shared a b < 128 → bit a (shared a b) ≢ bit b (shared a b)
differ f g h = bits_differ (number_bounded f) (number_bounded g) h

-- Two keys that part at p are ordered by their bit at p.
pub order : {a : Key} (b : Key) {p : ℕ} → Fits a → p ≤ shared a b → bit a p ≡ false → bit b p ≡ true → number_of a < number_of b
order b f h x y = order_of_bits (number_bounded f) h x y

-- Bits that differ at p bound the shared length.
pub apart : (a b : Key) {p : ℕ} → bit a p ≡ false → bit b p ≡ true → shared a b ≤ p
apart a b x y = bits_apart (number_of a) (number_of b) x y

-- p shared bits and the same bit at p are p + 1 shared bits.
pub deeper : {a b : Key} {p : ℕ} → Fits a → Fits b → p < 128 → p ≤ shared a b → bit a p ≡ bit b p → p < shared a b
deeper f g l h e = omega (arith, common_more (number_bounded f) (number_bounded g) l h e)
