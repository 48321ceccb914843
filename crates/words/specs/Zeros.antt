-- A run of words that are all 0: never-used records, which are zeros (rule T13), and blank memory. And a buffer whose words become 0 one by one.
use Rattle.std.specs.Prelude.{◌≡◌, refl, List, [], ◌∷◌, ◌++◌, ◌↔◌, ◌≢◌, Bool, true, false, ◌&&◌, ℕ, zero, suc, ◌+◌, ◌-◌, ◌*◌, ◌<◌, ◌≤◌, length, get_or, take, set, replicate, eqb, min}
use Rattle.std.proofs.Common.{sym, ap, ◌∙◌, ⊎_elim, arith, eq-or-lt_of_le, add-one, take-suc-set, take_all, eq-eqb, ne_eqb, eqb-true}
use Rattle.std.proofs.Math.Decide.{ℕ_discrete}
use Rattle.std.proofs.lemmas.List.{replicate-append-replicate}
use Rattle.std.proofs.Math.ListN.{get_or-eq_default}
use Rattle.words.specs.Tests.{and_l, and_r}
use Rattle.words.specs.Wide.{wide_at}

-- the `many` words from place k on; those past the end are 0
unfoldable pub zeros_at : List ℕ → ℕ → ℕ → Bool
zeros_at ws k zero = true
zeros_at ws k (suc many) = eqb (get_or ws k 0) 0 && zeros_at ws (k + 1) many

pub zeros_past : (ws : List ℕ) (k many : ℕ) → length ws ≤ k → zeros_at ws k many ≡ true
unfolding zeros_at
zeros_past ws k zero h = refl
zeros_past ws k (suc many) h =
    rw (eq-eqb (get_or ws k 0) 0 (get_or-eq_default ws 0 h)) (zeros_past ws (k + 1) many (omega arith))

-- one word more: a run goes on behind a 0 and ends at anything else
pub zeros_end : (ws : List ℕ) (k many : ℕ) → many ≤ 0 → zeros_at ws k many ≡ true
unfolding zeros_at
zeros_end ws k zero h = refl
zeros_end ws k (suc many) h = absurd (omega arith)

pub zeros_more : (ws : List ℕ) (k many : ℕ) → 0 < many → get_or ws k 0 ≡ 0 → zeros_at ws k many ≡ zeros_at ws (k + 1) (many - 1)
unfolding zeros_at
zeros_more ws k zero h e = absurd (omega arith)
zeros_more ws k (suc many) h e =
    let less : suc many - 1 ≡ many = omega arith in
    rw (eq-eqb (get_or ws k 0) 0 e, less)

pub zeros_stop : (ws : List ℕ) (k many : ℕ) → 0 < many → get_or ws k 0 ≢ 0 → zeros_at ws k many ≡ false
unfolding zeros_at
zeros_stop ws k zero h n = absurd (omega arith)
zeros_stop ws k (suc many) h n = rw (ne_eqb (get_or ws k 0) 0 n)

-- a run that ends at its place, or begins past the end, is 0
pub zeros_over : (ws : List ℕ) (k many : ℕ) → min (k + many) (length ws) ≤ k → zeros_at ws k many ≡ true
zeros_over ws k many h = go (ℕ_discrete many 0)
  where
    go : Dec (many ≡ 0) → zeros_at ws k many ≡ true
    go (yes e) = zeros_end ws k many (omega arith)
    go (no n) = zeros_past ws k many (omega (arith, n))

-- ---- what the test means: each word of the run is 0

abbrev pub Zeros : List ℕ → ℕ → ℕ → Type 0
Zeros ws k many = (j : ℕ) → k ≤ j → j < k + many → get_or ws j 0 ≡ 0

each : (ws : List ℕ) (k many : ℕ) → zeros_at ws k many ≡ true → Zeros ws k many
unfolding zeros_at
each ws k zero e j h l = absurd (omega arith)
each ws k (suc many) e j h l =
    ⊎_elim
    (λ (q : k ≡ j). rw (sym q) (eqb-true (get_or ws k 0) 0 (and_l _ (zeros_at ws (k + 1) many) e)))
    (λ (q : k < j). each ws (k + 1) many (and_r (eqb (get_or ws k 0) 0) _ e) j (omega arith) (omega arith))
    (eq-or-lt_of_le h)

all : (ws : List ℕ) (k many : ℕ) → Zeros ws k many → zeros_at ws k many ≡ true
unfolding zeros_at
all ws k zero f = refl
all ws k (suc many) f =
    rw (eq-eqb (get_or ws k 0) 0 (f k (omega arith) (omega arith)))
    (all ws (k + 1) many (λ j h l. f j (omega arith) (omega arith)))

pub zeros_exact : (ws : List ℕ) (k many : ℕ) → (zeros_at ws k many ≡ true) ↔ Zeros ws k many
zeros_exact ws k many = (each ws k many, all ws k many)

-- ---- four words are two 64-bit numbers, and a record is four words after four

pair_zero : (a b : ℕ) → eqb (a + 4294967296 * b) 0 ≡ eqb a 0 && eqb b 0
pair_zero a b = go (ℕ_discrete a 0) (ℕ_discrete b 0)
  where
    go : Dec (a ≡ 0) → Dec (b ≡ 0) → eqb (a + 4294967296 * b) 0 ≡ eqb a 0 && eqb b 0
    go (yes x) (yes y) = rw (x, y)
    go (no x) y = rw (ne_eqb a 0 x) (ne_eqb (a + 4294967296 * b) 0 (λ e. x (omega arith)))
    go (yes x) (no y) = rw (eq-eqb a 0 x, ne_eqb b 0 y) (ne_eqb (a + 4294967296 * b) 0 (λ e. y (omega arith)))

pub four_zeros : (ws : List ℕ) (k : ℕ) → zeros_at ws k 4 ≡ eqb (wide_at ws k) 0 && eqb (wide_at ws (k + 2)) 0
unfolding zeros_at wide_at
four_zeros ws k =
    let two : k + 1 + 1 ≡ k + 2 = omega arith in
    let three : k + 1 + 1 + 1 ≡ k + 2 + 1 = omega arith in
    rw (pair_zero (get_or ws k 0) (get_or ws (k + 1) 0), pair_zero (get_or ws (k + 2) 0) (get_or ws (k + 2 + 1) 0))
    (rw (three, two) (and_four (eqb (get_or ws k 0) 0) (eqb (get_or ws (k + 1) 0) 0) (eqb (get_or ws (k + 2) 0) 0) (eqb (get_or ws (k + 2 + 1) 0) 0)))
  where
    and_four : (a b c d : Bool) → a && (b && (c && (d && true))) ≡ (a && b) && (c && d)
    and_four true true true true = refl
    and_four true true true false = refl
    and_four true true false d = refl
    and_four true false c d = refl
    and_four false b c d = refl

pub zeros_append : (ws : List ℕ) (k a b : ℕ) → zeros_at ws k (a + b) ≡ zeros_at ws k a && zeros_at ws (k + a) b
unfolding zeros_at
zeros_append ws k zero b = let same : k + 0 ≡ k = omega arith in let more : 0 + b ≡ b = omega arith in rw (same, more)
zeros_append ws k (suc a) b =
    let more : suc a + b ≡ suc (a + b) = omega arith in
    let place : k + suc a ≡ k + 1 + a = omega arith in
    rw (more, place) (go (eqb (get_or ws k 0) 0) (zeros_append ws (k + 1) a b))
  where
    go : (c : Bool) → zeros_at ws (k + 1) (a + b) ≡ zeros_at ws (k + 1) a && zeros_at ws (k + 1 + a) b
        → c && zeros_at ws (k + 1) (a + b) ≡ (c && zeros_at ws (k + 1) a) && zeros_at ws (k + 1 + a) b
    go true e = e
    go false e = refl

-- ---- cleared word by word

pub clear_more : (ws : List ℕ) (i : ℕ) → i < length ws → take i ws ≡ replicate i 0 → take (i + 1) (set ws i 0) ≡ replicate (i + 1) 0
clear_more ws i l e =
    let one : ◌≡◌ {A = List ℕ} (replicate i 0 ++ (0 ∷ [])) (replicate (i + 1) 0) = replicate-append-replicate i 1 0 in
    rw (← one, add-one, take-suc-set ws i 0 l, e)

pub clear_end : (ws : List ℕ) (i many : ℕ) → length ws ≡ i → i ≡ many → take i ws ≡ replicate i 0 → ws ≡ replicate many 0
clear_end ws i many all_done same e = sym (take_all i ws (omega arith)) ∙ e ∙ ap (λ k. replicate k 0) same
