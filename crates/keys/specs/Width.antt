-- "The number of leading equal bits" (the rules S) at any width: it is the largest number of leading bits in which two numbers
-- agree.
use Rattle.std.specs.Prelude.{◌≡◌, refl, ◌≢◌, ◌↔◌, ℕ, zero, suc, ◌+◌, ◌/◌, ◌^◌, ◌≤◌, ◌<◌}
use Rattle.std.proofs.Common.{sym, ap, ◌∙◌, le_refl, add-suc, add-zero, div-one, one-add, arith, shr-shr, eq-eqb, ne_eqb}
use Rattle.std.proofs.Math.Decide.{ℕ_discrete}
use Rattle.keys.specs.Common.{common_of}

-- ---- the definition's two cases

pub count_equal : (width : ℕ) {a b : ℕ} → a ≡ b → common_of width a b ≡ width
unfolding common_of
count_equal zero e = refl
count_equal (suc width) {a} {b} e = rw (eq-eqb a b e, common_of)

pub count_cut : (width : ℕ) {a b : ℕ} → a ≢ b → common_of (suc width) a b ≡ common_of width (a / 2) (b / 2)
unfolding common_of
count_cut width {a} {b} n = rw (ne_eqb a b n, common_of)

-- ---- its bound, and the two numbers turned round

pub count_at_most : (width a b : ℕ) → common_of width a b ≤ width
unfolding common_of
count_at_most zero a b = le_refl zero
count_at_most (suc width) a b = go (ℕ_discrete a b) (count_at_most width (a / 2) (b / 2))
  where
    go : Dec (a ≡ b) → common_of width (a / 2) (b / 2) ≤ width → common_of (suc width) a b ≤ suc width
    go (yes e) rest = rw (count_equal (suc width) e) (le_refl (suc width))
    go (no n) rest = rw (count_cut width n) (omega arith)

pub count_turned : (width a b : ℕ) → common_of width a b ≡ common_of width b a
unfolding common_of
count_turned zero a b = refl
count_turned (suc width) a b = go (ℕ_discrete a b) (count_turned width (a / 2) (b / 2))
  where
    go : Dec (a ≡ b) → common_of width (a / 2) (b / 2) ≡ common_of width (b / 2) (a / 2) → common_of (suc width) a b ≡ common_of (suc width) b a
    go (yes e) rest = count_equal (suc width) e ∙ sym (count_equal (suc width) (sym e))
    go (no n) rest = count_cut width n ∙ rest ∙ sym (count_cut width (λ e. n (sym e)))

-- ---- what it counts. The width is p + d: cutting off d bits leaves the first p

every_bit : (p a b : ℕ) → 0 < p → p ≤ common_of p a b → a ≡ b
every_bit zero a b l h = omega arith
every_bit (suc p) a b l h = go (ℕ_discrete a b)
  where
    go : Dec (a ≡ b) → a ≡ b
    go (yes e) = e
    go (no n) = omega (arith, rw (count_cut p n) at h, count_at_most p (a / 2) (b / 2))

cut_off : (d a : ℕ) → a / 2 / 2 ^ d ≡ a / 2 ^ suc d
cut_off d a = shr-shr a 1 d ∙ ap (λ (n : ℕ). a / 2 ^ n) (one-add d)

agree_counted : (p d a b : ℕ) → 0 < p → p ≤ common_of (p + d) a b → a / 2 ^ d ≡ b / 2 ^ d
agree_counted p zero a b l h = ap (λ (n : ℕ). n / 1) (every_bit p a b l (rw add-zero at h))
agree_counted p (suc d) a b l h = go (ℕ_discrete a b) (agree_counted p d (a / 2) (b / 2) l)
  where
    go : Dec (a ≡ b) → (p ≤ common_of (p + d) (a / 2) (b / 2) → a / 2 / 2 ^ d ≡ b / 2 / 2 ^ d) → a / 2 ^ suc d ≡ b / 2 ^ suc d
    go (yes e) rest = ap (λ (n : ℕ). n / 2 ^ suc d) e
    go (no n) rest =
        let h' : p ≤ common_of (suc (p + d)) a b = rw add-suc at h in
        sym (cut_off d a) ∙ rest (rw (count_cut (p + d) n) at h') ∙ cut_off d b

counted_agree : (p d a b : ℕ) → a / 2 ^ d ≡ b / 2 ^ d → p ≤ common_of (p + d) a b
counted_agree p zero a b e = rw (add-zero, count_equal p (sym (div-one a) ∙ e ∙ div-one b)) (le_refl p)
counted_agree p (suc d) a b e = go (ℕ_discrete a b) (counted_agree p d (a / 2) (b / 2) (cut_off d a ∙ e ∙ sym (cut_off d b)))
  where
    go : Dec (a ≡ b) → p ≤ common_of (p + d) (a / 2) (b / 2) → p ≤ common_of (p + suc d) a b
    go (yes e) rest = rw (count_equal (p + suc d) e) (omega arith)
    go (no n) rest = rw (add-suc, count_cut (p + d) n) rest

-- At least p leading bits are counted exactly if the first p agree.
pub count_exactly : (p d a b : ℕ) → 0 < p → (p ≤ common_of (p + d) a b) ↔ (a / 2 ^ d ≡ b / 2 ^ d)
count_exactly p d a b l = (agree_counted p d a b l, counted_agree p d a b)
