-- Where a key goes at a prefix, as a descent goes that compares them: rule S2. At the first p bits of another key it goes
-- to the side of its own bit p, or parts from that key before.
use Rattle.std.proofs.Math.Path.{◌≡◌, refl}
use Rattle.std.proofs.Common.{arith}
use Rattle.std.specs.Prelude.{Bool, ℕ, ltb}
use Rattle.std.proofs.Math.Bool.{true, false, cond}
use Rattle.keys.specs.declared.Way.{Way}
use Rattle.keys.specs.declared.Way.TheVariants.{Left, Right, Parts}
use Rattle.keys.specs.Common.{common, bit_of}

-- to the side of a bit
abbrev pub way_to : Bool → Way
way_to one = cond one Right Left

unfoldable pub way_of : ℕ → ℕ → ℕ → Way
way_of a b p = cond (ltb (common a b) p) Parts (way_to (bit_of a p))

-- ---- back from the way to what decides it

module _ (a b p : ℕ) where
  pub way_parts : way_of a b p ≡ Parts → ltb (common a b) p ≡ true
  unfolding way_of
  way_parts e = go (ltb (common a b) p) (bit_of a p) e
    where
      go : (parts one : Bool) → cond parts Parts (way_to one) ≡ Parts → parts ≡ true
      go true one q = refl
      go false true q = let z : ◌≡◌ {A = ℕ} 0 1 = cc in absurd (omega arith)
      go false false q = let z : ◌≡◌ {A = ℕ} 0 1 = cc in absurd (omega arith)

  pub way_side : (one : Bool) → way_of a b p ≡ way_to one → (ltb (common a b) p ≡ false) × (bit_of a p ≡ one)
  unfolding way_of
  way_side one e = go (ltb (common a b) p) (bit_of a p) one e
    where
      go : (parts own one : Bool) → cond parts Parts (way_to own) ≡ way_to one → (parts ≡ false) × (own ≡ one)
      go false true true q = (refl, refl)
      go false false false q = (refl, refl)
      go false true false q = let z : ◌≡◌ {A = ℕ} 0 1 = cc in absurd (omega arith)
      go false false true q = let z : ◌≡◌ {A = ℕ} 0 1 = cc in absurd (omega arith)
      go true own true q = let z : ◌≡◌ {A = ℕ} 0 1 = cc in absurd (omega arith)
      go true own false q = let z : ◌≡◌ {A = ℕ} 0 1 = cc in absurd (omega arith)
