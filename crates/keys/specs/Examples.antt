-- The counts that the bench examples of the rules B work out: "A is 2^127, B is 0, C is 1", and "Leading equal bits: A,B 0; high word 1 against 0, 63;
-- low word 2^63 against 0, 64; B,C 127".
use Rattle.std.specs.Prelude.{◌≡◌, refl, ℕ, ◌^◌}
use Rattle.keys.specs.declared.Key.{Key}
use Rattle.keys.specs.declared.Way.TheVariants.{Left, Right, Parts}
use Rattle.keys.specs.Common.{common, common_of, bit_of}
use Rattle.keys.specs.Ways.{way_of}
use Rattle.keys.specs.Number.{number_of}

abbrev key : ℕ → ℕ → Key
key high low = record { high = high; low = low }

abbrev A : Key
A = key (2 ^ 63) 0

abbrev B : Key
B = key 0 0

abbrev C : Key
C = key 0 1

pub worked_counts :
    (number_of A ≡ 2 ^ 127)
    × (number_of B ≡ 0)
    × (number_of C ≡ 1)
    × (common (number_of A) (number_of B) ≡ 0)
    × (common (number_of (key 1 0)) (number_of B) ≡ 63)
    × (common (number_of (key 0 (2 ^ 63))) (number_of B) ≡ 64)
    × (common (number_of B) (number_of C) ≡ 127)
unfolding number_of common common_of
worked_counts = (refl, refl, refl, refl, refl, refl, refl)

-- The ways of these keys: A parts from B at bit 0, B and C share 127 bits and go apart there, and no bit is left of a whole key.
pub worked_ways :
    (way_of (number_of A) (number_of B) 0 ≡ Right)
    × (way_of (number_of B) (number_of A) 0 ≡ Left)
    × (way_of (number_of A) (number_of B) 1 ≡ Parts)
    × (way_of (number_of C) (number_of B) 127 ≡ Right)
    × (way_of (number_of C) (number_of B) 128 ≡ Parts)
    × (way_of (number_of C) (number_of C) 128 ≡ Left)
unfolding number_of common common_of bit_of way_of
worked_ways = (refl, refl, refl, refl, refl, refl)
