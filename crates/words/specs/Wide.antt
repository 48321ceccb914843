-- Two words as one 64-bit number, the low word first: rule I2. A number that was stored is
-- read back, and no word but its two changes.
use Rattle.std.specs.Prelude.{◌≡◌, List, ◌≢◌, ℕ, ◌+◌, ◌*◌, ◌/◌, ◌%◌, ◌<◌, ◌≤◌, length, get_or, set}
use Rattle.std.proofs.Common.{◌∙◌, arith, length-set, get_or-set_same, get_or-set_other}
use Rattle.std.proofs.Math.ListN.{get_or-eq_default}
use Rattle.std.proofs.Math.Seq.{set_out}

-- past the end it is 0, as a word is
unfoldable pub wide_at : List ℕ → ℕ → ℕ
wide_at ws k = get_or ws k 0 + 4294967296 * get_or ws (k + 1) 0

-- past the end nothing is stored, as of a word
unfoldable pub set_wide : List ℕ → ℕ → ℕ → List ℕ
set_wide ws k v = set (set ws k (v % 4294967296)) (k + 1) (v / 4294967296)

pub wide_past : (ws : List ℕ) (k : ℕ) → length ws ≤ k → wide_at ws k ≡ 0
unfolding wide_at
wide_past ws k h =
    omega (arith, get_or-eq_default ws 0 h, get_or-eq_default ws 0 {n = k + 1} (omega arith))

pub set_wide_past : (ws : List ℕ) (k v : ℕ) → length ws ≤ k → set_wide ws k v ≡ ws
unfolding set_wide
set_wide_past ws k v h =
    set_out (set ws k (v % 4294967296)) (k + 1) (v / 4294967296) (rw length-set (omega arith)) ∙ set_out ws k (v % 4294967296) h

pub set_wide_length : (ws : List ℕ) (k v : ℕ) → length (set_wide ws k v) ≡ length ws
unfolding set_wide
set_wide_length ws k v = simp length-set

-- every other word is as it was
pub set_wide_others : (ws : List ℕ) (k v j : ℕ) → j ≢ k → j ≢ k + 1 → get_or (set_wide ws k v) j 0 ≡ get_or ws j 0
unfolding set_wide
set_wide_others ws k v j n n' =
    get_or-set_other (set ws k (v % 4294967296)) (k + 1) j (v / 4294967296) 0 n'
    ∙ get_or-set_other ws k j (v % 4294967296) 0 n

-- the number that was stored is read back
pub wide_stored : (ws : List ℕ) (k v : ℕ) → k + 2 ≤ length ws → wide_at (set_wide ws k v) k ≡ v
unfolding wide_at set_wide
wide_stored ws k v h =
    let apart : k ≢ k + 1 = λ e. omega arith in
    let high : k + 1 < length (set ws k (v % 4294967296)) = rw length-set (omega arith) in
    rw (
      get_or-set_other (set ws k (v % 4294967296)) (k + 1) k (v / 4294967296) 0 apart,
      get_or-set_same ws k (v % 4294967296) 0 (omega arith),
      get_or-set_same (set ws k (v % 4294967296)) (k + 1) (v / 4294967296) 0 high,
    )
    (omega arith)
