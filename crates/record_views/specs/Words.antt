-- Words after a store: a number of two words is what they are, a store behind a word leaves it, and four registers that are stored are read back.
use Rattle.std.specs.Prelude.{◌≡◌, List, ◌≢◌, ℕ, ◌+◌, ◌≤◌, ◌<◌, length, get_or, set}
use Rattle.std.proofs.Common.{arith, length-set, get_or-set_same, get_or-set_other}
use Rattle.words.specs.Wide.{wide_at, set_wide, set_wide_others}
use Rattle.records.specs.Writes.{registers_set}

-- the words from one place on, before another, are alike
abbrev pub Alike : List ℕ → List ℕ → ℕ → ℕ → Type 0
Alike vs ws from to = (k : ℕ) → from ≤ k → k < to → get_or vs k 0 ≡ get_or ws k 0

pub wide_same : (vs ws : List ℕ) (k : ℕ) → Alike vs ws k (k + 2) → wide_at vs k ≡ wide_at ws k
unfolding wide_at
wide_same vs ws k f = rw (f k (omega arith) (omega arith), f (k + 1) (omega arith) (omega arith))

-- a number that is stored behind a word, or behind another number, leaves it
pub word_before : (ws : List ℕ) (k v j : ℕ) → j < k → get_or (set_wide ws k v) j 0 ≡ get_or ws j 0
word_before ws k v j h = set_wide_others ws k v j (λ e. omega arith) (λ e. omega arith)

pub wide_before : (ws : List ℕ) (k v j : ℕ) → j + 1 < k → wide_at (set_wide ws k v) j ≡ wide_at ws j
wide_before ws k v j h = wide_same (set_wide ws k v) ws j (λ i a b. word_before ws k v i (omega arith))

-- four registers from place k on
pub record Registers (vs : List ℕ) (k a b c d : ℕ) : Type 0 where
  pub register0 : get_or vs k 0 ≡ a
  pub register1 : get_or vs (k + 1) 0 ≡ b
  pub register2 : get_or vs (k + 2) 0 ≡ c
  pub register3 : get_or vs (k + 3) 0 ≡ d

within_set : (ws : List ℕ) (p v j : ℕ) → j < length ws → j < length (set ws p v)
within_set ws p v j h = rw length-set h

pub registers_stored : (ws : List ℕ) (k a b c d : ℕ) → k + 4 ≤ length ws → Registers (registers_set ws k a b c d) k a b c d
unfolding registers_set
registers_stored ws k a b c d room =
    let first : k < length ws = omega arith in
    let second : k + 1 < length ws = omega arith in
    let third : k + 2 < length ws = omega arith in
    let fourth : k + 3 < length ws = omega arith in
    let k≢1 : k ≢ k + 1 = λ e. omega arith in
    let k≢2 : k ≢ k + 2 = λ e. omega arith in
    let k≢3 : k ≢ k + 3 = λ e. omega arith in
    let apart : k + 1 ≢ k + 2 = λ e. omega arith in
    let apart' : k + 1 ≢ k + 3 = λ e. omega arith in
    let apart'' : k + 2 ≢ k + 3 = λ e. omega arith in
    record {
      register0 = simp (get_or-set_same, get_or-set_other);
      register1 = simp (get_or-set_same, get_or-set_other, within_set);
      register2 = simp (get_or-set_same, get_or-set_other, within_set);
      register3 = simp (get_or-set_same, within_set);
    }
