-- A value record after a store. It is what its eight words are; a store that names record j changes that one and keeps every other.
use Rattle.std.specs.Prelude.{◌≡◌, List, ◌≢◌, ℕ, ◌+◌, ◌≤◌, ◌<◌, length, get_or}
use Rattle.std.proofs.Common.{sym, ap, ◌∙◌, inr, length-set, eq-eqb, ne_eqb}
use native.Mathlib.Omega.{arith}
use Rattle.std.proofs.Math.Decide.{ℕ_discrete}
use Rattle.words.specs.Wide.{wide_at, set_wide, wide_stored, set_wide_length}
use Rattle.node_allocator.specs.declared.Arena.TheVariants.{Nodes, Values}
use Rattle.node_allocator.specs.declared.Counts.{Counts}
use Rattle.node_allocator.specs.declared.Register.TheVariants as register
use Rattle.node_allocator.specs.Layout.{value_at, header_at, record_at, capacity_of}
use Rattle.node_allocator.specs.Steps.{get_register, add_image, remove_image}
use Rattle.arena_laws.specs.Places.{Inside, inside_is, Lies}
use Rattle.arena_laws.specs.Laws.{Outside, register_word}
use Rattle.arena_laws.specs.Taken.{add_others, add_link, remove_others, remove_left}
use Rattle.records.specs.declared.ValueRecord.{ValueRecord}
use Rattle.records.specs.Records.{record_from, value_record_of}
use Rattle.records.specs.Writes.{registers_set, value_set, set_value}
use Rattle.record_views.specs.Words.{Alike, wide_same, word_before, wide_before, registers_stored}
use Rattle.record_views.specs.Kept.{data_of, Keeps, Elsewhere, record_elsewhere}
use Rattle.record_views.specs.Nodes.{changed}

abbrev pub with_link : ℕ → ValueRecord → ValueRecord
with_link v r = record { register0 = v; register1 = r.register1; register2 = r.register2; register3 = r.register3; value = r.value }

-- ---- a value record is what its eight words are

-- register 0 differs
link_one : (vs ws : List ℕ) (k v : ℕ) → get_or vs k 0 ≡ v → Alike vs ws (k + 1) (k + 8) → record_from vs k ≡ with_link v (record_from ws k)
unfolding record_from
link_one vs ws k v e f =
    let one = f (k + 1) (omega arith) (omega arith) in
    let two = f (k + 2) (omega arith) (omega arith) in
    let three = f (k + 3) (omega arith) (omega arith) in
    let first = wide_same vs ws (k + 4) (λ j a b. f j (omega arith) (omega arith)) in
    let second = wide_same vs ws (k + 4 + 2) (λ j a b. f j (omega arith) (omega arith)) in
    simp (e, one, two, three, first, second)

pub record_same : (vs ws : List ℕ) (k : ℕ) → Alike vs ws k (k + 8) → record_from vs k ≡ record_from ws k
unfolding record_from
record_same vs ws k f = link_one vs ws k (get_or ws k 0) (f k (omega arith) (omega arith)) (λ j h l. f j (omega arith) l)

-- ---- the record that a store names

-- eight words that are stored from place k on are read back
record_stored : (ws : List ℕ) (k : ℕ) (r : ValueRecord) → k + 8 ≤ length ws → record_from (value_set ws k r) k ≡ r
unfolding record_from value_set registers_set
record_stored ws k r room =
    let us : List ℕ = registers_set ws k r.register0 r.register1 r.register2 r.register3 in
    let half : List ℕ = set_wide us (k + 4) r.value.first in
    let long : length us ≡ length ws = simp length-set in
    let half_long : length half ≡ length ws = set_wide_length us (k + 4) r.value.first ∙ long in
    let word : (j : ℕ) → j < k + 4 → get_or (value_set ws k r) j 0 ≡ get_or us j 0 =
    λ j l. word_before half (k + 6) r.value.second j (omega arith) ∙ word_before us (k + 4) r.value.first j (omega arith) in
    let four = registers_stored ws k r.register0 r.register1 r.register2 r.register3 (omega arith) in
    let place : k + 4 + 2 ≡ k + 6 = omega arith in
    let first : wide_at (value_set ws k r) (k + 4) ≡ r.value.first =
    wide_before half (k + 6) r.value.second (k + 4) (omega arith) ∙ wide_stored us (k + 4) r.value.first (omega arith) in
    let second : wide_at (value_set ws k r) (k + 4 + 2) ≡ r.value.second =
    ap (wide_at (value_set ws k r)) place ∙ wide_stored half (k + 6) r.value.second (omega arith) in
    let zero = word k (omega arith) ∙ four.register0 in
    let one = word (k + 1) (omega arith) ∙ four.register1 in
    let two = word (k + 2) (omega arith) ∙ four.register2 in
    let three = word (k + 3) (omega arith) ∙ four.register3 in
    λ ι. record { register0 = zero ι; register1 = one ι; register2 = two ι; register3 = three ι; value = record { first = first ι; second = second ι } }

module _ {m n : ℕ} (ws : List ℕ) (lies : Lies (Values n m) (length ws)) {j : ℕ} (named : Inside (Values n m) j) where
  -- a step that stores register 0 alone of it
  link_own : (vs : List ℕ) (v : ℕ) → get_register (Values n m) vs j register.Left ≡ v
      → ((k : ℕ) → Outside (Values n m) k → k ≢ record_at (Values n m) j → get_or vs k 0 ≡ get_or ws k 0) → value_record_of n vs j ≡ with_link v (value_record_of n ws j)
  unfolding record_at header_at
  link_own vs v e others =
      let place : value_at n j + 0 ≡ value_at n j = omega arith in
      link_one vs ws (value_at n j) v (rw place at (sym (register_word vs register.Left named) ∙ e))
      (λ k a b. others k (inr (omega (arith, named.low))) (λ q. omega arith))

  room : value_at n j + 8 ≤ length ws
  unfolding record_at capacity_of
  room = omega (arith, lies.room, named.high)

  pub value_own : (r : ValueRecord) → value_record_of n (set_value m n ws j r) j ≡ r
  unfolding set_value
  value_own r = rw (inside_is named) (record_stored ws (value_at n j) r room)

  pub value_removed_own : (c : Counts) → value_record_of n (remove_image (Values n m) ws j c) j ≡ with_link c.head (value_record_of n ws j)
  value_removed_own c = link_own (remove_image (Values n m) ws j c) c.head (remove_left (Values n m) ws j c named lies) (remove_others (Values n m) ws j c)

-- the record that is added names none
pub value_added_own : {m n : ℕ} (ws : List ℕ) → Lies (Values n m) (length ws) → (c : Counts) → Inside (Values n m) c.head
    → value_record_of n (add_image (Values n m) ws c) c.head ≡ with_link 0 (value_record_of n ws c.head)
value_added_own {m} {n} ws lies c named = link_own ws lies named (add_image (Values n m) ws c) 0 (add_link (Values n m) ws c lies named) (add_others (Values n m) ws c)

-- ---- every value record

-- a store that keeps all but record j and its arena's header
pub value_changed : {m n j : ℕ} {ws vs : List ℕ} (f : ValueRecord → ValueRecord) → Keeps (Elsewhere (Values n m) j) ws vs
    → (1 ≤ j → value_record_of n vs j ≡ f (value_record_of n ws j))
    → (y : ℕ) → 1 ≤ y → value_record_of n vs y ≡ changed j f y (value_record_of n ws y)
unfolding record_at data_of
value_changed {m} {n} {j} {ws} {vs} f kept own y low = go (ℕ_discrete y j)
  where
    go : Dec (y ≡ j) → value_record_of n vs y ≡ changed j f y (value_record_of n ws y)
    go (yes e) = rw (eq-eqb y j e, e) (own (omega arith))
    go (no d) = rw (ne_eqb y j d) (record_same vs ws (value_at n y) (λ k a b. kept.word k (record_elsewhere (Values n m) j y k low d a b)))

-- a store that keeps all but a node and its arena's header
pub value_left : {n i : ℕ} {ws vs : List ℕ} → Keeps (Elsewhere (Nodes n) i) ws vs → (y : ℕ) → 1 ≤ y → value_record_of n vs y ≡ value_record_of n ws y
unfolding record_at header_at data_of capacity_of
value_left {n} {i} {ws} {vs} kept y low =
    record_same vs ws (value_at n y) (λ k a b. kept.word k (record { outside = inr (omega arith); off = λ named. inr (omega (arith, named.low, named.high)) }))
