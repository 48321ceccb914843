-- What a store leaves, word by word: every word that is no data of the record it names, and, where it is a step of an arena, none of that arena's header.
-- A node's padding is none of its data, so that every store keeps it.
use Rattle.std.specs.Prelude.{◌≡◌, refl, List, ◌≢◌, ◌⊎◌, Bool, true, false, cond, ℕ, ◌+◌, ◌≤◌, ◌<◌, length, get_or, set}
use Rattle.std.proofs.Common.{◌∙◌, inl, inr, arith, lt_of_not-le, length-set}
use Rattle.std.proofs.Math.Decide.{dec_le}
use Rattle.std.proofs.Math.Seq.{get_or-set_other}
use Rattle.words.specs.Tests.{either_way}
use Rattle.words.specs.Wide.{set_wide_length, set_wide_others}
use Rattle.node_allocator.specs.declared.Arena.{Arena}
use Rattle.node_allocator.specs.declared.Arena.TheVariants.{Nodes, Values}
use Rattle.node_allocator.specs.declared.Counts.{Counts}
use Rattle.node_allocator.specs.declared.Register.{Register}
use Rattle.node_allocator.specs.Layout.{node_at, value_at, record_at, width_of, register_of, inside}
use Rattle.node_allocator.specs.Steps.{set_counts, initialized, set_register, add_image, remove_image}
use Rattle.arena_laws.specs.Places.{Inside, is_inside, register_small, past_header, record_order}
use Rattle.arena_laws.specs.Laws.{Outside, counts_length, counts_others}
use Rattle.records.specs.declared.Node.{Node}
use Rattle.records.specs.declared.ValueRecord.{ValueRecord}
use Rattle.records.specs.Writes.{registers_set, key_set, node_set, set_node, value_set, set_value}

-- how many words of a record are data
unfoldable pub data_of : Arena → ℕ
data_of (Nodes n) = 10
data_of (Values n m) = 8

-- word k stands before the data of record i, or behind it
abbrev pub Beside : Arena → ℕ → ℕ → Type 0
Beside a i k = (k < record_at a i) ⊎ (record_at a i + data_of a ≤ k)

-- word k is no data of record i; an index that names no record has none
abbrev pub Off : Arena → ℕ → ℕ → Type 0
Off a i k = Inside a i → Beside a i k

-- every word of which P holds is what it was, and there are as many
pub record Keeps (P : ℕ → Type 0) (before after : List ℕ) : Type 0 where
  pub word : (k : ℕ) → P k → get_or after k 0 ≡ get_or before k 0
  pub as_many : length after ≡ length before

-- no word of which P holds is data of record i
pub record Spares (P : ℕ → Type 0) (a : Arena) (i : ℕ) : Type 0 where
  pub off : (k : ℕ) → P k → Off a i k

-- and none is of the arena's header
pub record Clears (P : ℕ → Type 0) (a : Arena) : Type 0 where
  pub outside : (k : ℕ) → P k → Outside a k

pub unchanged : {P : ℕ → Type 0} {ws : List ℕ} → Keeps P ws ws
unchanged = record { word = λ k p. refl; as_many = refl }

pub keeps_then : {P : ℕ → Type 0} {us ws vs : List ℕ} → Keeps P us ws → Keeps P ws vs → Keeps P us vs
keeps_then s t = record { word = λ k p. t.word k p ∙ s.word k p; as_many = t.as_many ∙ s.as_many }

-- fewer words are kept
pub keeps_fewer : {P Q : ℕ → Type 0} {ws vs : List ℕ} → ((k : ℕ) → Q k → P k) → Keeps P ws vs → Keeps Q ws vs
keeps_fewer f t = record { word = λ k q. t.word k (f k q); as_many = t.as_many }

beside : (a : Arena) (i k r : ℕ) → Beside a i k → r < data_of a → k ≢ record_at a i + r
beside a i k r (inl l) s e = omega arith
beside a i k r (inr l) s e = omega arith

-- the registers are data
registers_data : (a : Arena) → 4 ≤ data_of a
unfolding data_of
registers_data (Nodes n) = omega arith
registers_data (Values n m) = omega arith

data_within : (a : Arena) → data_of a ≤ width_of a
unfolding data_of width_of
data_within (Nodes n) = omega arith
data_within (Values n m) = omega arith

-- a word that a step of the arena at record i leaves: none of its header, and no data of the record
pub record Elsewhere (a : Arena) (i k : ℕ) : Type 0 where
  pub outside : Outside a k
  pub off : Off a i k

pub elsewhere_spares : {a : Arena} {i : ℕ} → Spares (Elsewhere a i) a i
elsewhere_spares = record { off = λ k p. p.off }

pub elsewhere_clears : {a : Arena} {i : ℕ} → Clears (Elsewhere a i) a
elsewhere_clears = record { outside = λ k p. p.outside }

-- the data of another record of the arena
pub record_elsewhere : (a : Arena) (i y k : ℕ) → 1 ≤ y → y ≢ i → record_at a y ≤ k → k < record_at a y + data_of a → Elsewhere a i k
record_elsewhere a i y k low d l h =
    record { outside = inr (omega (arith, past_header a y low)); off = λ named. part named (dec_le y i) }
  where
    part : Inside a i → Dec (y ≤ i) → Beside a i k
    part named (yes e) = inl (omega (arith, record_order a y i low (omega arith), data_within a))
    part named (no e) =
        let less : i < y = lt_of_not-le e in
        inr (omega (arith, record_order a i y named.low less, data_within a))

-- ---- whole records

-- word j stands before place k, or at least `many` words behind it
abbrev Around : ℕ → ℕ → ℕ → Type 0
Around k many j = (j < k) ⊎ (k + many ≤ j)

around : {k many j : ℕ} (r : ℕ) → Around k many j → r < many → j ≢ k + r
around r (inl l) s e = omega arith
around r (inr l) s e = omega arith

module _ (ws : List ℕ) (k : ℕ) where
  registers_others : (a b c d j many : ℕ) → 4 ≤ many → Around k many j → get_or (registers_set ws k a b c d) j 0 ≡ get_or ws j 0
  unfolding registers_set
  registers_others a b c d j many l o =
      let zero : j ≢ k = λ e. around 0 o (omega arith) (omega arith) in
      let one : j ≢ k + 1 = around 1 o (omega arith) in
      let two : j ≢ k + 2 = around 2 o (omega arith) in
      let three : j ≢ k + 3 = around 3 o (omega arith) in
      simp (get_or-set_other, zero, one, two, three)

  node_words : (x : Node) → length (node_set ws k x) ≡ length ws
  unfolding node_set key_set registers_set
  node_words x = simp (set_wide_length, length-set)

  value_words : (r : ValueRecord) → length (value_set ws k r) ≡ length ws
  unfolding value_set registers_set
  value_words r = simp (set_wide_length, length-set)

  node_others : (x : Node) (j : ℕ) → Around k 10 j → get_or (node_set ws k x) j 0 ≡ get_or ws j 0
  unfolding node_set key_set
  node_others x j o =
      let four : j ≢ k + 4 = around 4 o (omega arith) in
      let five : j ≢ k + 4 + 1 = λ e. around 5 o (omega arith) (omega arith) in
      let six : j ≢ k + 4 + 2 = λ e. around 6 o (omega arith) (omega arith) in
      let seven : j ≢ k + 4 + 2 + 1 = λ e. around 7 o (omega arith) (omega arith) in
      let eight : j ≢ k + 8 = around 8 o (omega arith) in
      let nine : j ≢ k + 8 + 1 = λ e. around 9 o (omega arith) (omega arith) in
      simp (set_wide_others, four, five, six, seven, eight, nine) (registers_others _ _ _ _ j 10 (omega arith) o)

  value_others : (r : ValueRecord) (j : ℕ) → Around k 8 j → get_or (value_set ws k r) j 0 ≡ get_or ws j 0
  unfolding value_set
  value_others r j o =
      let four : j ≢ k + 4 = around 4 o (omega arith) in
      let five : j ≢ k + 4 + 1 = λ e. around 5 o (omega arith) (omega arith) in
      let six : j ≢ k + 6 = around 6 o (omega arith) in
      let seven : j ≢ k + 6 + 1 = λ e. around 7 o (omega arith) (omega arith) in
      simp (set_wide_others, four, five, six, seven) (registers_others _ _ _ _ j 8 (omega arith) o)

-- ---- one law for each store, from what the stores before it kept

module _ {P : ℕ → Type 0} {us ws : List ℕ} where
  -- a store that rewrites words of P's complement alone
  store_kept : (vs : List ℕ) → length vs ≡ length ws → ((k : ℕ) → P k → get_or vs k 0 ≡ get_or ws k 0) → Keeps P us ws → Keeps P us vs
  store_kept vs long same t = record { word = λ k p. same k p ∙ t.word k p; as_many = long ∙ t.as_many }

  -- nothing is stored where i names no record
  named_kept : (a : Arena) (i : ℕ) (vs : List ℕ) → (Inside a i → Keeps P us vs) → Keeps P us ws → Keeps P us (cond (inside a i) vs ws)
  named_kept a i vs f t = go (inside a i) refl
    where
      go : (b : Bool) → inside a i ≡ b → Keeps P us (cond b vs ws)
      go true e = f (is_inside a i e)
      go false e = t

  either_kept : (b : Bool) (vs : List ℕ) → Keeps P us vs → Keeps P us ws → Keeps P us (cond b vs ws)
  either_kept b vs s t = either_way (Keeps P us) b vs ws s t

  pub register_kept : (a : Arena) (i v : ℕ) (f : Register) → Spares P a i → Keeps P us ws → Keeps P us (set_register a ws i v f)
  unfolding set_register
  register_kept a i v f s t =
      named_kept a i (set ws (record_at a i + register_of f) v)
      (λ h. store_kept _ (length-set ws (record_at a i + register_of f) v)
      (λ k p. get_or-set_other ws (record_at a i + register_of f) k v 0
      (beside a i k (register_of f) (s.off k p h) (omega (arith, register_small f, registers_data a)))) t)
      t

  pub node_kept : (n i : ℕ) (x : Node) → Spares P (Nodes n) i → Keeps P us ws → Keeps P us (set_node n ws i x)
  unfolding set_node record_at data_of
  node_kept n i x s t =
      named_kept (Nodes n) i (node_set ws (node_at i) x)
      (λ h. store_kept _ (node_words ws (node_at i) x) (λ k p. node_others ws (node_at i) x k (s.off k p h)) t) t

  pub value_kept : (m n j : ℕ) (r : ValueRecord) → Spares P (Values n m) j → Keeps P us ws → Keeps P us (set_value m n ws j r)
  unfolding set_value record_at data_of
  value_kept m n j r s t =
      named_kept (Values n m) j (value_set ws (value_at n j) r)
      (λ h. store_kept _ (value_words ws (value_at n j) r) (λ k p. value_others ws (value_at n j) r k (s.off k p h)) t) t

  counts_kept : (a : Arena) (c : Counts) → Clears P a → Keeps P us ws → Keeps P us (set_counts a ws c)
  counts_kept a c o = store_kept _ (counts_length a ws c) (λ k p. counts_others a ws c k (o.outside k p))

module _ {P : ℕ → Type 0} {us ws : List ℕ} where
  pub add_kept : (a : Arena) (c : Counts) → Clears P a → Spares P a c.head → Keeps P us ws → Keeps P us (add_image a ws c)
  unfolding add_image
  add_kept a c o s t = either_kept (inside a c.head) _ (counts_kept a _ o (register_kept a c.head 0 _ s t)) t

  pub free_kept : (a : Arena) (i : ℕ) (c : Counts) → Clears P a → Spares P a i → Keeps P us ws → Keeps P us (remove_image a ws i c)
  unfolding remove_image
  free_kept a i c o s t = either_kept (inside a i) _ (counts_kept a _ o (register_kept a i c.head _ s t)) t

  pub fresh_kept : (a : Arena) → Clears P a → Keeps P us ws → Keeps P us (initialized a ws)
  unfolding initialized
  fresh_kept a o = counts_kept a _ o

  -- the root
  pub root_kept : (r : ℕ) → ((k : ℕ) → P k → k ≢ 2) → Keeps P us ws → Keeps P us (set ws 2 r)
  root_kept r o = store_kept _ (length-set ws 2 r) (λ k p. get_or-set_other ws 2 k r 0 (o k p))
