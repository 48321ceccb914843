-- A node after a store. A node is what its ten words of data are; a store that names record i changes that one and keeps every other.
use Rattle.std.specs.Prelude.{◌≡◌, refl, List, ◌≢◌, Bool, cond, ℕ, ◌+◌, ◌≤◌, ◌<◌, length, get_or, eqb}
use Rattle.std.proofs.Common.{sym, ap, ◌∙◌, inl, inr, arith, eq-eqb, ne_eqb}
use Rattle.std.proofs.Math.Decide.{ℕ_discrete}
use Rattle.std.proofs.Math.ListN.{length-set}
use Rattle.words.specs.Wide.{wide_at, set_wide, wide_stored, set_wide_length}
use Rattle.node_allocator.specs.declared.Arena.TheVariants.{Nodes, Values}
use Rattle.node_allocator.specs.declared.Counts.{Counts}
use Rattle.node_allocator.specs.declared.Register.{Register}
use Rattle.node_allocator.specs.declared.Register.TheVariants as register
use Rattle.node_allocator.specs.Layout.{node_at, header_at, record_at, capacity_of, register_of}
use Rattle.node_allocator.specs.Steps.{get_register, set_register, add_image, remove_image}
use Rattle.arena_laws.specs.Places.{Inside, inside_is, Lies, register_small}
use Rattle.arena_laws.specs.Laws.{Outside, register_others, register_stored, register_word}
use Rattle.arena_laws.specs.Taken.{add_others, add_link, remove_others, remove_left}
use Rattle.records.specs.declared.Node.{Node}
use Rattle.records.specs.Records.{node_of}
use Rattle.records.specs.Writes.{registers_set, key_set, node_set, set_node}
use Rattle.record_views.specs.Words.{Alike, wide_same, word_before, wide_before, registers_stored}
use Rattle.record_views.specs.Kept.{data_of, Keeps, Elsewhere, record_elsewhere}

-- ---- one record changed

-- record y after record i is changed by `change`
abbrev pub changed : {A : Type 0} → ℕ → (A → A) → ℕ → A → A
changed i change y x = cond (eqb y i) (change x) x

pub changed_there : {A : Type 0} (i : ℕ) (change : A → A) (x : A) → changed i change i x ≡ change x
changed_there i change x = ap (λ (b : Bool). cond b (change x) x) (eq-eqb i i refl)

pub changed_other : {A : Type 0} (i : ℕ) (change : A → A) (y : ℕ) (x : A) → y ≢ i → changed i change y x ≡ x
changed_other i change y x d = ap (λ (b : Bool). cond b (change x) x) (ne_eqb y i d)

abbrev pub with_register : Register → ℕ → Node → Node
with_register register.Left v x =
    record { left = record { 0 = v }; right = x.right; parent = x.parent; value = x.value; key = x.key; prefix = x.prefix }
with_register register.Right v x =
    record { left = x.left; right = record { 0 = v }; parent = x.parent; value = x.value; key = x.key; prefix = x.prefix }
with_register register.Parent v x =
    record { left = x.left; right = x.right; parent = record { 0 = v }; value = x.value; key = x.key; prefix = x.prefix }
with_register register.Value v x =
    record { left = x.left; right = x.right; parent = x.parent; value = record { 0 = v }; key = x.key; prefix = x.prefix }

-- ---- a node is what its ten words of data are

-- one register differs
register_one : (f : Register) (vs ws : List ℕ) (i v : ℕ) → get_or vs (node_at i + register_of f) 0 ≡ v
    → ((k : ℕ) → node_at i ≤ k → k < node_at i + 10 → k ≢ node_at i + register_of f → get_or vs k 0 ≡ get_or ws k 0)
    → node_of vs i ≡ with_register f v (node_of ws i)
unfolding node_of
register_one g vs ws i v e f = go g e (λ r l d. f (node_at i + r) (omega arith) (omega arith) (λ q. d (omega arith)))
  where
    behind : (k : ℕ) → node_at i + 4 ≤ k → k + 2 ≤ node_at i + 10 → wide_at vs k ≡ wide_at ws k
    behind k l h = wide_same vs ws k (λ j a b. f j (omega arith) (omega arith) (λ q. omega (arith, register_small g)))

    low : wide_at vs (node_at i + 4) ≡ wide_at ws (node_at i + 4)
    low = behind (node_at i + 4) (omega arith) (omega arith)

    high : wide_at vs (node_at i + 4 + 2) ≡ wide_at ws (node_at i + 4 + 2)
    high = behind (node_at i + 4 + 2) (omega arith) (omega arith)

    prefix : wide_at vs (node_at i + 8) ≡ wide_at ws (node_at i + 8)
    prefix = behind (node_at i + 8) (omega arith) (omega arith)

    place : node_at i + 0 ≡ node_at i
    place = omega arith

    go : (g : Register) → get_or vs (node_at i + register_of g) 0 ≡ v
        → ((r : ℕ) → r < 10 → r ≢ register_of g → get_or vs (node_at i + r) 0 ≡ get_or ws (node_at i + r) 0) → node_of vs i ≡ with_register g v (node_of ws i)
    go register.Left e f = simp (rw place at e, f 1 (omega arith) (omega arith), f 2 (omega arith) (omega arith), f 3 (omega arith) (omega arith), low, high, prefix)
    go register.Right e f = simp (e, rw place at (f 0 (omega arith) (omega arith)), f 2 (omega arith) (omega arith), f 3 (omega arith) (omega arith), low, high, prefix)
    go register.Parent e f = simp (e, rw place at (f 0 (omega arith) (omega arith)), f 1 (omega arith) (omega arith), f 3 (omega arith) (omega arith), low, high, prefix)
    go register.Value e f = simp (e, rw place at (f 0 (omega arith) (omega arith)), f 1 (omega arith) (omega arith), f 2 (omega arith) (omega arith), low, high, prefix)

pub node_same : (vs ws : List ℕ) (y : ℕ) → Alike vs ws (node_at y) (node_at y + 10) → node_of vs y ≡ node_of ws y
unfolding node_of
node_same vs ws y f = register_one register.Right vs ws y (get_or ws (node_at y + 1) 0) (f _ (omega arith) (omega arith)) (λ k a b d. f k a b)

-- ---- the node that a store names

-- ten words that are stored from place k on are read back
module _ (ws : List ℕ) (k : ℕ) (x : Node) (room : k + 10 ≤ length ws) where
  abbrev registers : List ℕ
  registers = registers_set ws k x.left.0 x.right.0 x.parent.0 x.value.0

  abbrev half : List ℕ
  half = set_wide registers (k + 4) x.key.low

  abbrev keyed : List ℕ
  keyed = set_wide half (k + 4 + 2) x.key.high

  long : length registers ≡ length ws
  unfolding registers_set
  long = simp length-set

  half_long : length half ≡ length ws
  half_long = set_wide_length registers (k + 4) x.key.low ∙ long

  keyed_long : length keyed ≡ length ws
  keyed_long = set_wide_length half (k + 4 + 2) x.key.high ∙ half_long

  word_stored : (j : ℕ) → j < k + 4 → get_or (node_set ws k x) j 0 ≡ get_or registers j 0
  unfolding node_set key_set
  word_stored j l =
      word_before keyed (k + 8) x.prefix j (omega arith)
      ∙ word_before half (k + 4 + 2) x.key.high j (omega arith)
      ∙ word_before registers (k + 4) x.key.low j (omega arith)

  low_stored : wide_at (node_set ws k x) (k + 4) ≡ x.key.low
  unfolding node_set key_set
  low_stored =
      wide_before keyed (k + 8) x.prefix (k + 4) (omega arith)
      ∙ wide_before half (k + 4 + 2) x.key.high (k + 4) (omega arith)
      ∙ wide_stored registers (k + 4) x.key.low (omega (arith, long))

  high_stored : wide_at (node_set ws k x) (k + 4 + 2) ≡ x.key.high
  unfolding node_set key_set
  high_stored =
      wide_before keyed (k + 8) x.prefix (k + 4 + 2) (omega arith) ∙ wide_stored half (k + 4 + 2) x.key.high (omega (arith, half_long))

  prefix_stored : wide_at (node_set ws k x) (k + 8) ≡ x.prefix
  unfolding node_set key_set
  prefix_stored = wide_stored keyed (k + 8) x.prefix (omega (arith, keyed_long))

node_stored : (ws : List ℕ) (i : ℕ) (x : Node) → node_at i + 10 ≤ length ws → node_of (node_set ws (node_at i) x) i ≡ x
unfolding node_of
node_stored ws i x room =
    let four = registers_stored ws (node_at i) x.left.0 x.right.0 x.parent.0 x.value.0 (omega arith) in
    let left = word_stored ws (node_at i) x room (node_at i) (omega arith) ∙ four.register0 in
    let right = word_stored ws (node_at i) x room (node_at i + 1) (omega arith) ∙ four.register1 in
    let parent = word_stored ws (node_at i) x room (node_at i + 2) (omega arith) ∙ four.register2 in
    let value = word_stored ws (node_at i) x room (node_at i + 3) (omega arith) ∙ four.register3 in
    simp (left, right, parent, value, low_stored ws (node_at i) x room, high_stored ws (node_at i) x room, prefix_stored ws (node_at i) x room)

module _ {n : ℕ} (ws : List ℕ) (lies : Lies (Nodes n) (length ws)) {i : ℕ} (named : Inside (Nodes n) i) where
  past : 8 ≤ node_at i
  past = omega (arith, named.low)

  room : node_at i + 10 ≤ length ws
  unfolding record_at capacity_of
  room = omega (arith, lies.room, named.high, named.low)

  -- a step that stores register 0 alone of it
  link_own : (vs : List ℕ) (v : ℕ) → get_register (Nodes n) vs i register.Left ≡ v
      → ((k : ℕ) → Outside (Nodes n) k → k ≢ record_at (Nodes n) i → get_or vs k 0 ≡ get_or ws k 0) → node_of vs i ≡ with_register register.Left v (node_of ws i)
  unfolding record_at header_at
  link_own vs v e others =
      register_one register.Left vs ws i v (sym (register_word vs register.Left named) ∙ e) (λ k a b d. others k (inr (omega (arith, past))) (λ q. d (omega arith)))

  pub register_own : (v : ℕ) (f : Register) → node_of (set_register (Nodes n) ws i v f) i ≡ with_register f v (node_of ws i)
  unfolding record_at
  register_own v f =
      register_one f (set_register (Nodes n) ws i v f) ws i v (sym (register_word _ f named) ∙ register_stored (Nodes n) ws i v f lies named)
      (λ k a b d. register_others (Nodes n) ws i v f k d)

  pub node_own : (x : Node) → node_of (set_node n ws i x) i ≡ x
  unfolding set_node
  node_own x = rw (inside_is named) (node_stored ws i x room)

  pub node_removed_own : (c : Counts) → node_of (remove_image (Nodes n) ws i c) i ≡ with_register register.Left c.head (node_of ws i)
  node_removed_own c = link_own (remove_image (Nodes n) ws i c) c.head (remove_left (Nodes n) ws i c named lies) (remove_others (Nodes n) ws i c)

-- the node that is added names none on its Left
pub node_added_own : {n : ℕ} (ws : List ℕ) → Lies (Nodes n) (length ws) → (c : Counts) → Inside (Nodes n) c.head
    → node_of (add_image (Nodes n) ws c) c.head ≡ with_register register.Left 0 (node_of ws c.head)
node_added_own {n} ws lies c named = link_own ws lies named (add_image (Nodes n) ws c) 0 (add_link (Nodes n) ws c lies named) (add_others (Nodes n) ws c)

-- ---- every node

-- a store that keeps all but node i and its arena's header
pub node_changed : {n i : ℕ} {ws vs : List ℕ} (f : Node → Node) → Keeps (Elsewhere (Nodes n) i) ws vs → (1 ≤ i → node_of vs i ≡ f (node_of ws i))
    → (y : ℕ) → 1 ≤ y → node_of vs y ≡ changed i f y (node_of ws y)
unfolding record_at data_of
node_changed {n} {i} {ws} {vs} f kept own y low = go (ℕ_discrete y i)
  where
    go : Dec (y ≡ i) → node_of vs y ≡ changed i f y (node_of ws y)
    go (yes e) = rw (eq-eqb y i e, e) (own (omega arith))
    go (no d) = rw (ne_eqb y i d) (node_same vs ws y (λ k a b. kept.word k (record_elsewhere (Nodes n) i y k low d a b)))

-- a store that keeps all but a value record and its arena's header
pub node_left : {m n j : ℕ} {ws vs : List ℕ} → Keeps (Elsewhere (Values n m) j) ws vs → (y : ℕ) → 1 ≤ y → y ≤ n → node_of vs y ≡ node_of ws y
unfolding record_at header_at
node_left {m} {n} {j} {ws} {vs} kept y low high =
    node_same vs ws y (λ k a b. kept.word k (record { outside = inl (omega arith); off = λ named. inl (omega (arith, named.low)) }))
