-- One arena while a call takes records from it: its counts within their limits, and its free chain. The record that is
-- taken is the chain's first, or where
-- the chain is empty the one at the bump. One law for both arenas, and for one record taken, which a split uses twice.
use Rattle.std.specs.Prelude.{◌≡◌, refl, ◌≢◌, ℕ, ◌+◌, ◌-◌, ◌%◌, ◌^◌, ◌≤◌, ◌<◌, length}
use Rattle.std.proofs.Common.{sym, ap, subst, ◌∙◌, arith}
use mathlib.Core.List.{List, [], ◌∷◌}
use Rattle.node_allocator.specs.declared.Arena.{Arena}
use Rattle.node_allocator.specs.declared.Arena.TheVariants.{Nodes, Values}
use Rattle.node_allocator.specs.declared.Counts.{Counts}
use Rattle.node_allocator.specs.declared.Register.TheVariants.{Left}
use Rattle.node_allocator.specs.Layout.{node_at, value_at, record_at, capacity_of}
use Rattle.node_allocator.specs.Steps.{get_register, add_counts}
use Rattle.arena_laws.specs.Places.{Inside}
use Rattle.arena_laws.specs.Laws.{register_word}
use Rattle.arena_laws.specs.Taken.{add_fresh, add_freed}
use Rattle.records.specs.Layout.{most_nodes}
use Rattle.records.specs.Records.{header_of, node_of, record_from, value_record_of}
use Rattle.lists.specs.Lists.{All, all_map}
use Rattle.accepted.specs.Rules.{ArenaRules, FreeNode, FreeValue, Chain}
use Rattle.accepted.specs.Accepted.{Accepted}
use Rattle.accepted.specs.Apart.{chain_once}

-- the free chain has as many records as the counts leave over
pub record Part (c : Counts) (limit : ℕ) (Free : ℕ → Type 0) (next : ℕ → ℕ) (xs : List ℕ) : Type 0 where
  pub rules : ArenaRules c limit
  pub chain : Chain Free next c.bump c.head xs
  pub count : length xs ≡ c.bump - 1 - c.size

-- the chain without its first
abbrev pub behind : List ℕ → List ℕ
behind [] = []
behind (x ∷ xs) = xs

pub all_behind : (P : ℕ → Type 0) (xs : List ℕ) → All P xs → All P (behind xs)
all_behind P [] f = tt
all_behind P (x ∷ xs) f = f.1

-- the counts after a record is taken: bump and head move on where the chain is empty, else the first names the head
abbrev pub taken_from : (ℕ → ℕ) → Counts → List ℕ → Counts
taken_from next c [] = record { size = c.size + 1; bump = c.bump + 1; head = c.bump + 1 }
taken_from next c (x ∷ xs) = record { size = c.size + 1; bump = c.bump; head = next x }

-- the bump does not fall
pub bump_most : (next : ℕ → ℕ) (c : Counts) (xs : List ℕ) → c.bump ≤ (taken_from next c xs).bump
bump_most next c [] = omega arith
bump_most next c (x ∷ xs) = omega arith

pub size_taken : (next : ℕ → ℕ) (c : Counts) (xs : List ℕ) → (taken_from next c xs).size ≡ c.size + 1
size_taken next c [] = refl
size_taken next c (x ∷ xs) = refl

module _ {limit : ℕ} {c : Counts} {Free : ℕ → Type 0} {next : ℕ → ℕ} where
  -- ---- the record that is taken

  -- it lies inside where there is room
  pub head_most : (xs : List ℕ) → Part c limit Free next xs → c.size < limit → c.head ≤ limit
  unfolding Chain
  head_most [] p s = omega (arith, p.rules.bump_some, p.chain, p.count, p.rules.size_most)
  head_most (x ∷ xs) p s = omega (arith, p.rules.bump_most, p.chain.here, p.chain.used)

  -- below the bump afterwards
  pub head_used : (xs : List ℕ) → Part c limit Free next xs → c.head < (taken_from next c xs).bump
  unfolding Chain
  head_used [] p = omega (arith, p.chain)
  head_used (x ∷ xs) p = omega (arith, p.chain.here, p.chain.used)

  -- no used record that is not free
  pub not_head : (xs : List ℕ) → Part c limit Free next xs → (y : ℕ) → y < c.bump → (Free y → ⊥) → y ≢ c.head
  unfolding Chain
  not_head [] p y l f e = omega (arith, p.chain)
  not_head (x ∷ xs) p y l f e = f (subst Free (sym (e ∙ p.chain.here)) p.chain.free)

  -- nor one that stays in the chain
  pub behind_other : (xs : List ℕ) → Part c limit Free next xs → All (λ y. y ≢ c.head) (behind xs)
  unfolding Chain
  behind_other [] p = tt
  behind_other (x ∷ xs) p =
      all_map (λ y d e. d (e ∙ p.chain.here)) xs (chain_once Free next c.bump c.head x xs p.chain)

  -- nor the next one that is taken
  pub heads_differ : (xs : List ℕ) → Part c limit Free next xs → c.head ≢ (taken_from next c xs).head
  unfolding Chain
  heads_differ [] p e = omega (arith, p.chain)
  heads_differ (x ∷ []) p e = omega (arith, p.chain.here, p.chain.used, p.chain.rest)
  heads_differ (x ∷ y ∷ xs) p e = (behind_other (x ∷ y ∷ xs) p).0 (sym (e ∙ p.chain.rest.here))

-- ---- the arena afterwards

-- the header's rules follow from the chain
rules_of : (Free : ℕ → Type 0) (next : ℕ → ℕ) (c : Counts) (limit : ℕ) (xs : List ℕ) → 1 ≤ c.bump → c.bump ≤ limit + 1
    → c.size ≤ c.bump - 1 → Chain Free next c.bump c.head xs
    → length xs ≡ c.bump - 1 - c.size → ArenaRules c limit
unfolding Chain
rules_of Free next c limit [] low most size k count =
    record {
      bump_some = low;
      bump_most = most;
      head_some = omega (arith, k);
      head_most = omega (arith, k);
      size_most = size;
      chain_empty = ((λ e. omega (arith, count)), λ e. k);
    }
rules_of Free next c limit (x ∷ xs) low most size k count =
    record {
      bump_some = low;
      bump_most = most;
      head_some = omega (arith, k.here, k.some);
      head_most = omega (arith, k.here, k.used);
      size_most = size;
      chain_empty = ((λ e. absurd (omega (arith, k.here, k.used))), λ e. absurd (omega (arith, count)));
    }

pub part_taken : {limit : ℕ} {c : Counts} {Free : ℕ → Type 0} {next : ℕ → ℕ} (xs : List ℕ) → Part c limit Free next xs
    → c.size < limit
    → Part (taken_from next c xs) limit Free next (behind xs)
unfolding Chain
part_taken {limit} {c} {Free} {next} [] p s =
    let low = p.rules.bump_some in
    let size = p.rules.size_most in
    let most = p.rules.bump_most in
    let count = p.count in
    record {
      rules = rules_of Free next (taken_from next c []) limit [] (omega arith) (omega arith) (omega arith) refl
          (omega arith);
      chain = refl;
      count = omega arith;
    }
part_taken {limit} {c} {Free} {next} (x ∷ xs) p s =
    let count = p.count in
    record {
      rules = rules_of Free next (taken_from next c (x ∷ xs)) limit xs p.rules.bump_some p.rules.bump_most
          (omega arith) p.chain.rest (omega arith);
      chain = p.chain.rest;
      count = omega arith;
    }

-- the header that the arena's step answers
pub counts_taken : {c : Counts} {Free : ℕ → Type 0} {next : ℕ → ℕ} (a : Arena) (ws xs : List ℕ) → capacity_of a ≤ most_nodes
    → Part c (capacity_of a) Free next xs → c.size < capacity_of a
    → (Inside a c.head → get_register a ws c.head Left ≡ next c.head) → add_counts a ws c ≡ taken_from next c xs
unfolding Chain
counts_taken {c} a ws [] few p s link =
    let named : Inside a c.head = record { low = p.rules.head_some; high = head_most [] p s } in
    let size : (c.size + 1) % 2 ^ 64 ≡ c.size + 1 = omega arith in
    add_fresh a ws c named p.chain (omega (arith, named.high))
    ∙ λ ι. record { size = size ι; bump = p.chain ι + 1; head = p.chain ι + 1 }
counts_taken {c} {next = next} a ws (x ∷ xs) few p s link =
    let named : Inside a c.head = record { low = p.rules.head_some; high = head_most (x ∷ xs) p s } in
    let size : (c.size + 1) % 2 ^ 64 ≡ c.size + 1 = omega arith in
    let head : get_register a ws c.head Left ≡ next x = link named ∙ ap next p.chain.here in
    add_freed a ws c named (λ e. omega (arith, p.chain.here, p.chain.used))
    ∙ λ ι. record { size = size ι; bump = c.bump; head = head ι }

-- ---- the two arenas of an image

abbrev pub FreeNodeOf : ℕ → List ℕ → ℕ → Type 0
FreeNodeOf n ws i = FreeNode (header_of n ws) i (node_of ws i)

abbrev pub next_node_of : List ℕ → ℕ → ℕ
next_node_of ws i = (node_of ws i).left.0

abbrev pub FreeValueOf : ℕ → List ℕ → ℕ → Type 0
FreeValueOf n ws j = FreeValue (header_of n ws) j (value_record_of n ws j)

abbrev pub next_value_of : ℕ → List ℕ → ℕ → ℕ
next_value_of n ws j = (value_record_of n ws j).register0

pub node_part : {m n : ℕ} {ws : List ℕ} (a : Accepted m n ws)
    → Part (header_of n ws).nodes n (FreeNodeOf n ws) (next_node_of ws) a.free_nodes
node_part a = record { rules = a.header.nodes; chain = a.node_chain; count = a.node_count }

pub value_part : {m n : ℕ} {ws : List ℕ} (a : Accepted m n ws)
    → Part (header_of n ws).values m (FreeValueOf n ws) (next_value_of n ws) a.free_values
value_part a = record { rules = a.header.values; chain = a.value_chain; count = a.value_count }

-- register 0 of a record is the link
pub node_link : {n i : ℕ} (ws : List ℕ) → Inside (Nodes n) i → get_register (Nodes n) ws i Left ≡ next_node_of ws i
unfolding record_at node_of
node_link {n} {i} ws named = let place : node_at i + 0 ≡ node_at i = omega arith in register_word ws Left named ∙ rw place

pub value_link : {m n j : ℕ} (ws : List ℕ) → Inside (Values n m) j
    → get_register (Values n m) ws j Left ≡ next_value_of n ws j
unfolding record_at record_from
value_link {m} {n} {j} ws named =
    let place : value_at n j + 0 ≡ value_at n j = omega arith in register_word ws Left named ∙ rw place
