-- What the functions go by where the arena is known: an index that names a record lies within its capacity, and a record that was never used is
-- zero four words at a time, twelve of a node and eight of a value record.
use Rattle.std.specs.Prelude.{◌≡◌, ℕ, ◌+◌, ◌≤◌, true, ◌&&◌, List, nat_le}
use Rattle.std.proofs.Common.{◌∙◌, leb-true}
use native.Mathlib.Omega.{arith}
use Rattle.words.specs.Tests.{and_l, and_r}
use Rattle.words.specs.Zeros.{zeros_at, zeros_append}
use Rattle.node_allocator.specs.declared.Arena.{Arena}
use Rattle.node_allocator.specs.declared.Arena.TheVariants.{Nodes, Values}
use Rattle.node_allocator.specs.Layout.{node_at, value_at, record_at, capacity_of, width_of, inside}
use Rattle.node_allocator.specs.Steps.{never_used}

module _ (a : Arena) (ws : List ℕ) (i : ℕ) where
  pub node_unused : (n : ℕ) → a ≡ Nodes n → never_used a ws i ≡ (zeros_at ws (node_at i) 4 && zeros_at ws (node_at i + 4) 4) && zeros_at ws (node_at i + 8) 4
  unfolding never_used record_at width_of
  node_unused n e =
      let eight : node_at i + 4 + 4 ≡ node_at i + 8 = omega arith in
      rw e (zeros_append ws (node_at i) 8 4 ∙ rw (zeros_append ws (node_at i) 4 4))

  pub value_unused : (n m : ℕ) → a ≡ Values n m → never_used a ws i ≡ zeros_at ws (value_at n i) 4 && zeros_at ws (value_at n i + 4) 4
  unfolding never_used record_at width_of
  value_unused n m e = rw e (zeros_append ws (value_at n i) 4 4)

-- where it stands, by the arena
module _ (a : Arena) (i k : ℕ) (room : record_at a i + width_of a ≤ k) where
  pub node_room : (n : ℕ) → a ≡ Nodes n → node_at i + 12 ≤ k
  unfolding record_at width_of
  node_room n e = rw e at room

  pub value_room : (n m : ℕ) → a ≡ Values n m → value_at n i + 8 ≤ k
  unfolding record_at width_of
  value_room n m e = rw e at room

pub node_inside : (n i : ℕ) → inside (Nodes n) i ≡ true → (1 ≤ i) × (i ≤ n)
unfolding capacity_of
node_inside n i e = (leb-true 1 i (and_l _ (nat_le i n) e), leb-true i n (and_r (nat_le 1 i) _ e))

pub value_inside : (n m j : ℕ) → inside (Values n m) j ≡ true → (1 ≤ j) × (j ≤ m)
unfolding capacity_of
value_inside n m j e = (leb-true 1 j (and_l _ (nat_le j m) e), leb-true j m (and_r (nat_le 1 j) _ e))
