-- The free chains and the records that were never used: rules T11 to T13 and T15. One definition for both arenas, and behind it the turns of the loops that
-- follow a chain.
use Rattle.std.specs.Prelude.{◌≡◌, List, Bool, true, false, ◌&&◌, Option, Some, None, eqb, leb, ltb}
use Rattle.std.specs.Bool.{then_some}
use Rattle.std.proofs.Math.Path.{refl, sym}
use Rattle.std.proofs.lemmas.Option.{none-some}
use Prim.Native.Nat.{ℕ, zero, suc, ◌+◌, ◌-◌, ◌*◌, ◌≤◌, ◌<◌}
use native.Mathlib.Omega.{arith}
use Rattle.words.specs.Zeros.{zeros_at}
use Rattle.node_allocator.specs.declared.Counts.{Counts}
use Rattle.node_allocator.specs.Layout.{node_at, value_at}
use Rattle.records.specs.declared.Header.{Header}
use Rattle.records.specs.Records.{node_of, value_record_of}
use Rattle.inspection.specs.Tests.{free_node, free_value}

-- from i through so many free records to the bump
unfoldable pub chain_of : (ℕ → Bool) → (ℕ → ℕ) → ℕ → ℕ → ℕ → Bool
chain_of free next bump zero i = eqb i bump
chain_of free next bump (suc many) i = leb 1 i && ltb i bump && free i && chain_of free next bump many (next i)

-- what a test of a record may answer is the record that it names as the next, if it passes
abbrev pub Links : (ℕ → Bool) → (ℕ → ℕ) → ℕ → (ℕ → Option ℕ → Type 0) → Type 0
Links free next bump answers = (i : ℕ) (r : Option ℕ) → 1 ≤ i → i < bump → answers i r → r ≡ then_some (free i) (next i)

-- bump-1-size
abbrev pub free_count : Counts → ℕ
free_count c = c.bump - 1 - c.size

-- whether the free records of an arena make a chain from its head to its bump, by a test that may answer so
abbrev pub Chained : (ℕ → Option ℕ → Type 0) → Counts → Bool → Type 0
Chained answers c result =
    (free : ℕ → Bool) (next : ℕ → ℕ) → Links free next c.bump answers → result ≡ chain_of free next c.bump (free_count c) c.head

-- whether a record passes the test of a free one, and what it names as the next
abbrev pub node_free : Header → List ℕ → ℕ → Bool
node_free h ws i = free_node h ws i (node_of ws i)

abbrev pub node_next : List ℕ → ℕ → ℕ
node_next ws i = (node_of ws i).left.0

abbrev pub value_free : ℕ → Header → List ℕ → ℕ → Bool
value_free n h ws j = free_value h j (value_record_of n ws j)

abbrev pub value_next : ℕ → List ℕ → ℕ → ℕ
value_next n ws j = (value_record_of n ws j).register0

unfoldable pub node_chain : Header → List ℕ → Bool
node_chain h ws = chain_of (node_free h ws) (node_next ws) h.nodes.bump (free_count h.nodes) h.nodes.head

unfoldable pub value_chain : ℕ → Header → List ℕ → Bool
value_chain n h ws = chain_of (value_free n h ws) (value_next n ws) h.values.bump (free_count h.values) h.values.head

-- every record from the bump on is zeros
unfoldable pub nodes_unused : ℕ → Header → List ℕ → Bool
nodes_unused n h ws = zeros_at ws (node_at h.nodes.bump) (12 * (n + 1 - h.nodes.bump))

unfoldable pub values_unused : ℕ → ℕ → Header → List ℕ → Bool
values_unused m n h ws = zeros_at ws (value_at n h.values.bump) (8 * (m + 1 - h.values.bump))

-- ---- a turn

module _ (free : ℕ → Bool) (next : ℕ → ℕ) (bump : ℕ) where
  pub chain_end : (many i : ℕ) → many ≤ 0 → chain_of free next bump many i ≡ eqb i bump
  unfolding chain_of
  chain_end zero i l = refl
  chain_end (suc many) i l = absurd (omega arith)

  pub chain_outside : (many i : ℕ) → 0 < many → leb 1 i && ltb i bump ≡ false → chain_of free next bump many i ≡ false
  unfolding chain_of
  chain_outside zero i l u = absurd (omega arith)
  chain_outside (suc many) i l u = simp u

  pub chain_taken : (many i : ℕ) → 0 < many → leb 1 i && ltb i bump ≡ true → free i ≡ false → chain_of free next bump many i ≡ false
  unfolding chain_of
  chain_taken zero i l u f = absurd (omega arith)
  chain_taken (suc many) i l u f = simp (u, f)

  pub chain_more : (many i : ℕ) → 0 < many → leb 1 i && ltb i bump ≡ true → free i ≡ true
      → chain_of free next bump many i ≡ chain_of free next bump (many - 1) (next i)
  unfolding chain_of
  chain_more zero i l u f = absurd (omega arith)
  chain_more (suc many) i l u f = let less : suc many - 1 ≡ many = omega arith in simp (u, f, less)

  -- by what a test of the record answers
  module _ (many i : ℕ) (some : 0 < many) (within : leb 1 i && ltb i bump ≡ true) where
    pub chain_stops : None ≡ then_some (free i) (next i) → chain_of free next bump many i ≡ false
    chain_stops e = go (free i) refl e
      where
        go : (b : Bool) → free i ≡ b → None ≡ then_some b (next i) → chain_of free next bump many i ≡ false
        go true f x = absurd (none-some _ x)
        go false f x = chain_taken many i some within f

    pub chain_goes_on : (j : ℕ) → Some j ≡ then_some (free i) (next i) → chain_of free next bump many i ≡ chain_of free next bump (many - 1) j
    chain_goes_on j e = go (free i) refl e
      where
        go : (b : Bool) → free i ≡ b → Some j ≡ then_some b (next i) → chain_of free next bump many i ≡ chain_of free next bump (many - 1) j
        go true f x = let same : j ≡ next i = cc in rw same (chain_more many i some within f)
        go false f x = absurd (none-some _ (sym x))
