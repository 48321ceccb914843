-- What a call rewrites, said in one form for every call: rule D3b. Of a node that is rewritten it is the data alone; no call rewrites padding.
use Rattle.std.specs.Prelude.{◌≡◌, List, [], ◌∷◌, ◌⊎◌, ℕ, ◌+◌, ◌≤◌, ◌<◌, length, get_or, set}
use Rattle.std.proofs.Math.Logic.{inr}
use Rattle.std.proofs.Common.{arith}
use Rattle.node_allocator.specs.declared.Arena.TheVariants.{Nodes, Values}
use Rattle.node_allocator.specs.Layout.{header_at, values_at}
use Rattle.arena_laws.specs.Chain.{Each}
use Rattle.record_views.specs.Kept.{Off, Keeps, Spares, Clears, unchanged, register_kept, node_kept, value_kept, add_kept, free_kept, fresh_kept, root_kept}

-- word k is none of the header's, which are words 0 to 7 and the four behind the nodes
pub record OffHeader (n k : ℕ) : Type 0 where
  pub past : 8 ≤ k
  pub values : (k < values_at n) ⊎ (values_at n + 4 ≤ k)

-- every word that is none of the header's, and no data of these nodes and of these value records, is what it was
pub record Touched (m n : ℕ) (before after : List ℕ) : Type 0 where
  pub nodes : List ℕ
  pub five : length nodes ≤ 5
  pub values : List ℕ
  pub one : length values ≤ 1
  pub others : (k : ℕ) → OffHeader n k → Each (λ i. Off (Nodes n) i k) nodes → Each (λ j. Off (Values n m) j k) values → get_or after k 0 ≡ get_or before k 0
  pub as_many : length after ≡ length before

-- ---- the records that a call names

-- i is one of them
pub data Among (i : ℕ) : List ℕ → Type 0 where
  here : {is : List ℕ} → Among i (i ∷ is)
  there : {j : ℕ} {is : List ℕ} → Among i is → Among i (j ∷ is)

-- word k is none of the header's, and no data of these nodes and of these value records
pub record Spared (m n : ℕ) (nodes values : List ℕ) (k : ℕ) : Type 0 where
  pub header : OffHeader n k
  pub of_nodes : Each (λ i. Off (Nodes n) i k) nodes
  pub of_values : Each (λ j. Off (Values n m) j k) values

each : (P : ℕ → Type 0) {i : ℕ} {is : List ℕ} → Among i is → Each P is → P i
each P here e = e.0
each P (there h) e = each P h e.1

module _ {m n : ℕ} {nodes values : List ℕ} where
  pub node_spared : {i : ℕ} → Among i nodes → Spares (Spared m n nodes values) (Nodes n) i
  node_spared h = record { off = λ k p. each (λ j. Off (Nodes n) j k) h p.of_nodes }

  pub value_spared : {j : ℕ} → Among j values → Spares (Spared m n nodes values) (Values n m) j
  value_spared h = record { off = λ k p. each (λ i. Off (Values n m) i k) h p.of_values }

  pub nodes_clear : Clears (Spared m n nodes values) (Nodes n)
  unfolding header_at
  nodes_clear = record { outside = λ k p. inr p.header.past }

  pub values_clear : Clears (Spared m n nodes values) (Values n m)
  unfolding header_at
  values_clear = record { outside = λ k p. p.header.values }

  pub root_spared : {us ws : List ℕ} (r : ℕ) → Keeps (Spared m n nodes values) us ws → Keeps (Spared m n nodes values) us (set ws 2 r)
  root_spared r = root_kept r (λ k p e. omega (arith, p.header.past))

-- a call whose stores are all to these rewrites no more
pub touches : {m n : ℕ} {us ws : List ℕ} (nodes values : List ℕ) → length nodes ≤ 5 → length values ≤ 1 → Keeps (Spared m n nodes values) us ws → Touched m n us ws
touches nodes values five one t =
    record {
      nodes = nodes;
      five = five;
      values = values;
      one = one;
      others = λ k head off vals. t.word k (record { header = head; of_nodes = off; of_values = vals });
      as_many = t.as_many;
    }

pub untouched : {m n : ℕ} {ws : List ℕ} → Touched m n ws ws
untouched = touches [] [] (omega arith) (omega arith) unchanged

-- the stores, for `search`
pub ruleset stores = (register_kept, node_kept, value_kept, add_kept, free_kept, fresh_kept, root_spared, unchanged, node_spared, value_spared, nodes_clear, values_clear, here, there)
