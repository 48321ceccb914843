-- The chains: the test that follows a chain passes exactly if there is one, of so many free records.
use Rattle.std.specs.Prelude.{◌≡◌, refl, Bool, length}
use Rattle.std.proofs.Math.Path.{ap}
use mathlib.Core.List.{List, [], ◌∷◌}
use Rattle.std.proofs.Math.Bool.{true}
use Prim.Native.Nat.{ℕ, zero, suc, ◌≤◌, ◌<◌}
use borrow.Author.Tests.{leb-true, le-leb, ltb-true, lt-ltb, eqb-true, eq-eqb}
use Rattle.words.specs.Tests.{and_l, and_r}
use Rattle.records.specs.declared.Header.{Header}
use Rattle.records.specs.Records.{node_of, value_record_of}
use Rattle.lists.specs.Lists.{All}
use Rattle.full_check.specs.Chains.{chain_of, free_count, node_free, node_next, value_free, value_next, node_chain, value_chain}
use Rattle.accepted.specs.Rules.{FreeNode, FreeValue, Chain, NodeChain, ValueChain}
use Rattle.accepted.specs.Held.{Clean}
use Rattle.accepted.specs.Tests.{free_node_rules, free_node_passes, free_value_rules, free_value_passes}

module _ (free : ℕ → Bool) (Free : ℕ → Type 0) (next : ℕ → ℕ) (bump : ℕ) where
  -- the records of a chain, how many they are, and that each passes its test
  pub record Found (many i : ℕ) : Type 0 where
    pub records : List ℕ
    pub many_are : length records ≡ many
    pub chain : Chain Free next bump i records
    pub pass : All (λ j. free j ≡ true) records

  pub chain_found : ((i : ℕ) → free i ≡ true → Free i) → (many i : ℕ) → chain_of free next bump many i ≡ true → Found many i
  unfolding chain_of Chain
  chain_found rule zero i e = record { records = []; many_are = refl; chain = eqb-true i bump e; pass = tt }
  chain_found rule (suc many) i e =
      let more : chain_of free next bump many (next i) ≡ true = search (and_l, and_r) depth 8 in
      let passed : free i ≡ true = search (and_l, and_r) depth 8 in
      let found : Found many (next i) = chain_found rule many (next i) more in
      record {
        records = i ∷ found.records;
        many_are = ap suc found.many_are;
        chain =
            record {
              here = refl;
              some = leb-true 1 i (search (and_l, and_r) depth 8);
              used = ltb-true i bump (search (and_l, and_r) depth 8);
              free = rule i passed;
              rest = found.chain;
            };
        pass = (passed, found.pass);
      }

  pub chain_passes : ((i : ℕ) → 1 ≤ i → i < bump → Free i → free i ≡ true) → (i : ℕ) (xs : List ℕ) → Chain Free next bump i xs
      → chain_of free next bump (length xs) i ≡ true
  unfolding chain_of Chain
  chain_passes pass i [] c = eq-eqb i bump c
  chain_passes pass i (x ∷ xs) c =
      rw (c.here, le-leb 1 x c.some, lt-ltb x bump c.used, pass x c.some c.used c.free)
      (chain_passes pass (next x) xs c.rest)

-- ---- both arenas

module _ (h : Header) (ws : List ℕ) where
  pub node_chain_found : node_chain h ws ≡ true
      → Found (node_free h ws) (λ i. FreeNode h i (node_of ws i)) (node_next ws) h.nodes.bump
      (free_count h.nodes) h.nodes.head
  unfolding node_chain
  node_chain_found = chain_found _ _ _ _ (λ i. free_node_rules h ws i (node_of ws i)) (free_count h.nodes) h.nodes.head

  pub node_chain_passes : Clean h ws → (xs : List ℕ) → length xs ≡ free_count h.nodes → NodeChain h ws xs → node_chain h ws ≡ true
  unfolding node_chain
  node_chain_passes clean xs e c =
      rw (← e)
      (chain_passes (node_free h ws) (λ i. FreeNode h i (node_of ws i)) (node_next ws) h.nodes.bump
      (λ i low high f. free_node_passes h ws i (node_of ws i) (clean i low high) f) h.nodes.head xs c)

module _ (n : ℕ) (h : Header) (ws : List ℕ) where
  pub value_chain_found : value_chain n h ws ≡ true
      → Found (value_free n h ws) (λ j. FreeValue h j (value_record_of n ws j)) (value_next n ws) h.values.bump
      (free_count h.values) h.values.head
  unfolding value_chain
  value_chain_found =
      chain_found _ _ _ _ (λ j. free_value_rules h j (value_record_of n ws j)) (free_count h.values) h.values.head

  pub value_chain_passes : (xs : List ℕ) → length xs ≡ free_count h.values → ValueChain n h ws xs → value_chain n h ws ≡ true
  unfolding value_chain
  value_chain_passes xs e c =
      rw (← e)
      (chain_passes (value_free n h ws) (λ j. FreeValue h j (value_record_of n ws j)) (value_next n ws) h.values.bump
      (λ j low high f. free_value_passes h j (value_record_of n ws j) f) h.values.head xs c)
