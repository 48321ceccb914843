-- What the code of the walk answers and leaves, as a `Walk`, and what its proof goes by: the ways in which a walk comes to its end at a node. Prefix lengths rise from a node to its
-- children and are at most 128, so that fuel which is enough at a node is enough below it.
use Rattle.std.specs.Prelude.{◌≡◌, List, Option, Some, None, Bool, true, false, ◌&&◌, ◌⊎◌, ltb}
use Rattle.std.proofs.Math.Path.{refl}
use Rattle.std.proofs.Common.{inl, inr, arith, pos_of_ne-zero, ltb-true}
use Prim.Native.Nat.{ℕ, zero, suc, ◌+◌, ◌-◌, ◌≤◌, ◌<◌}
use Rattle.std.proofs.lemmas.Bool.{eqb-false}
use Rattle.words.specs.Tests.{and_r}
use Rattle.keys.specs.declared.Key.{Key}
use Rattle.records.specs.declared.Header.{Header}
use Rattle.records.specs.declared.Node.{Node}
use Rattle.records.specs.Records.{node_of}
use Rattle.inspection.specs.declared.Visited.TheVariants as visited
use Rattle.inspection.specs.Tests.{node_ok}
use Rattle.inspection.specs.Visit.{visit_of, came_through, came_node, came_inner, came_leaf, came_damaged, visit_passed}
use Rattle.full_check.specs.Walk.{Walk, failed, side_ok, visit_ok, leaf_walk, joined, walk_of}

abbrev pub walked : Option ℕ → List ℕ → Walk
walked r marks = record { rest = r; marks = marks }

-- the walk comes to w with any fuel that is enough
abbrev pub WalksTo : ℕ → Header → List ℕ → ℕ → List ℕ → ℕ → ℕ → ℕ → Key → Bool → Walk → Type 0
WalksTo n h ws rest marks i above low key right w = (fuel : ℕ) → 129 ≤ fuel + low → w ≡ walk_of fuel n h ws rest marks i above low key right

-- ---- the end at a node

module _ (n : ℕ) (h : Header) (ws : List ℕ) (rest : ℕ) (marks : List ℕ) (i above low : ℕ) (key : Key) (right : Bool) where
  -- a node that does not pass as a visited node
  pub damaged : visit_of h ws i above low ≡ visited.Damaged → WalksTo n h ws rest marks i above low key right (failed marks)
  unfolding walk_of visit_ok
  damaged e zero k = refl
  damaged e (suc f) k = simp (came_damaged h ws i above low e)

  module _ (x : Node) (came : (visit_of h ws i above low ≡ visited.Inner x) ⊎ (visit_of h ws i above low ≡ visited.Leaf x)) where
    node : x ≡ node_of ws i
    node = came_node h ws i above low x came

    ok : node_ok h ws i above low ≡ true
    ok = came_through h ws i above low x came

    -- one that stands on the wrong side, or is not counted
    pub refused : side_ok low key right x && ltb 0 rest ≡ false → WalksTo n h ws rest marks i above low key right (failed marks)
    unfolding walk_of visit_ok
    refused e zero k = refl
    refused e (suc f) k = simp (ok, ← node, e)

  module _ (deep : low ≤ 128) (x : Node) (side : side_ok low key right x && ltb 0 rest ≡ true) where
    pub counted : 0 < rest
    counted = ltb-true 0 rest (and_r (side_ok low key right x) _ side)

    pub at_leaf : visit_of h ws i above low ≡ visited.Leaf x → (w : Walk) → w ≡ leaf_walk n ws (rest - 1) marks i x → WalksTo n h ws rest marks i above low key right w
    unfolding walk_of visit_ok
    at_leaf came w e zero k = absurd (omega arith)
    at_leaf came w e (suc f) k = simp (ok x (inr came), ← node x (inr came), side, came_leaf h ws i above low x came) e

    module _ (came : visit_of h ws i above low ≡ visited.Inner x) where
      pub below : (low ≤ x.prefix) × (x.prefix < 128)
      below = visit_passed h ws i above low x came

      module _ (l : Walk) (left : WalksTo n h ws (rest - 1) marks x.left.0 i (x.prefix + 1) x.key false l) where
        enough : (f : ℕ) → 129 ≤ suc f + low → 129 ≤ f + (x.prefix + 1)
        enough f k = omega (arith, below.0)

        pub left_failed : l.rest ≡ None → WalksTo n h ws rest marks i above low key right l
        unfolding walk_of visit_ok joined
        left_failed e zero k = absurd (omega arith)
        left_failed e (suc f) k = simp (ok x (inl came), ← node x (inl came), side, came_inner h ws i above low x came, ← left f (enough f k), e)

        pub both : (more : ℕ) → l.rest ≡ Some more → (r : Walk)
            → WalksTo n h ws more l.marks x.right.0 i (x.prefix + 1) x.key true r → WalksTo n h ws rest marks i above low key right r
        unfolding walk_of visit_ok joined
        both more e r right zero k = absurd (omega arith)
        both more e r right (suc f) k = simp (ok x (inl came), ← node x (inl came), side, came_inner h ws i above low x came, ← left f (enough f k), e, ← right f (enough f k))

-- prefix lengths rise from a node to its children, so that the measure of a walk falls
pub falls_below : (t low : ℕ) (x : Node) → t ≡ 129 - low → (low ≤ x.prefix) × (x.prefix < 128) → (129 - (x.prefix + 1) < t) × (x.prefix + 1 ≤ 128)
falls_below t low x e b = (omega (arith, e, b.0, b.1), omega (arith, b.1))

-- a leaf names a value record
pub leaf_names : (h : Header) (ws : List ℕ) (i above low : ℕ) (x : Node) → visit_of h ws i above low ≡ visited.Leaf x → 1 ≤ x.value.0
leaf_names h ws i above low x e =
    let d = eqb-false x.value.0 0 (came_leaf h ws i above low x e) in
    pos_of_ne-zero d
