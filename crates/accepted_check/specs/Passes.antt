-- The walk passes on a tree that the image holds: it reaches each node once, and marks each leaf's value record.
use Rattle.std.specs.Prelude.{◌≡◌, List, ◌++◌, Some, Bool, get_or}
use Rattle.std.proofs.Common.{sym, arith}
use Rattle.std.proofs.Math.Bool.{true, false}
use Prim.Native.Nat.{ℕ, zero, suc, ◌+◌, ◌-◌, ◌≤◌, ◌<◌}
use borrow.Author.Tests.{lt-ltb, eq-eqb, ne_eqb}
use Rattle.keys.specs.declared.Key.{Key}
use Rattle.records.specs.declared.Header.{Header}
use Rattle.records.specs.Records.{node_of, value_record_of}
use Rattle.full_check.specs.Walk.{Walk, visit_ok, leaf_walk, joined, walk_of}
use Rattle.lists.specs.Lists.{All, all_parts}
use Rattle.trees.specs.Tree.{Tree, leaf, inner, top, key_of, prefix_of, entries, Each, Side, Ordered}
use Rattle.trees.specs.Paths.{depth}
use Rattle.trees.specs.Values.{Entry}
use Rattle.accepted.specs.Rules.{Holds, Live}
use Rattle.accepted.specs.Accepted.{nodes_in}
use Rattle.accepted.specs.Tests.{live_passes}
use Rattle.accepted.specs.Held.{Clean, node_passes}
use Rattle.accepted_check.specs.Sides.{OnSide, side_passes, side_up}
use Rattle.accepted_check.specs.Marks.{marked, Fresh, marked_append, fresh_parts}

-- a walk that reached so many of `rest` nodes and marked these entries' records
abbrev pub ends : ℕ → List ℕ → ℕ → List Entry → Walk
ends rest marks many es = record { rest = Some (rest - many); marks = marked marks es }

-- each value record that they name passes as a leaf's
abbrev pub LiveAll : ℕ → List ℕ → List Entry → Type 0
LiveAll n ws es = All (λ e. Live (value_record_of n ws e.1)) es

-- the top's prefix length is at least `low`
pub top_rises : (h : Header) (ws : List ℕ) (parent low : ℕ) (t : Tree) → Holds h ws parent low t → low ≤ prefix_of t
unfolding Holds
top_rises h ws parent low (leaf i key v) k = k.rises
top_rises h ws parent low (inner i key p l r) k = k.rises

module _ (n : ℕ) (h : Header) (ws : List ℕ) (clean : Clean h ws) where
  top_key : (parent low : ℕ) (t : Tree) → Holds h ws parent low t → (node_of ws (top t)).key ≡ key_of t
  unfolding Holds
  top_key parent low (leaf i key v) k = rw k.here
  top_key parent low (inner i key p l r) k = rw k.here

  visit_passes : (rest parent low : ℕ) (key : Key) (right : Bool) (t : Tree) → Holds h ws parent low t
      → OnSide low key right (key_of t) → 0 < rest → visit_ok h ws rest (top t) parent low key right ≡ true
  unfolding visit_ok
  visit_passes rest parent low key right t k s some =
      rw (
        node_passes h ws clean parent low t k,
        side_passes low key right (node_of ws (top t)) (rw (top_key parent low t k) s),
        lt-ltb 0 rest some,
      )

  -- a child's key is on its side of the node above
  below_side : (i : ℕ) (a : Key) (p : ℕ) (b : Bool) (t : Tree) → Holds h ws i (p + 1) t → Ordered t → Each (Side a p b) t
      → OnSide (p + 1) a b (key_of t)
  below_side i a p b t k o s q z =
      let e : p ≡ q = omega arith in
      rw (← e) (side_up a p b t (omega (arith, top_rises h ws i (p + 1) t k)) o s)

  pub walk_passes : (fuel rest : ℕ) (marks : List ℕ) (parent low : ℕ) (key : Key) (right : Bool) (t : Tree)
      → depth t ≤ fuel → nodes_in t ≤ rest → Holds h ws parent low t → Ordered t → OnSide low key right (key_of t)
      → Fresh marks (entries t) → LiveAll n ws (entries t)
      → walk_of fuel n h ws rest marks (top t) parent low key right ≡ ends rest marks (nodes_in t) (entries t)
  unfolding walk_of leaf_walk joined Holds nodes_in
  walk_passes zero rest marks parent low key right (leaf i a v) d c k o s f live = absurd (omega arith)
  walk_passes zero rest marks parent low key right (inner i a p l r) d c k o s f live = absurd (omega arith)
  walk_passes (suc fuel) rest marks parent low key right (leaf i a v) d c k o s f live =
      rw (
        visit_passes rest parent low key right (leaf i a v) k s (omega arith),
        k.here,
        ne_eqb v 0 (λ z. omega (arith, k.value_some)),
        live_passes n ws i v live.0,
        eq-eqb (get_or marks (v - 1) 0) 0 f.0,
      )
  walk_passes (suc fuel) rest marks parent low key right (inner i a p l r) d c k o s f live =
      go
      (walk_passes fuel (rest - 1) marks i (p + 1) a false l (omega arith) (omega arith) k.on_left o.on_left
      (below_side i a p false l k.on_left o.on_left o.left) fresh.0 lives.0)
      (walk_passes fuel (rest - 1 - nodes_in l) (marked marks (entries l)) i (p + 1) a true r (omega arith) (omega arith)
      k.on_right o.on_right (below_side i a p true r k.on_right o.on_right o.right) fresh.1 lives.1)
    where
      fresh : Fresh marks (entries l) × Fresh (marked marks (entries l)) (entries r)
      fresh = fresh_parts marks (entries l) (entries r) f

      lives : LiveAll n ws (entries l) × LiveAll n ws (entries r)
      lives = all_parts (λ (e : Entry). Live (value_record_of n ws e.1)) (entries l) (entries r) live

      count : rest - 1 - nodes_in l - nodes_in r ≡ rest - (nodes_in l + nodes_in r + 1)
      count = omega arith

      marks_are : marked (marked marks (entries l)) (entries r) ≡ marked marks (entries l ++ entries r)
      marks_are = sym (marked_append marks (entries l) (entries r))

      go : walk_of fuel n h ws (rest - 1) marks (top l) i (p + 1) a false ≡ ends (rest - 1) marks (nodes_in l) (entries l)
          → walk_of fuel n h ws (rest - 1 - nodes_in l) (marked marks (entries l)) (top r) i (p + 1) a true
          ≡ ends (rest - 1 - nodes_in l) (marked marks (entries l)) (nodes_in r) (entries r)
          → walk_of (suc fuel) n h ws rest marks i parent low key right
          ≡ ends rest marks (nodes_in l + nodes_in r + 1) (entries l ++ entries r)
      go x y =
          rw (visit_passes rest parent low key right (inner i a p l r) k s (omega arith), k.here, x, y)
          (λ ι. record { rest = Some (count ι); marks = marks_are ι })
