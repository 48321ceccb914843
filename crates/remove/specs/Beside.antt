-- The plan of a leaf below a node, by what the visit of its sibling comes to: a leaf, an inner node, whose children
-- are then tested, or damage.
use Rattle.std.specs.Prelude.{◌≡◌, List, true, false, cond, ◌&&◌, ℕ, ◌+◌, ◌≤◌, ◌<◌, Err, Ok}
use Rattle.std.proofs.Math.Path.{sym}
use Rattle.std.proofs.Common.{◌∙◌, inl, inr}
use borrow.Author.Tests.{lt-ltb, le-ltb}
use Rattle.keys.specs.declared.Key.{Key}
use Rattle.records.specs.declared.Header.{Header}
use Rattle.records.specs.declared.Node.{Node}
use Rattle.records.specs.declared.NodeIndex.{NodeIndex}
use Rattle.records.specs.declared.Value.{Value}
use Rattle.records.specs.declared.Refusal.TheVariants as no
use Rattle.records.specs.Records.{node_of}
use Rattle.inspection.specs.declared.Visited.{Visited}
use Rattle.inspection.specs.declared.Visited.TheVariants as visited
use Rattle.inspection.specs.Tests.{used_node, node_ok, kids_ok}
use Rattle.inspection.specs.Visit.{visit_of, came_through, came_node, came_leaf, came_damaged}
use Rattle.remove.specs.declared.Plan.TheVariants.{Cut}
use Rattle.remove.specs.Plan.{sibling_of, sibling_ok, cut_plan}

module _ (h : Header) (ws : List ℕ) (key : Key) (i : NodeIndex) (x : Node) (v : Value) where
  pub above_unused : used_node h x.parent.0 ≡ false → cut_plan h ws key i x v ≡ Err no.Damaged
  unfolding cut_plan
  above_unused u = simp u

  -- the node above, whose record is y, and its other child s
  module _ (y : Node) (s : NodeIndex) (used : used_node h x.parent.0 ≡ true) (above : y ≡ node_of ws x.parent.0) (other : s ≡ sibling_of key y) where
    pub above_long : 128 ≤ y.prefix → cut_plan h ws key i x v ≡ Err no.Damaged
    unfolding cut_plan sibling_ok
    above_long long = simp (used, ← above, le-ltb y.prefix 128 long)

    plan_is : y.prefix < 128
        → cut_plan h ws key i x v
        ≡ cond (node_ok h ws s.0 x.parent.0 (y.prefix + 1) && kids_ok h ws s.0 (node_of ws s.0)) (Ok (Cut h i x y s (node_of ws s.0) v)) (Err no.Damaged)
    unfolding cut_plan sibling_ok
    plan_is short = simp (used, ← above, ← other, lt-ltb y.prefix 128 short)

    module _ (short : y.prefix < 128) (o : Visited) (seen : o ≡ visit_of h ws s.0 x.parent.0 (y.prefix + 1)) where
      pub beside_leaf : (z : Node) → o ≡ visited.Leaf z → cut_plan h ws key i x v ≡ Ok (Cut h i x y s z v)
      unfolding kids_ok
      beside_leaf z came =
          let e = sym seen ∙ came in
          plan_is short
          ∙ rw (came_through h ws s.0 x.parent.0 (y.prefix + 1) z (inr e), ← came_node h ws s.0 x.parent.0 (y.prefix + 1) z (inr e), came_leaf h ws s.0 x.parent.0 (y.prefix + 1) z e)

      pub beside_inner : (z : Node) → o ≡ visited.Inner z → cut_plan h ws key i x v ≡ cond (kids_ok h ws s.0 z) (Ok (Cut h i x y s z v)) (Err no.Damaged)
      beside_inner z came =
          let e = sym seen ∙ came in
          plan_is short
          ∙ rw (came_through h ws s.0 x.parent.0 (y.prefix + 1) z (inl e), ← came_node h ws s.0 x.parent.0 (y.prefix + 1) z (inl e))

      pub beside_damaged : o ≡ visited.Damaged → cut_plan h ws key i x v ≡ Err no.Damaged
      beside_damaged came = plan_is short ∙ rw (came_damaged h ws s.0 x.parent.0 (y.prefix + 1) (sym seen ∙ came))
