-- `tests::cut_plan` meets its contract, by what the visit of the sibling came to. Assumes nothing.
use mathlib.Core.Path.{refl, sym, ◌∙◌}
use Rattle.words.specs.Words.{words}
use Rattle.remove.specs.Plan.{sibling_child}
use Rattle.remove.specs.Beside.{above_unused, above_long, beside_leaf, beside_inner, beside_damaged}
use Rattle.remove.proofs.tests.cut_plan.Goals as goal

pub returns-in-Leaf : goal.returns-in-Leaf
returns-in-Leaf c =
    sym
    (beside_leaf c.args.image.now.h (words c.args.image.now.bytes.now) c.args.key c.args.i c.args.x
    c.args.v c.node_in-y.result c.child-s.result (sym c.is_used.ensures ∙ c.if-is_used.true)
    c.node_in-y.ensures (c.child-s.ensures ∙ simp c.bit.ensures (sibling_child c.args.key c.node_in-y.result)) c.if-y-lt128.true
    c.visit.result c.visit.ensures _ c.in-Leaf.is)

pub returns-then-kids_ok : goal.returns-then-kids_ok
returns-then-kids_ok c =
    sym
    (beside_inner c.args.image.now.h (words c.args.image.now.bytes.now) c.args.key c.args.i c.args.x
    c.args.v c.node_in-y.result c.child-s.result (sym c.is_used.ensures ∙ c.if-is_used.true)
    c.node_in-y.ensures (c.child-s.ensures ∙ simp c.bit.ensures (sibling_child c.args.key c.node_in-y.result)) c.if-y-lt128.true
    c.visit.result c.visit.ensures _ c.in-Inner.is
    ∙ simp (← c.kids_ok.ensures, c.if-kids_ok.true))

pub returns-else-kids_ok : goal.returns-else-kids_ok
returns-else-kids_ok c =
    sym
    (beside_inner c.args.image.now.h (words c.args.image.now.bytes.now) c.args.key c.args.i c.args.x
    c.args.v c.node_in-y.result c.child-s.result (sym c.is_used.ensures ∙ c.if-is_used.true)
    c.node_in-y.ensures (c.child-s.ensures ∙ simp c.bit.ensures (sibling_child c.args.key c.node_in-y.result)) c.if-y-lt128.true
    c.visit.result c.visit.ensures _ c.in-Inner.is
    ∙ simp (← c.kids_ok.ensures, c.if-kids_ok.false))

pub returns-in-Damaged : goal.returns-in-Damaged
returns-in-Damaged c =
    sym
    (beside_damaged c.args.image.now.h (words c.args.image.now.bytes.now) c.args.key c.args.i c.args.x
    c.args.v c.node_in-y.result c.child-s.result (sym c.is_used.ensures ∙ c.if-is_used.true)
    c.node_in-y.ensures (c.child-s.ensures ∙ simp c.bit.ensures (sibling_child c.args.key c.node_in-y.result)) c.if-y-lt128.true
    c.visit.result c.visit.ensures c.in-Damaged.is)

pub returns-else-y-lt128 : goal.returns-else-y-lt128
returns-else-y-lt128 c =
    sym
    (above_long c.args.image.now.h (words c.args.image.now.bytes.now) c.args.key c.args.i c.args.x c.args.v
    c.node_in-y.result _ (sym c.is_used.ensures ∙ c.if-is_used.true) c.node_in-y.ensures refl c.if-y-lt128.false)

pub returns-else-is_used : goal.returns-else-is_used
returns-else-is_used c = sym (above_unused c.args.image.now.h _ _ _ c.args.x _ (sym c.is_used.ensures ∙ c.if-is_used.false))
