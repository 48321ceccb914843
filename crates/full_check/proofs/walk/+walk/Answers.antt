-- `full_check::walk::walk` meets its contract: what a walk of the left half comes to. Assumes nothing.
use mathlib.Core.Path.{sym, ◌∙◌}
use Rattle.words.specs.Words.{words}
use Rattle.full_check.specs.Walked.{walked, left_failed, both}
use Rattle.full_check.proofs.walk.+walk.Goals as goal

pub returns-in_err-more-in-Inner : goal.returns-in_err-more-in-Inner
returns-in_err-more-in-Inner t c =
    rw (c.from_residual.ensures ∙ sym c.in_err-more-in-Inner.was)
    (left_failed c.args.ground.now.n c.args.ground.now.image.h (words c.args.ground.now.image.bytes.now) c.args.rest (words c.args.marks.now) c.args.i.0 c.args.above.now.at.0 c.args.above.now.low c.args.above.now.key c.args.above.now.right c.args.above.now.deep _
    (sym c.in_order.ensures ∙ c.if-in_order.true) (sym c.visit.ensures ∙ c.in-Inner.is)
    (walked c.walk.result (words c.walk.new.marks)) c.walk.ensures c.in_err-more-in-Inner.was)

pub returns-then-in_order : goal.returns-then-in_order
returns-then-in_order t c =
    both c.args.ground.now.n c.args.ground.now.image.h (words c.args.ground.now.image.bytes.now) c.args.rest (words c.args.marks.now) c.args.i.0 c.args.above.now.at.0 c.args.above.now.low c.args.above.now.key c.args.above.now.right c.args.above.now.deep _
    (sym c.in_order.ensures ∙ c.if-in_order.true) (sym c.visit.ensures ∙ c.in-Inner.is)
    (walked c.walk.result (words c.walk.new.marks)) c.walk.ensures _ c.in_ok-more-in-Inner.was
    (walked c.walk-then-in_order.result (words c.walk-then-in_order.new.marks)) c.walk-then-in_order.ensures
