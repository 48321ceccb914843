-- `inspection::Image::node_ok` meets its contract. Assumes nothing.
use mathlib.Core.Path.{sym, ◌∙◌}
use mathlib.Core.Logic.{inl, inr}
use Rattle.words.specs.Words.{words}
use Rattle.inspection.specs.Visit.{came_through, came_damaged}
use Rattle.inspection.proofs.Image.node_ok.Goals as goal

pub returns-in-Inner : goal.returns-in-Inner
returns-in-Inner c = sym (came_through c.args.self.now.h (words c.args.self.now.bytes.now) c.args.i.0 c.args.above.0 c.args.low _ (inl (sym c.visit.ensures ∙ c.in-Inner.is)))

pub returns-in-Leaf : goal.returns-in-Leaf
returns-in-Leaf c = sym (came_through c.args.self.now.h (words c.args.self.now.bytes.now) c.args.i.0 c.args.above.0 c.args.low _ (inr (sym c.visit.ensures ∙ c.in-Leaf.is)))

pub returns-in-Damaged : goal.returns-in-Damaged
returns-in-Damaged c = sym (came_damaged c.args.self.now.h (words c.args.self.now.bytes.now) c.args.i.0 c.args.above.0 c.args.low (sym c.visit.ensures ∙ c.in-Damaged.is))
