-- `inspection::Image::visit` meets its contract. Assumes nothing.
use mathlib.Core.Path.{sym, ◌∙◌}
use Rattle.words.specs.Words.{words}
use Rattle.inspection.specs.Visit.{visit_kind, visit_unused}
use Rattle.inspection.proofs.Image.visit.Goals as goal

pub returns-then-is_used : goal.returns-then-is_used
returns-then-is_used c = c.by_kind.ensures ∙ simp (c.node_in.ensures, c.padding_ok.ensures) (visit_kind c.args.self.now.h (words c.args.self.now.bytes.now) c.args.i.0 (sym c.is_used.ensures ∙ c.if-is_used.true) c.args.above.0 c.args.low)

pub returns : goal.returns
returns c = sym (visit_unused _ _ _ (sym c.is_used.ensures ∙ c.if-is_used.false) _ _)
