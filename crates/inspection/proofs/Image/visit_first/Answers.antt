-- `inspection::Image::visit_first` meets its contract. Assumes nothing.
use mathlib.Core.Path.{sym, ◌∙◌}
use Rattle.words.specs.Words.{words}
use Rattle.inspection.specs.Visit.{first_kind, first_unused}
use Rattle.inspection.proofs.Image.visit_first.Goals as goal

pub returns-then-is_used : goal.returns-then-is_used
returns-then-is_used c = c.by_kind.ensures ∙ simp (c.node_in-x.ensures, c.padding_ok.ensures) (first_kind c.args.self.now.h (words c.args.self.now.bytes.now) c.args.i.0 (sym c.is_used.ensures ∙ c.if-is_used.true))

pub returns : goal.returns
returns c = sym (first_unused _ _ _ (sym c.is_used.ensures ∙ c.if-is_used.false))
