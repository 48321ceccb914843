-- `inspection::open::blank_image` meets its contract. Assumes nothing.
use mathlib.Core.Path.{sym, ◌∙◌}
use Rattle.inspection.specs.Room.{image_words}
use Rattle.inspection.specs.Opening.{blank_of}
use Rattle.inspection.proofs.open.blank_image.Goals as goal

pub returns-then-zeros : goal.returns-then-zeros
unfolding blank_of
returns-then-zeros c = simp (← c.is_image.ensures, c.if-is_image.true) (simp (image_words c.args.m c.args.n c.args.img.now (sym c.is_image.ensures ∙ c.if-is_image.true), ← c.count.ensures, ← c.zeros.ensures, c.if-zeros.true))

pub returns-then-is_image : goal.returns-then-is_image
unfolding blank_of
returns-then-is_image c = simp (← c.is_image.ensures, c.if-is_image.true) (simp (image_words c.args.m c.args.n c.args.img.now (sym c.is_image.ensures ∙ c.if-is_image.true), ← c.count.ensures, ← c.zeros.ensures, c.if-zeros.false))

pub returns : goal.returns
unfolding blank_of
returns c = simp (← c.is_image.ensures, c.if-is_image.false)
