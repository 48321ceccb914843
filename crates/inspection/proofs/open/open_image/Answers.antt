-- `inspection::open::open_image` meets its contract. Assumes nothing.
use mathlib.Core.Path.{sym, ◌∙◌}
use Rattle.inspection.specs.Opening.{open_of}
use Rattle.inspection.proofs.open.open_image.Goals as goal

pub open_shaped-requires : goal.open_shaped-requires
open_shaped-requires c = sym c.is_image.ensures ∙ c.if-is_image.true

pub returns-then-is_image : goal.returns-then-is_image
unfolding open_of
returns-then-is_image c = simp (← c.is_image.ensures, c.if-is_image.true, c.open_shaped.ensures)

pub returns : goal.returns
unfolding open_of
returns c = simp (← c.is_image.ensures, c.if-is_image.false)
