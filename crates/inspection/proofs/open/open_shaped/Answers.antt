-- `inspection::open::open_shaped` meets its contract. Assumes nothing.
use native.Mathlib.Omega.{arith}
use Rattle.inspection.specs.Room.{shaped, image_words}
use Rattle.inspection.specs.Tests.{top_ok}
use Rattle.inspection.specs.Opening.{open_shaped}
use Rattle.inspection.proofs.open.open_shaped.Goals as goal

pub header_in-h-requires : goal.header_in-h-requires
header_in-h-requires c = simp (← image_words c.args.m c.args.n c.args.img.now c.requires) (omega (arith, (shaped c.args.m c.args.n _ c.requires).words))

pub padding_clean-requires : goal.padding_clean-requires
padding_clean-requires c = simp (← image_words c.args.m c.args.n c.args.img.now c.requires) (omega (arith, (shaped c.args.m c.args.n _ c.requires).words))

pub returns-then-header_ok : goal.returns-then-header_ok
unfolding open_shaped top_ok
returns-then-header_ok c = simp (image_words c.args.m c.args.n c.args.img.now c.requires, ← c.header_in-h.ensures, ← c.padding_clean.ensures, c.if-padding_clean.true, ← c.header_ok.ensures, c.if-header_ok.true)

pub returns-else-header_ok : goal.returns-else-header_ok
unfolding open_shaped top_ok
returns-else-header_ok c = simp (image_words c.args.m c.args.n c.args.img.now c.requires, ← c.header_in-h.ensures, ← c.padding_clean.ensures, c.if-padding_clean.true, ← c.header_ok.ensures, c.if-header_ok.false)

pub returns-else-padding_clean : goal.returns-else-padding_clean
unfolding open_shaped top_ok
returns-else-padding_clean c = simp (image_words c.args.m c.args.n c.args.img.now c.requires, ← c.padding_clean.ensures, c.if-padding_clean.false)
