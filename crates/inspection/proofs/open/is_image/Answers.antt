-- `open::is_image` meets its contract: a buffer holds as many words as M and N ask for exactly if it has four times as many bytes. Assumes nothing.
use mathlib.Core.Path.{◌∙◌}
use Rattle.inspection.specs.Room.{bytes_shape}
use Rattle.inspection.proofs.open.is_image.Goals as goal

pub returns : goal.returns
returns c = c.shape_ok.ensures ∙ bytes_shape c.args.m c.args.n c.args.img.now
