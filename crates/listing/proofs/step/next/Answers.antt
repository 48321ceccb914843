-- `step::next` meets its contract: the front's step. Assumes nothing.
use Rattle.records.specs.Layout.{image_of}
use mathlib.Core.Bool.{false}
use Rattle.listing.specs.Ends.{end_step_lem}
use Rattle.listing.proofs.step.next.Goals as goal

pub returns : goal.returns
returns c = simp (end_step_lem c.args.n (image_of c.args.img.now) c.args.p false c.args.m, ← c.step-r.ensures)
