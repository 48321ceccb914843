-- `listing::step::step` meets its contract. Assumes nothing.
use Rattle.std.specs.Prelude.{Ok}
use mathlib.Core.Path.{◌≡◌}
use Prim.Native.Nat.{◌-◌}
use Rattle.words.specs.Words.{words}
use Rattle.records.specs.Layout.{image_of}
use Rattle.listing.specs.Ends.{admit_of}
use Rattle.listing.specs.Laws.{reach_of, Opening}
use Rattle.listing.proofs.step.step.Given as goal

abbrev pub invariant-loop-wait : goal.invariant-loop-wait
invariant-loop-wait l = (admit_of l.m l.n (image_of l.img) l.ended l.s.count l.held ≡ Ok l.image.h) × Opening l.back l.image.h (words l.image.bytes.now) l.s l.places l.count l.i l.came

abbrev pub decreases-loop-wait : goal.decreases-loop-wait
decreases-loop-wait l = 129 - reach_of l.came
