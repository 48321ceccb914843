-- `lookup::start::start` meets its contract. Assumes nothing.
use mathlib.Core.Path.{sym, ◌∙◌}
use Rattle.std.proofs.Common.{rules}
use Rattle.records.specs.Numbers.{answer_number}
use Rattle.inspection.specs.Room.{shaped_whole, image_words}
use Rattle.inspection.specs.Outcome.{wrote, left_alone}
use Rattle.lookup.specs.Start.{start_image, done_image, started_shaped}
use Rattle.lookup.proofs.start.start.Goals as goal

pub returns-in_err-blank_image-clause-image : goal.returns-in_err-blank_image-clause-image
unfolding start_image done_image
returns-in_err-blank_image-clause-image c = left_alone (simp (← c.blank_image.ensures, c.in_err-blank_image.was))

pub returns-clause-image : goal.returns-clause-image
unfolding start_image done_image answer_number
returns-clause-image c = wrote (shaped_whole c.args.m c.args.n c.args.img.now (started_shaped c.args.m c.args.n _ (sym c.blank_image.ensures ∙ c.in_ok-blank_image.was))) (search rules) (simp (← c.blank_image.ensures, c.in_ok-blank_image.was)) (simp (← c.blank_image.ensures, c.in_ok-blank_image.was) (simp (image_words c.args.m c.args.n c.args.img.now (started_shaped c.args.m c.args.n _ (sym c.blank_image.ensures ∙ c.in_ok-blank_image.was)), c.start_arenas.ensures)))
