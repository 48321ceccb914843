-- `lookup::get::set` meets its contract. Assumes nothing.
use mathlib.Core.Path.{sym, ◌∙◌}
use Rattle.std.proofs.Common.{rules, arith}
use Rattle.records.specs.Numbers.{answer_number}
use Rattle.inspection.specs.Room.{opened_whole, opened_words, opened_bytes}
use Rattle.inspection.specs.Outcome.{wrote, left_alone}
use Rattle.lookup.specs.Get.{write_of, write_image, target_done, target_image, target_opened}
use Rattle.lookup.proofs.get.set.Goals as goal

pub returns-in_err-i-clause-answer : goal.returns-in_err-i-clause-answer
unfolding write_of target_done
returns-in_err-i-clause-answer c = simp (← c.target.ensures, c.in_err-i.was) (search rules)

pub returns-in_err-i-clause-image : goal.returns-in_err-i-clause-image
unfolding write_of write_image target_done target_image
returns-in_err-i-clause-image c = left_alone (simp (← c.target.ensures, c.in_err-i.was))

pub set_value-requires : goal.set_value-requires
set_value-requires c = omega (arith, opened_bytes c.args.m c.args.n c.args.img.now _ (target_opened c.args.m c.args.n _ c.args.key _ _ _ (sym c.target.ensures ∙ c.in_ok-i.was)).1)

pub returns-clause-answer : goal.returns-clause-answer
unfolding write_of target_done
returns-clause-answer c = simp (← c.target.ensures, c.in_ok-i.was)

pub returns-clause-image : goal.returns-clause-image
unfolding write_of write_image target_done target_image answer_number
returns-clause-image c = wrote (opened_whole c.args.m c.args.n c.args.img.now _ (target_opened c.args.m c.args.n _ c.args.key _ _ _ (sym c.target.ensures ∙ c.in_ok-i.was)).1) (search rules) (simp (← c.target.ensures, c.in_ok-i.was)) (simp (← c.target.ensures, c.in_ok-i.was) (simp (opened_words c.args.m c.args.n c.args.img.now _ (target_opened c.args.m c.args.n _ c.args.key _ _ _ (sym c.target.ensures ∙ c.in_ok-i.was)).1, c.set_value.ensures, c.live_record.ensures)))
