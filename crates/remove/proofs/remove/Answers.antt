-- `remove::remove` meets its contract. Assumes nothing.
use borrow.Author.Rules.{rules}
use Rattle.remove.proofs.Root.{done_image}
use Rattle.remove.proofs.remove.Goals as goal

pub returns-clause-image : goal.returns-clause-image
returns-clause-image c = done_image _ _ _ _ _ c.image_plan.ensures _ c.in_ok-plan.was _ (search rules) (search rules)
