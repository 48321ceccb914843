-- `insert::insert` meets its contract. Assumes nothing.
use borrow.Author.Rules.{rules}
use Rattle.insert.proofs.Root.{done_image}
use Rattle.insert.proofs.insert.Goals as goal

pub returns-clause-image : goal.returns-clause-image
returns-clause-image c = done_image _ _ _ _ _ c.plan.ensures _ c.in_ok-plan.was _ _ (search rules) (search rules)
