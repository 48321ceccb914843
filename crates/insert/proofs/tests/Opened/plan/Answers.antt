-- `insert::tests::Opened::plan` meets its contract. Assumes nothing.
use borrow.Author.Tests.{eq-eqb, ne_eqb}
use Rattle.insert.specs.Plan.{stop_plan, insert_plan}
use Rattle.insert.proofs.tests.Opened.plan.Goals as goal

pub returns-then-h-self : goal.returns-then-h-self
unfolding insert_plan
returns-then-h-self c = simp (eq-eqb _ _ c.if-h-self.true)

pub returns-in-Parted : goal.returns-in-Parted
unfolding insert_plan
returns-in-Parted c = simp (ne_eqb _ _ c.if-h-self.false, ← c.find.ensures, c.in-Parted.is, c.split_plan.ensures)

pub returns-in-Leaf : goal.returns-in-Leaf
unfolding insert_plan
returns-in-Leaf c = simp (ne_eqb _ _ c.if-h-self.false, ← c.find.ensures, c.in-Leaf.is, c.replace_plan.ensures)

pub returns-in-Empty : goal.returns-in-Empty
unfolding insert_plan
returns-in-Empty c = simp (ne_eqb _ _ c.if-h-self.false, ← c.find.ensures, c.in-Empty.is, c.first_plan.ensures)

pub returns-in-Damaged : goal.returns-in-Damaged
unfolding insert_plan stop_plan
returns-in-Damaged c = simp (ne_eqb _ _ c.if-h-self.false, ← c.find.ensures, c.in-Damaged.is)
