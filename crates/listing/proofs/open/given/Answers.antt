-- `listing::open::given` meets its contract. Assumes nothing.
use borrow.Author.Tests.{eq-eqb, ne_eqb}
use Rattle.listing.specs.Ends.{given_of}
use Rattle.listing.proofs.open.given.Goals as goal

pub returns-then-x-other : goal.returns-then-x-other
unfolding given_of
returns-then-x-other c = simp (c.in-Leaf.is, eq-eqb _ _ c.if-x-other.true)

pub returns-else-x-other : goal.returns-else-x-other
unfolding given_of
returns-else-x-other c = simp (c.in-Leaf.is, ne_eqb _ _ c.if-x-other.false, c.live_given.ensures, c.live_value.ensures)

pub returns-in-Inner : goal.returns-in-Inner
unfolding given_of
returns-in-Inner c = simp (c.in-Inner.is, c.stopped.ensures)

pub returns-in-Damaged : goal.returns-in-Damaged
unfolding given_of
returns-in-Damaged c = simp (c.in-Damaged.is, c.stopped-in-Damaged.ensures)
