-- `Image::kids_ok` meets its contract. Assumes nothing.
use borrow.Author.Tests.{eq-eqb, ne_eqb, lt-ltb, le-ltb}
use Rattle.inspection.specs.Tests.{kids_ok}
use Rattle.inspection.proofs.Image.kids_ok.Goals as goal

pub returns-then-x-lt128 : goal.returns-then-x-lt128
unfolding kids_ok
returns-then-x-lt128 c = simp (eq-eqb _ _ c.if-x-eq0.true, lt-ltb _ _ c.if-x-lt128.true, c.node_ok.ensures, c.node_ok-then-x-lt128.ensures)

pub returns-then-x-eq0 : goal.returns-then-x-eq0
unfolding kids_ok
returns-then-x-eq0 c = simp (eq-eqb _ _ c.if-x-eq0.true, le-ltb _ _ c.if-x-lt128.false)

pub returns : goal.returns
unfolding kids_ok
returns c = simp (ne_eqb _ _ c.if-x-eq0.false)
