-- `inspection::Image::root_ok` meets its contract. Assumes nothing.
use Rattle.inspection.specs.Tests.{root_ok}
use Rattle.inspection.proofs.Image.root_ok.Goals as goal

pub returns-then-is_used : goal.returns-then-is_used
unfolding root_ok
returns-then-is_used c = simp (← c.node_in-x.ensures, ← c.is_used.ensures, c.if-is_used.true)

pub returns : goal.returns
unfolding root_ok
returns c = simp (← c.is_used.ensures, c.if-is_used.false)
