-- `insert::tests::Opened::taken_node` meets its contract. Assumes nothing.
use borrow.Author.Tests.{lt-ltb, le-ltb}
use Rattle.insert.specs.Plan.{taken_node}
use Rattle.insert.proofs.tests.Opened.taken_node.Goals as goal

pub returns-then-i-h : goal.returns-then-i-h
unfolding taken_node
returns-then-i-h c = simp (lt-ltb _ _ c.if-i-h.true, c.free_node.ensures, c.node_in.ensures)

pub returns : goal.returns
unfolding taken_node
returns c = simp (le-ltb _ _ c.if-i-h.false, c.fresh_node.ensures)
