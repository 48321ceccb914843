-- `insert::tests::Opened::fresh_node` meets its contract. Assumes nothing.
use borrow.Author.Rules.{rules}
use borrow.Author.Tests.{le-leb, lt-leb}
use Rattle.node_allocator.specs.Layout.{record_at, width_of}
use Rattle.insert.proofs.tests.Opened.fresh_node.Goals as goal

pub never_used-requires : goal.never_used-requires
unfolding record_at width_of
never_used-requires c = search rules

pub returns-then-i-self : goal.returns-then-i-self
returns-then-i-self c = simp (le-leb _ _ c.if-i-self.true, c.never_used.ensures)

pub returns : goal.returns
returns c = simp (lt-leb _ _ c.if-i-self.false)
