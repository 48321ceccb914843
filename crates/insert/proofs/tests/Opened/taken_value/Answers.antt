-- `insert::tests::Opened::taken_value` meets its contract. Assumes nothing.
use borrow.Author.Tests.{lt-ltb, le-ltb, le-leb, lt-leb}
use Rattle.node_allocator.specs.Layout.{record_at, width_of}
use Rattle.insert.specs.Plan.{taken_value}
use borrow.Author.Rules.{rules}
use Rattle.insert.proofs.tests.Opened.taken_value.Goals as goal

pub returns-then-j-h : goal.returns-then-j-h
unfolding taken_value
returns-then-j-h c = simp (lt-ltb _ _ c.if-j-h.true, c.free_value.ensures, c.value_record.ensures)

pub never_used-requires : goal.never_used-requires
unfolding record_at width_of
never_used-requires c = search rules

pub returns-then-j-self : goal.returns-then-j-self
unfolding taken_value
returns-then-j-self c = simp (le-ltb _ _ c.if-j-h.false, le-leb _ _ c.if-j-self.true, c.never_used.ensures)

pub returns : goal.returns
unfolding taken_value
returns c = simp (le-ltb _ _ c.if-j-h.false, lt-leb _ _ c.if-j-self.false)
