-- `tests::header_ok` meets its contract. Assumes nothing.
use Rattle.inspection.specs.Tests.{header_ok}
use Rattle.inspection.proofs.tests.header_ok.Goals as goal

pub returns-then-arena_ok : goal.returns-then-arena_ok
unfolding header_ok
returns-then-arena_ok c = simp (← c.counts_ok.ensures, c.if-counts_ok.true, ← c.arena_ok.ensures, c.if-arena_ok.true, ← c.arena_ok-then-arena_ok.ensures)

pub returns-else-arena_ok : goal.returns-else-arena_ok
unfolding header_ok
returns-else-arena_ok c = simp (← c.counts_ok.ensures, c.if-counts_ok.true, ← c.arena_ok.ensures, c.if-arena_ok.false)

pub returns-else-counts_ok : goal.returns-else-counts_ok
unfolding header_ok
returns-else-counts_ok c = simp (← c.counts_ok.ensures, c.if-counts_ok.false)
