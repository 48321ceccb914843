-- `count` is safe: as many lengths agree as were tried, at most. Assumes nothing.
use Rattle.std.proofs.Common.{◌<◌}
use Rattle.test_lines.proofs.count.Given as goal

abbrev pub invariant-loop-size : goal.invariant-loop-size
invariant-loop-size l = l.agreed < l.size
