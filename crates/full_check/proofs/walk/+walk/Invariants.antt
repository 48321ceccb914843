-- `full_check::walk::walk` meets its contract. The measure is 129 less the least prefix length that a node may have, which rises from a node to its children. Assumes nothing.
use Rattle.std.proofs.Common.{◌-◌}
use Rattle.full_check.proofs.walk.+walk.Given as goal

abbrev pub decreases-walk : goal.decreases-walk
decreases-walk l = 129 - l.above.now.low
