-- `tests::free_value` meets its contract. Assumes nothing.
use Rattle.inspection.specs.Tests.{free_value}
use Rattle.inspection.proofs.tests.free_value.Goals as goal

pub returns : goal.returns
unfolding free_value
returns c = cc
