-- `inspection::tests::free_node` meets its contract. Assumes nothing.
use Rattle.inspection.specs.Tests.{free_node}
use Rattle.inspection.proofs.tests.free_node.Goals as goal

pub returns : goal.returns
unfolding free_node
returns c = cc
