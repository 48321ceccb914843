-- `insert::tests::Opened::leaf_tests` meets its contract. Assumes nothing.
use Rattle.insert.specs.Plan.{leaf_tests}
use Rattle.insert.proofs.tests.Opened.leaf_tests.Goals as goal

pub returns : goal.returns
unfolding leaf_tests
returns c = cc
