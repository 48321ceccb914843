-- `inspection::tests::padding_ok` meets its contract. Assumes nothing.
use Rattle.inspection.specs.Tests.{padding_ok}
use Rattle.inspection.proofs.tests.padding_ok.Goals as goal

pub returns : goal.returns
unfolding padding_ok
returns c = cc
