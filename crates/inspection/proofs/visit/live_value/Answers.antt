-- `inspection::visit::live_value` meets its contract. Assumes nothing.
use Rattle.inspection.specs.Tests.{live_value}
use Rattle.inspection.specs.Visit.{live_of}
use Rattle.inspection.proofs.visit.live_value.Goals as goal

pub returns-then-r : goal.returns-then-r
unfolding live_of live_value
returns-then-r c = simp (← c.value_record-r.ensures, c.if-r.true)

pub returns : goal.returns
unfolding live_of live_value
returns c = simp (← c.value_record-r.ensures, c.if-r.false)
