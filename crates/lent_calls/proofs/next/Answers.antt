-- `next` meets its contract: what it calls says so.
use Rattle.lent.specs.Listings.{step_ran}
use Rattle.lent_calls.proofs.next.Goals as goal

pub returns : goal.returns
returns c = step_ran c.next.ensures
