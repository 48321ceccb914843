-- `list` meets its contract: what it calls says so.
use Rattle.lent.specs.Listings.{made_ran}
use Rattle.lent_calls.proofs.list.Goals as goal

pub returns : goal.returns
returns c = made_ran c.list.ensures
