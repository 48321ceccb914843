-- `pieces::ended` meets its contract. Assumes nothing.
use Rattle.commands.specs.Pieces.{ended_long}
use Rattle.commands.proofs.pieces.ended.Goals as goal

pub returns-then-long-clause-line : goal.returns-then-long-clause-line
returns-then-long-clause-line c = ended_long c.if-long.true c.put_bad.ensures.text
