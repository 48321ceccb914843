-- `run` meets its contract. Assumes nothing.
use Rattle.std.proofs.Common.{arith}
use Rattle.test_lines.specs.Feed.{on_new}
use Rattle.test_lines.proofs.run.Goals as goal

pub returns-clause-text : goal.returns-clause-text
returns-clause-text c = on_new c.feed.result c.args.img.now c.args.text.now c.args.out.now c.feed.new.out (omega arith) c.clear.ensures c.start.ensures.image c.feed.ensures.text
