-- `print::put_end` meets its contract. Assumes nothing.
use Rattle.texts.specs.Put.{then}
use Rattle.texts.specs.Texts.{end_text}
use Rattle.texts.proofs.print.put_end.Goals as goal

pub returns-clause-text : goal.returns-clause-text
unfolding end_text
returns-clause-text c = then (then c.put_text-a.ensures.text c.put_decimal-b.ensures.text) c.put_text.ensures.text
