-- `print::put_value` meets its contract. Assumes nothing.
use Rattle.texts.specs.Put.{then}
use Rattle.texts.specs.Texts.{value_text}
use Rattle.texts.proofs.print.put_value.Goals as goal

pub returns-clause-text : goal.returns-clause-text
unfolding value_text
returns-clause-text c = then c.put_pair-a.ensures.text c.put_text.ensures.text
