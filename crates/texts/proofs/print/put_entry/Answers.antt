-- `print::put_entry` meets its contract. Assumes nothing.
use Rattle.texts.specs.Put.{then}
use Rattle.texts.specs.Texts.{entry_text}
use Rattle.texts.proofs.print.put_entry.Goals as goal

pub returns-clause-text : goal.returns-clause-text
unfolding entry_text
returns-clause-text c = then (then c.put_pair-a.ensures.text c.put_text-b.ensures.text) c.put_value.ensures.text
