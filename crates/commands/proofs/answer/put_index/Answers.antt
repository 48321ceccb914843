-- `answer::put_index` meets its contract. Assumes nothing.
use Rattle.texts.specs.Put.{then}
use Rattle.commands.specs.Answers.{place_text}
use Rattle.commands.proofs.answer.put_index.Goals as goal

pub returns-clause-text : goal.returns-clause-text
unfolding place_text
returns-clause-text c = then (then c.put_text-a.ensures.text c.put_decimal-b.ensures.text) c.put_text.ensures.text
