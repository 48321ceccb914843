-- `answer::put_val` meets its contract. Assumes nothing.
use Rattle.texts.specs.Put.{then}
use Rattle.commands.specs.Answers.{val_text}
use Rattle.commands.proofs.answer.put_val.Goals as goal

pub returns-clause-text : goal.returns-clause-text
unfolding val_text
returns-clause-text c = then c.put_text-a.ensures.text c.put_value.ensures.text
