-- `print::put_decimal` meets its contract. Assumes nothing.
use Rattle.texts.specs.Digits.{decimal_of}
use Rattle.texts.proofs.print.put_decimal.Goals as goal

pub returns-clause-text : goal.returns-clause-text
unfolding decimal_of
returns-clause-text c = simp (← c.width.ensures.0) c.put_digits.ensures.text
