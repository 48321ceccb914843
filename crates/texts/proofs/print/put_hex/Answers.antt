-- `print::put_hex` meets its contract: the digits of the two halves are the number's. Assumes nothing.
use Rattle.texts.specs.Put.{then, reads}
use Rattle.texts.specs.Digits.{digits_parts}
use Rattle.texts.proofs.print.put_hex.Goals as goal

pub returns-clause-text : goal.returns-clause-text
returns-clause-text c = reads (digits_parts 8 8 c.args.n) (then c.put_digits-a.ensures.text c.put_digits.ensures.text)
