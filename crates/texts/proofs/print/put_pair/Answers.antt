-- `print::put_pair` meets its contract. Assumes nothing.
use Rattle.texts.specs.Put.{then}
use Rattle.texts.specs.Texts.{pair_text}
use Rattle.texts.proofs.print.put_pair.Goals as goal

pub returns-clause-text : goal.returns-clause-text
unfolding pair_text
returns-clause-text c = then c.put_hex-a.ensures.text c.put_hex.ensures.text
