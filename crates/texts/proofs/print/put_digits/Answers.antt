-- `print::put_digits` meets its contract.
use Rattle.std.proofs.Common.{sym, ◌∙◌, arith}
use lib.ListN.{length-set}
use Rattle.texts.specs.Digits.{digits_length, digits_step, digits_end}
use Rattle.texts.proofs.print.put_digits.Goals as goal

pub loop-k-preserved : goal.loop-k-preserved
loop-k-preserved c = (simp length-set (omega arith), simp c.glyph.ensures (digits_step _ _ _ _ _ c.loop-k-test.true ∙ c.loop-k.invariant.1))

pub returns-clause-text : goal.returns-clause-text
returns-clause-text c = record { place = omega (arith, digits_length c.args.base c.args.many c.args.n); bytes = sym (digits_end _ _ _ _ _ (omega arith)) ∙ c.loop-k.invariant.1 }
