-- `print::width` meets its contract. Assumes nothing.
use Rattle.std.proofs.Common.{sym, arith}
use Rattle.texts.specs.Digits.{width_of, width_is}
use Rattle.texts.proofs.print.width.Goals as goal

pub returns-in-Some : goal.returns-in-Some
returns-in-Some c =
    let is = c.in-Some.ensures in
    (sym (width_is c.args.n c.in-Some.k is.bound is.power_le is.next_power_gt), omega (arith, is.bound))

pub returns-in-None : goal.returns-in-None
unfolding width_of
returns-in-None c = simp c.in-None.ensures.none (omega arith)
