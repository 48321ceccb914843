-- `full_check::check` meets its contract: what lies behind the first M words is not lent to any function. Assumes nothing.
use mathlib.Core.Path.{sym, ◌∙◌}
use Prim.Native.Nat.{◌≤◌}
use native.Mathlib.Omega.{arith}
use lib.ListN.{length}
use Rattle.words.specs.Words.{words}
use Rattle.full_check.specs.Scratch.{first_long}
use Rattle.full_check.specs.Promises.{opened_scratch}
use Rattle.full_check.proofs.check.Goals as goal

pub returns-then-many-count-clause-scratch : goal.returns-then-many-count-clause-scratch
returns-then-many-count-clause-scratch c =
    let fits : c.args.m ≤ length (words c.args.scratch.now) = omega (arith, c.count.ensures, c.if-many-count.true) in
    opened_scratch c.args.m c.args.n _ c.args.scratch.now (sym c.is_image.ensures ∙ c.if-is_image.true) fits c.cleared_check.new.marks
    (c.cleared_check.auto.marks ∙ first_long c.args.m c.args.scratch.now fits) c.cleared_check.ensures.scratch
