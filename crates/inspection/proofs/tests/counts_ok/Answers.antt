-- `tests::counts_ok` meets its contract: an empty map by itself, and a size above M fails before it is doubled, so that twice the size cannot wrap. Assumes nothing.
use mathlib.Core.Path.{◌≡◌, refl}
use mathlib.Core.Bool.{Bool, true, false, ◌&&◌}
use native.Mathlib.Omega.{arith}
use borrow.Author.Tests.{ne_eqb, le-leb, lt-leb}
use Rattle.inspection.specs.Tests.{counts_ok}
use Rattle.inspection.proofs.tests.counts_ok.Goals as goal

and_true : (a : Bool) → a && true ≡ a
and_true true = refl
and_true false = refl

pub returns-then-h-eq0 : goal.returns-then-h-eq0
unfolding counts_ok
returns-then-h-eq0 c = simp (c.if-h-eq0.true, le-leb 0 c.args.m (omega arith))

pub returns-then-h-m : goal.returns-then-h-m
unfolding counts_ok
returns-then-h-m c = simp (ne_eqb _ _ c.if-h-eq0.false, le-leb _ _ c.if-h-m.true, and_true)

pub returns : goal.returns
unfolding counts_ok
returns c = simp (lt-leb _ _ c.if-h-m.false)
