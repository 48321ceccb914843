-- `print::put_digits` meets its contract. The loop's invariant: the digits that are left, put over what is stored so far, make the whole text. Assumes nothing.
use mathlib.Core.Path.{◌≡◌}
use Rattle.std.specs.Prelude.{length}
use Rattle.texts.specs.Put.{put}
use Rattle.texts.specs.Digits.{digits}
use Rattle.texts.proofs.print.put_digits.Given as goal

abbrev pub invariant-loop-k : goal.invariant-loop-k
invariant-loop-k l = (length l.out ≡ length l.initial.out) × (put l.out l.at (digits l.base l.k l.rest) ≡ put l.initial.out l.at (digits l.base l.many l.n))
