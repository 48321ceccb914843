-- `words::clear` meets its contract. The loop's invariant: the words before place i are 0. Assumes nothing.
use mathlib.Core.Path.{◌≡◌}
use lib.ListN.{take, replicate}
use Rattle.words.specs.Words.{words}
use Rattle.words.proofs.clear.Given as goal

abbrev pub invariant-loop-i : goal.invariant-loop-i
invariant-loop-i l = take l.i (words l.bytes) ≡ replicate l.i 0
