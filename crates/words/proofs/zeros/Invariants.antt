-- `words::zeros` meets its contract. The loop's invariant: the run that is left is 0 exactly if the whole one is. Assumes nothing.
use mathlib.Core.Path.{◌≡◌}
use Prim.Native.Nat.{◌+◌, ◌-◌}
use Rattle.words.specs.Words.{words}
use Rattle.words.specs.Zeros.{zeros_at}
use Rattle.words.proofs.zeros.Given as goal

abbrev pub invariant-loop-i : goal.invariant-loop-i
invariant-loop-i l = zeros_at (words l.bytes) l.i (l.at + l.many - l.i) ≡ zeros_at (words l.bytes) l.at l.many
