-- `answer_input` meets its contract. Assumes nothing.
use Prim.Native.Nat.{◌≤◌}
use mathlib.Core.Path.{◌≡◌}
use lib.ListN.{length}
use Rattle.std.specs.Prelude.{unwrap_or}
use Rattle.logfringe.proofs.answer_input.Given as goal

abbrev pub invariant-loop : goal.invariant-loop
invariant-loop g l = (unwrap_or l.kept 0 ≤ 80) × (length l.buf ≡ length l.initial.buf) × (length l.out ≡ length l.initial.out) × (length l.img ≡ length l.initial.img)
