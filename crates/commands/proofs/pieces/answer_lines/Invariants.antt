-- `pieces::answer_lines` meets its contract. The loop's invariant: the lines up to here are fed, and there was room for the last of them. The measure is how many bytes are left. Assumes nothing.
use mathlib.Core.Path.{◌≡◌}
use Prim.Native.Nat.{◌≤◌, ◌-◌}
use lib.ListN.{length}
use Rattle.commands.specs.Pieces.{Fed, Stopped, part}
use Rattle.commands.proofs.pieces.answer_lines.Given as goal

abbrev pub invariant-loop-out : goal.invariant-loop-out
invariant-loop-out l = (l.from ≤ l.start) × (l.start ≤ l.end) × (l.place ≤ length l.out) × (length l.out ≡ length l.initial.out) × (length l.img ≡ length l.initial.img) × Fed l.long (part l.from l.start l.buf) l.initial.img l.img l.initial.out l.out l.at l.place l.over × Stopped l.long l.buf l.initial.img l.from l.at (length l.initial.out) l.start l.over

abbrev pub decreases-loop-out : goal.decreases-loop-out
decreases-loop-out l = l.end - l.start
