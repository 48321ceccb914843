-- `answer_piece` meets its contract. The loop's invariant: what was read is passed. The measure is how much of the piece is left. Assumes nothing.
use Prim.Native.Nat.{◌≤◌, ◌-◌}
use mathlib.Core.Path.{◌≡◌}
use lib.ListN.{length}
use Rattle.commands.specs.Pieces.{part, PieceLeaves}
use Rattle.logfringe.proofs.answer_piece.Given as goal

abbrev pub invariant-loop-t : goal.invariant-loop-t
invariant-loop-t g l = (l.from ≤ length l.piece) × (length l.out ≡ length l.initial.out) × (length l.img ≡ length l.initial.img) × PieceLeaves l.long (part 0 l.from l.piece) l.initial.img l.img l.over

abbrev pub decreases-loop-t : goal.decreases-loop-t
decreases-loop-t g l = length l.piece - l.from
