-- `feed` meets its contract. The loop's invariant: the text so far is answered, the line that has begun is held, and there is room for the longest answer. Assumes nothing.
use Rattle.std.proofs.Common.{◌≡◌, ◌+◌, ◌≤◌, List, ◌++◌, ℕ, length}
use Rattle.std.specs.Prelude.{unwrap_or, is_none}
use Rattle.std.specs.Slice.Iter.{chunks_rest, chunks_size}
use Rattle.commands.specs.Feeding.{Sofar}
use Rattle.test_lines.proofs.feed.Given as goal

abbrev pub invariant-loop-piece : goal.invariant-loop-piece
invariant-loop-piece l = (unwrap_or l.kept 0 ≤ 80) × (l.at + 16911 ≤ length l.out) × (length l.out ≡ length l.initial.out) × (length l.img ≡ length l.initial.img) × (length l.buf ≡ length l.initial.buf) × (chunks_size l.piece-iterator ≡ l.size) × ((fed : List ℕ) × (l.text ≡ fed ++ chunks_rest l.piece-iterator) × Sofar fed l.initial.img l.img l.initial.out l.out l.buf (unwrap_or l.kept 0) (is_none l.kept) l.at)
