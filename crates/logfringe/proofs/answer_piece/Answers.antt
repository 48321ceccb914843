-- `answer_piece` meets its contract.
use Prim.Native.Nat.{◌<◌}
use mathlib.Core.Path.{refl}
use native.Mathlib.Omega.{arith}
use Rattle.commands.specs.Pieces.{part, part_none, part_append, piece_none}
use Rattle.commands.specs.Feeding.{piece_more, fed_moves}
use Rattle.logfringe.proofs.answer_piece.Goals as goal

pub loop-t-init : goal.loop-t-init
loop-t-init g c = (omega arith, refl, refl, piece_none (part 0 0 c.args.piece.now) (part_none 0 c.args.piece.now))

pub returns-then-is_err-clause-image : goal.returns-then-is_err-clause-image
returns-then-is_err-clause-image g c =
    let stop = c.answer_lines-t.result.from in
    piece_more (part 0 stop c.args.piece.now) (part_append 0 c.loop-t.from stop c.args.piece.now (omega arith) (omega arith)) c.loop-t.invariant.3 c.answer_lines-t.ensures.lines.leaves

pub loop-t-smaller : goal.loop-t-smaller
loop-t-smaller g c =
    let on : c.loop-t.from < c.answer_lines-t.result.from = fed_moves c.args.piece.now c.loop-t.from c.answer_lines-t.result.from (omega arith) (omega arith) c.answer_lines-t.ensures.lines in
    omega arith

pub loop-t-preserved : goal.loop-t-preserved
loop-t-preserved g c =
    let stop = c.answer_lines-t.result.from in
    (omega arith, omega arith, omega arith, piece_more (part 0 stop c.args.piece.now) (part_append 0 c.loop-t.from stop c.args.piece.now (omega arith) (omega arith)) c.loop-t.invariant.3 c.answer_lines-t.ensures.lines.leaves)
