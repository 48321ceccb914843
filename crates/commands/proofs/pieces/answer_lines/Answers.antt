-- `pieces::answer_lines` meets its contract.
use mathlib.Core.Path.{refl}
use Prim.Native.Nat.{◌+◌}
use native.Mathlib.Omega.{arith}
use lib.ListN.{length}
use Rattle.commands.specs.Pieces.{part, part_none, part_line, no_end_part, lf_found, lf_none, fed_none, fed_more, stopped_none, stopped_more}
use Rattle.commands.proofs.pieces.answer_lines.Goals as goal

pub loop-out-init : goal.loop-out-init
loop-out-init c = (omega arith, omega arith, omega arith, refl, refl, fed_none (part c.args.from c.args.from c.args.buf.now) (part_none c.args.from c.args.buf.now), stopped_none)

pub loop-out-preserved : goal.loop-out-preserved
loop-out-preserved c =
    let buf = c.args.buf.now in
    let from = c.args.from in
    let start = c.loop-out.start in
    let stop = start + c.in-Some.size in
    let lf = lf_found buf start c.args.end c.in-Some.size (omega arith) (omega arith) c.in-Some.ensures in
    let on = no_end_part buf start stop (omega arith) (omega arith) lf.2 in (
      omega arith,
      omega arith,
      omega arith,
      omega arith,
      omega arith,
      fed_more (part from (stop + 1) buf) (part_line from start stop buf (omega arith) (omega arith) (omega arith) lf.1) on c.loop-out.invariant.5 c.ended-place.ensures.line,
      stopped_more buf from start stop (length c.args.out.now) (omega arith) (omega arith) lf.1 on (omega arith) c.loop-out.invariant.5,
    )

pub returns-in_default-clause-left : goal.returns-in_default-clause-left
returns-in_default-clause-left c = λ room. lf_none c.args.buf.now c.loop-out.start c.args.end (omega arith) (omega arith) c.in_default.ensures
