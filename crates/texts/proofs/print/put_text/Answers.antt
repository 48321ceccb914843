-- `print::put_text` meets its contract. Assumes nothing.
use Rattle.std.proofs.Common.{refl, ◌≡◌, ◌+◌, ◌-◌, length, append_assoc, drop-drop, arith}
use Rattle.texts.specs.Put.{put_parts}
use Rattle.texts.proofs.print.put_text.Goals as goal

pub returns-clause-text : goal.returns-clause-text
returns-clause-text c =
    let long : c.args.at + length c.args.text.now - c.args.at ≡ length c.args.text.now = omega arith in
    record {
      place = refl;
      bytes = rw (long, c.copy_from_slice.ensures.after, put_parts c.args.out.now c.args.at c.args.text.now (omega arith)) (simp (append_assoc, drop-drop));
    }
