-- `pieces::finish` meets its contract. Assumes nothing.
use native.Mathlib.Omega.{arith}
use mathlib.Core.Path.{◌≡◌, refl}
use Rattle.std.specs.Prelude.{◌≤◌, length, false}
use Rattle.records.specs.Layout.{image_of}
use Rattle.inspection.specs.Outcome.{left_alone}
use Rattle.texts.specs.Put.{reads, nothing}
use Rattle.commands.specs.Pieces.{part_front, leaves_as, ending_front, ending_none}
use Rattle.commands.proofs.pieces.finish.Goals as goal

pub returns-in-Some-eq0-clause-text : goal.returns-in-Some-eq0-clause-text
returns-in-Some-eq0-clause-text c =
    let said = ending_none 256 512 (image_of c.args.img.now) c.args.buf.now c.in-Some-eq0.field-0 false refl (omega arith) in
    simp c.in-Some-eq0.is (reads said.0 nothing)

pub returns-in-Some-eq0-clause-image : goal.returns-in-Some-eq0-clause-image
returns-in-Some-eq0-clause-image c =
    let said = ending_none 256 512 (image_of c.args.img.now) c.args.buf.now c.in-Some-eq0.field-0 false refl (omega arith) in
    simp c.in-Some-eq0.is (left_alone said.1)

pub returns-in-Some-clause-text : goal.returns-in-Some-clause-text
returns-in-Some-clause-text c =
    let some : c.in-Some.have ≡ 0 → ⊥ = rw c.in-Some.is at c.in-Some.have-test.1 in
    let within : c.in-Some.have ≤ length c.args.buf.now = rw c.in-Some.is at c.requires.0 in
    let said = ending_front 256 512 (image_of c.args.img.now) c.args.buf.now c.in-Some.have false refl (omega arith) within in
    simp c.in-Some.is (reads (rw part_front at said.0) c.line.ensures.text)

pub returns-in-Some-clause-image : goal.returns-in-Some-clause-image
returns-in-Some-clause-image c =
    let some : c.in-Some.have ≡ 0 → ⊥ = rw c.in-Some.is at c.in-Some.have-test.1 in
    let within : c.in-Some.have ≤ length c.args.buf.now = rw c.in-Some.is at c.requires.0 in
    let said = ending_front 256 512 (image_of c.args.img.now) c.args.buf.now c.in-Some.have false refl (omega arith) within in
    simp c.in-Some.is (leaves_as (rw part_front at said.2) (rw part_front at said.1) c.line.ensures.image)
