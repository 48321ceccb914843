-- `board::logfringe_get` meets its contract. Assumes nothing.
use Rattle.std.specs.Prelude.{Result}
use Rattle.std.proofs.Common.{sym, ap, ◌∙◌}
use Rattle.records.specs.declared.Value.{Value}
use Rattle.records.specs.declared.Refusal.{Refusal}
use Rattle.records.specs.Layout.{image_of}
use Rattle.records.specs.Numbers.{answer_number, refusal_number}
use Rattle.board.specs.Output.{output_after, long_enough, too_short}
use Rattle.board.proofs.logfringe_get.Goals as goal

pub returns-then-out-lt16 : goal.returns-then-out-lt16
unfolding output_after answer_number refusal_number
returns-then-out-lt16 c =
    let short = sym (too_short c.args.m c.args.n (image_of c.args.img.now) (record { high = c.args.high; low = c.args.low }) c.args.out.now c.if-out-lt16.true) in
    record { answer = c.number.ensures ∙ ap answer_number short; output = ap (λ (a : Result Value Refusal). output_after a c.args.out.now) short }

pub returns : goal.returns
returns c =
    let same = c.get.ensures ∙ sym (long_enough c.args.m c.args.n _ _ c.args.out.now c.if-out-lt16.false) in
    record { answer = c.give.ensures.answer ∙ ap answer_number same; output = c.give.ensures.output ∙ ap (λ (a : Result Value Refusal). output_after a c.args.out.now) same }
