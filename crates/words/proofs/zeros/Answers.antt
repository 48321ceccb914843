-- `words::zeros` meets its contract.
use Rattle.std.proofs.Common.{◌≡◌, ◌+◌, ◌-◌, sym, ap, ◌∙◌, arith}
use Rattle.words.specs.Words.{words, words_length}
use Rattle.words.specs.Zeros.{zeros_at, zeros_over, zeros_more, zeros_stop}
use Rattle.words.proofs.zeros.Goals as goal

pub loop-i-init : goal.loop-i-init
loop-i-init c =
    let all : c.args.at + c.args.many - c.args.at ≡ c.args.many = omega arith in
    ap (zeros_at (words c.args.bytes.now) c.args.at) all

pub returns-then-word_in-ne0 : goal.returns-then-word_in-ne0
returns-then-word_in-ne0 c =
    sym (zeros_stop (words c.args.bytes.now) c.loop-i.i _ (omega arith) (λ e. c.if-word_in-ne0.true (c.word_in.ensures ∙ e))) ∙ c.loop-i.invariant

pub loop-i-preserved : goal.loop-i-preserved
loop-i-preserved c =
    let s = c.args in
    let less : s.at + s.many - (c.loop-i.i + 1) ≡ s.at + s.many - c.loop-i.i - 1 = omega arith in
    ap (zeros_at (words s.bytes.now) (c.loop-i.i + 1)) less
    ∙ sym (zeros_more (words s.bytes.now) c.loop-i.i (s.at + s.many - c.loop-i.i) (omega arith) (sym c.word_in.ensures ∙ c.if-word_in-ne0.false))
    ∙ c.loop-i.invariant

pub returns : goal.returns
returns c =
    sym (zeros_over (words c.args.bytes.now) c.loop-i.i (c.args.at + c.args.many - c.loop-i.i) (omega (arith, words_length c.args.bytes.now))) ∙ c.loop-i.invariant
