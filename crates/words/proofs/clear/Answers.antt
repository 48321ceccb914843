-- `words::clear` meets its contract. Assumes nothing.
use Rattle.std.proofs.Common.{◌≡◌, length, arith}
use Rattle.words.specs.Words.{words, words_length}
use Rattle.words.specs.Zeros.{clear_end}
use Rattle.words.proofs.clear.Goals as goal

pub returns : goal.returns
returns c =
    let l = c.loop-i in
    let before = c.args.bytes.now in
    let long : length (words l.bytes) ≡ length (words before) = omega (arith, words_length l.bytes, words_length before) in
    clear_end (words l.bytes) l.i (length (words before)) (omega arith) (omega arith) l.invariant
