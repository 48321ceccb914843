-- `words::put` meets its contract. Assumes nothing.
use Rattle.std.proofs.Common.{◌≡◌, ◌+◌, ◌-◌, ◌%◌, ◌/◌, arith}
use Rattle.words.specs.Words.{put_word}
use Rattle.words.proofs.Parts.{put_four}
use Rattle.words.proofs.put.Goals as goal

pub returns : goal.returns
unfolding put_word
returns c =
    let s = c.args in
    let long : s.at + 4 - s.at ≡ 4 = omega arith in
    let last : s.v / 16777216 % 256 ≡ s.v / 16777216 = omega arith in
    simp (long, c.copy_from_slice.ensures.after, c.to_le_bytes.ensures, put_four s.at s.bytes.now (s.v % 256) (s.v / 256 % 256) (s.v / 65536 % 256) (s.v / 16777216) c.requires, last)
