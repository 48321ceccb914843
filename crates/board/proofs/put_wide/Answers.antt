-- `board::put_wide` meets its contract. Assumes nothing.
use Rattle.std.proofs.Common.{◌≡◌, ◌+◌, ◌-◌, ◌%◌, ◌/◌, arith}
use Rattle.words.specs.Words.{put_word}
use Rattle.board.specs.Output.{put_wide}
use Rattle.board.proofs.Parts.{put_eight}
use Rattle.board.proofs.put_wide.Goals as goal

pub returns : goal.returns
unfolding put_wide put_word
returns c =
    let s = c.args in
    let long : s.at + 8 - s.at ≡ 8 = omega arith in
    let b0 : s.v % 4294967296 % 256 ≡ s.v % 256 = omega arith in
    let b1 : s.v % 4294967296 / 256 % 256 ≡ s.v / 256 % 256 = omega arith in
    let b2 : s.v % 4294967296 / 65536 % 256 ≡ s.v / 65536 % 256 = omega arith in
    let b3 : s.v % 4294967296 / 16777216 ≡ s.v / 16777216 % 256 = omega arith in
    let b5 : s.v / 4294967296 / 256 % 256 ≡ s.v / 1099511627776 % 256 = omega arith in
    let b6 : s.v / 4294967296 / 65536 % 256 ≡ s.v / 281474976710656 % 256 = omega arith in
    let b7 : s.v / 4294967296 / 16777216 ≡ s.v / 72057594037927936 % 256 = omega arith in
    simp (long, c.copy_from_slice.ensures.after, c.to_le_bytes.ensures, put_eight s.at s.out.now (s.v % 256) (s.v / 256 % 256) (s.v / 65536 % 256) (s.v / 16777216 % 256) (s.v / 4294967296 % 256) (s.v / 1099511627776 % 256) (s.v / 281474976710656 % 256) (s.v / 72057594037927936 % 256) c.requires, b0, b1, b2, b3, b5, b6, b7)
