-- `feed` meets its contract.
use Rattle.std.proofs.Common.{◌≡◌, ℕ, ◌+◌, ◌-◌, ◌≤◌, List, [], ◌++◌, length, take, refl, sym, ap, ◌∙◌, append_assoc, append-nil, arith}
use Rattle.std.proofs.Math.Seq.{take-length}
use borrow.Rule.Slice.PartMut.{post_of}
use Rattle.std.specs.Prelude.{Bool, true, false, not, Option, Some, None, IfSome, unwrap_or}
use Rattle.std.specs.Slice.Iter.{chunks_rest, chunks_size}
use Rattle.std.specs.declared.slice.Chunks.{Chunks}
use Rattle.commands.specs.Feeding.{Sofar, sofar_none}
use Rattle.test_lines.specs.Feed.{laid, feed_more, feed_part, feed_last}
use Rattle.test_lines.proofs.feed.Goals as goal

-- the piece as `laid` has it, with nothing left of the buffer behind it
as_copied : (piece : List ℕ) → piece ≡ take (length piece) piece ++ []
as_copied piece = sym (append-nil (take (length piece) piece) ∙ take-length piece)

-- what is kept is at most 80 bytes
kept_few : (kept : Option ℕ) → IfSome kept (λ have. have ≤ 80) → unwrap_or kept 0 ≤ 80
kept_few None h = omega arith
kept_few (Some have) h = h

turned : (a b : Bool) → a ≡ not b → b ≡ not a
turned a true e = rw e refl
turned a false e = rw e refl

pub loop-piece-init : goal.loop-piece-init
loop-piece-init c =
    let same = c.into_iter-piece-iterator.ensures.into_iter_gives in
    let made = c.chunks-piece-items.ensures in
    (omega arith, omega arith, refl, refl, refl, ap (λ (s : Chunks ℕ). chunks_size s) same ∙ made.size, ([], sym (ap (λ (s : Chunks ℕ). chunks_rest s) same ∙ made.rest), sofar_none))

pub returns-then-out-at-lt16911-clause-full : goal.returns-then-out-at-lt16911-clause-full
returns-then-out-at-lt16911-clause-full c =
    let fed = c.loop-piece.invariant.6 in
    let have = c.unwrap_or-have.result in
    let buf = c.loop-piece.buf in
    let piece = c.in-Some.piece.now in
    let new = c.copy_from_slice.new.self in
    let behind = post_of have (have + length piece - have) buf in
    let steps = c.in-Some.ensures.steps in
    let whole : c.args.text.now ≡ fed.0 ++ (piece ++ chunks_rest c.next.new.self) = fed.1 ∙ ap (λ (l : List ℕ). fed.0 ++ l) steps.1.0 in
    let sofar : Sofar fed.0 c.args.img.now c.loop-piece.img c.args.out.now c.loop-piece.out buf have c.is_none.result c.loop-piece.at = rw (c.unwrap_or-have.ensures, turned _ _ c.is_none.ensures) fed.2 in
    let few : have ≤ length buf = omega arith in
    let is = laid buf piece new [] behind have (length piece) few refl (c.copy_from_slice.ensures.after ∙ as_copied piece) in
    (omega arith, feed_part piece sofar (take have buf ++ (new ++ behind)) is c.args.text.now (chunks_rest c.next.new.self) c.answer_lines-t.result.from whole few (omega arith) c.answer_lines-t.ensures.lines)

pub loop-piece-preserved : goal.loop-piece-preserved
loop-piece-preserved c =
    let fed = c.loop-piece.invariant.6 in
    let have = c.unwrap_or-have.result in
    let buf = c.loop-piece.buf in
    let piece = c.in-Some.piece.now in
    let new = c.copy_from_slice.new.self in
    let behind = post_of have (have + length piece - have) buf in
    let steps = c.in-Some.ensures.steps in
    let whole : c.args.text.now ≡ fed.0 ++ (piece ++ chunks_rest c.next.new.self) = fed.1 ∙ ap (λ (l : List ℕ). fed.0 ++ l) steps.1.0 in
    let sofar : Sofar fed.0 c.args.img.now c.loop-piece.img c.args.out.now c.loop-piece.out buf have c.is_none.result c.loop-piece.at = rw (c.unwrap_or-have.ensures, turned _ _ c.is_none.ensures) fed.2 in
    let few : have ≤ length buf = omega arith in
    let is = laid buf piece new [] behind have (length piece) few refl (c.copy_from_slice.ensures.after ∙ as_copied piece) in (
      kept_few c.keep-kept.result c.keep-kept.ensures.room,
      omega arith,
      omega arith,
      omega arith,
      omega arith,
      omega arith,
      (
        fed.0 ++ piece,
        whole ∙ sym (append_assoc fed.0 piece (chunks_rest c.next.new.self)),
        feed_more piece sofar (take have buf ++ (new ++ behind)) is c.answer_lines-t.result.from c.keep-kept.result c.keep-kept.new.buf (omega arith) (omega arith)
            (c.answer_lines-t.ensures.left (omega arith)) c.answer_lines-t.ensures.lines c.keep-kept.ensures.kept c.keep-kept.ensures.buffer,
      ),
    )

pub returns-clause-text : goal.returns-clause-text
returns-clause-text c =
    let fed = c.loop-piece.invariant.6 in
    let said = feed_last c.args.text.now (chunks_rest c.loop-piece.piece-iterator) fed.1 c.in-None.ensures.steps.1.0 fed.2 c.finish.ensures.text c.finish.ensures.image in
    said.0

pub returns-clause-image : goal.returns-clause-image
returns-clause-image c =
    let fed = c.loop-piece.invariant.6 in
    let said = feed_last c.args.text.now (chunks_rest c.loop-piece.piece-iterator) fed.1 c.in-None.ensures.steps.1.0 fed.2 c.finish.ensures.text c.finish.ensures.image in
    said.1
