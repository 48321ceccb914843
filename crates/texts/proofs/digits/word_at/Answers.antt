-- `digits::word_at` meets its contract.
use Rattle.std.proofs.Common.{◌≡◌, ◌<◌, ◌≤◌, ◌+◌, ℕ, List, length, get_or, refl, sym, ◌∙◌, ap, arith}
use Rattle.std.specs.List.{between}
use Rattle.std.proofs.lemmas.List.Edits.{get_or-between, length-between}
use Rattle.texts.specs.Digits.{is_digit, digits_at, value_at, digits_at_more, value_at_more, digits_at_not, digit_some, digit_none, digit_small, value_room}
use Rattle.texts.specs.Lines.{word_at}
use Rattle.texts.proofs.digits.word_at.Goals as goal

-- a byte of the word is one of the line
byte : (line : List ℕ) (at k : ℕ) → at + 16 ≤ length line → k < length (between at (at + 16) line)
    → (k < 16) × (get_or (between at (at + 16) line) k 0 ≡ get_or line (at + k) 0)
byte line at k h i =
    let within : k < 16 = omega (arith, length-between line at (at + 16) h) in
    (within, get_or-between line at (at + 16) k 0 (omega arith))

pub loop-b-init : goal.loop-b-init
unfolding digits_at value_at
loop-b-init c = (refl, refl)

pub overflow_mul-value : goal.overflow_mul-value
overflow_mul-value c =
    let read = byte c.args.line.now c.args.at c.loop-b.b-index c.requires c.loop-b-test.true in
    omega (arith, value_room c.args.line.now c.args.at c.loop-b.b-index read.0)

pub returns-in_err-value : goal.returns-in_err-value
unfolding word_at
returns-in_err-value c =
    let read = byte c.args.line.now c.args.at c.loop-b.b-index c.requires c.loop-b-test.true in
    let not = ap is_digit (sym read.1) ∙ digit_none _ c.in_err-value.ensures in
    simp (digits_at_not c.args.line.now c.args.at c.loop-b.b-index 16 read.0 not) c.from_residual.ensures

pub overflow_add-value : goal.overflow_add-value
overflow_add-value c =
    let read = byte c.args.line.now c.args.at c.loop-b.b-index c.requires c.loop-b-test.true in
    let said = digit_some _ _ c.in_ok-value.ensures in
    omega (arith, value_room c.args.line.now c.args.at c.loop-b.b-index read.0, said.1, digit_small)

pub loop-b-preserved : goal.loop-b-preserved
loop-b-preserved c =
    let read = byte c.args.line.now c.args.at c.loop-b.b-index c.requires c.loop-b-test.true in
    let said = digit_some _ _ c.in_ok-value.ensures in
    (simp (digits_at_more, ← read.1, said.0, c.loop-b.invariant.0), simp (value_at_more, ← read.1, ← said.1, c.loop-b.invariant.1))

pub returns : goal.returns
unfolding word_at
returns c =
    let all : c.loop-b.b-index ≡ 16 = omega (arith, length-between c.args.line.now c.args.at (c.args.at + 16)) in
    simp (← all, c.loop-b.invariant.0, c.loop-b.invariant.1)
