-- `digits::word_at` meets its contract. The loop's invariant: the bytes read so far are digits, and their number. Assumes nothing.
use Rattle.std.specs.Prelude.{◌≡◌, true}
use Rattle.texts.specs.Digits.{digits_at, value_at}
use Rattle.texts.proofs.digits.word_at.Given as goal

abbrev pub invariant-loop-b : goal.invariant-loop-b
invariant-loop-b l = (digits_at l.line l.at l.b-index ≡ true) × (l.value ≡ value_at l.line l.at l.b-index)
