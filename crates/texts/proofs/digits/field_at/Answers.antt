-- `digits::field_at` meets its contract. Assumes nothing.
use Rattle.texts.specs.Lines.{both, field_at}
use Rattle.texts.proofs.digits.field_at.Goals as goal

pub returns-in_err-first : goal.returns-in_err-first
unfolding both field_at
returns-in_err-first c = simp (← c.word_at.ensures, c.in_err-first.was) c.from_residual.ensures

pub returns-in_err-second : goal.returns-in_err-second
unfolding both field_at
returns-in_err-second c = simp (← c.word_at.ensures, ← c.word_at-2.ensures, c.in_ok-first.was, c.in_err-second.was) c.from_residual-in_err-second.ensures

pub returns : goal.returns
unfolding both field_at
returns c = simp (← c.word_at.ensures, ← c.word_at-2.ensures, c.in_ok-first.was, c.in_ok-second.was)
