-- `answer::answer_close` meets its contract. Assumes nothing.
use Rattle.std.proofs.Common.{◌≡◌, ℕ, refl, arith}
use Rattle.records.specs.declared.Refusal.{Refusal}
use Rattle.records.specs.declared.Refusal.TheVariants as no
use Rattle.records.specs.Numbers.{refusal_number}
use Rattle.texts.specs.Texts.{bad_text}
use Rattle.commands.specs.Answers.{close_text}
use Rattle.commands.proofs.answer.answer_close.Goals as goal

-- any refusal but that of the end
other_close : (r : Refusal) (k : ℕ) → (r ≡ no.Absent → ⊥) → close_text r k ≡ bad_text
unfolding close_text refusal_number
other_close no.Shape k f = refl
other_close no.Damaged k f = refl
other_close no.Full k f = refl
other_close no.Absent k f = absurd (f refl)
other_close no.NotBlank k f = refl
other_close no.Cursor k f = refl

pub returns-in-Absent-clause-text : goal.returns-in-Absent-clause-text
unfolding close_text refusal_number
returns-in-Absent-clause-text c = simp c.in-Absent.is c.put_end.ensures.text

pub returns-in_default : goal.returns-in_default
returns-in_default c = record { room = omega arith; text = simp (other_close c.args.why c.args.count c.in_default.not-Absent) c.put_bad.ensures.text }
