-- `print::put_refusal` meets its contract. Assumes nothing.
use Rattle.std.proofs.Common.{◌≡◌, refl, arith}
use Rattle.records.specs.declared.Refusal.{Refusal}
use Rattle.records.specs.declared.Refusal.TheVariants as no
use Rattle.records.specs.Numbers.{refusal_number}
use Rattle.texts.specs.Texts.{refusal_text, bad_text}
use Rattle.texts.proofs.print.put_refusal.Goals as goal

-- any other refusal
other_text : (r : Refusal) → (r ≡ no.Full → ⊥) → (r ≡ no.Absent → ⊥) → refusal_text r ≡ bad_text
unfolding refusal_text refusal_number
other_text no.Shape f g = refl
other_text no.Damaged f g = refl
other_text no.Full f g = absurd (f refl)
other_text no.Absent f g = absurd (g refl)
other_text no.NotBlank f g = refl
other_text no.Cursor f g = refl

pub returns-in-Full-clause-text : goal.returns-in-Full-clause-text
unfolding refusal_text refusal_number
returns-in-Full-clause-text c = simp c.in-Full.is c.put_text.ensures.text

pub returns-in-Absent-clause-text : goal.returns-in-Absent-clause-text
unfolding refusal_text refusal_number
returns-in-Absent-clause-text c = simp c.in-Absent.is c.put_text-in-Absent.ensures.text

pub returns-in_default : goal.returns-in_default
unfolding refusal_text refusal_number
returns-in_default c = record { room = omega arith; text = simp (other_text c.args.why c.in_default.not-Full c.in_default.not-Absent) c.put_bad.ensures.text }
