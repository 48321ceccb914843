-- `answer::answer_entry` meets its contract. Assumes nothing.
use native.Mathlib.Omega.{arith}
use Rattle.commands.specs.Answers.{one_text}
use Rattle.commands.proofs.answer.answer_entry.Goals as goal

pub returns-in-Ok : goal.returns-in-Ok
unfolding one_text
returns-in-Ok c = record { room = omega arith; text = simp c.in-Ok.is c.put_entry.ensures.text }

pub returns-in-Err : goal.returns-in-Err
unfolding one_text
returns-in-Err c = record { room = omega arith; text = simp c.in-Err.is c.put_refusal.ensures.text }
