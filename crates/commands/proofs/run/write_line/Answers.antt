-- `run::write_line` meets its contract. Assumes nothing.
use native.Mathlib.Omega.{arith}
use Rattle.commands.specs.Answers.{done_text}
use Rattle.commands.proofs.run.write_line.Goals as goal

pub returns-in-Ok : goal.returns-in-Ok
unfolding done_text
returns-in-Ok c = record { room = omega arith; text = simp (← c.set.ensures.answer, c.in-Ok.is) c.put_text.ensures.text; image = c.set.ensures.image }

pub returns-in-Err : goal.returns-in-Err
unfolding done_text
returns-in-Err c = record { room = omega arith; text = simp (← c.set.ensures.answer, c.in-Err.is) c.put_refusal.ensures.text; image = c.set.ensures.image }
