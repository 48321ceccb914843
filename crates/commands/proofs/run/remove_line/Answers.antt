-- `run::remove_line` meets its contract. Assumes nothing.
use native.Mathlib.Omega.{arith}
use Rattle.commands.specs.Answers.{gone_text}
use Rattle.commands.proofs.run.remove_line.Goals as goal

pub returns-in-Ok : goal.returns-in-Ok
returns-in-Ok c = record { room = omega arith; text = simp (← c.remove.ensures.answer, c.in-Ok.is) c.put_gone.ensures.text; image = c.remove.ensures.image }

pub returns-in-Err : goal.returns-in-Err
unfolding gone_text
returns-in-Err c = record { room = omega arith; text = simp (← c.remove.ensures.answer, c.in-Err.is) c.put_refusal.ensures.text; image = c.remove.ensures.image }
