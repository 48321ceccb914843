-- `run::insert_line` meets its contract. Assumes nothing.
use native.Mathlib.Omega.{arith}
use Rattle.commands.specs.Answers.{place_text}
use Rattle.commands.proofs.run.insert_line.Goals as goal

pub returns-in-Ok : goal.returns-in-Ok
returns-in-Ok c = record { room = omega arith; text = simp (← c.insert.ensures.answer, c.in-Ok.is) c.put_index.ensures.text; image = c.insert.ensures.image }

pub returns-in-Err : goal.returns-in-Err
unfolding place_text
returns-in-Err c = record { room = omega arith; text = simp (← c.insert.ensures.answer, c.in-Err.is) c.put_refusal.ensures.text; image = c.insert.ensures.image }
