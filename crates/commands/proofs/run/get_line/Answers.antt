-- `run::get_line` meets its contract. Assumes nothing.
use native.Mathlib.Omega.{arith}
use Rattle.commands.specs.Answers.{val_text}
use Rattle.commands.proofs.run.get_line.Goals as goal

pub returns-in-Ok : goal.returns-in-Ok
returns-in-Ok c = record { room = omega arith; text = simp (← c.get.ensures, c.in-Ok.is) c.put_val.ensures.text }

pub returns-in-Err : goal.returns-in-Err
unfolding val_text
returns-in-Err c = record { room = omega arith; text = simp (← c.get.ensures, c.in-Err.is) c.put_refusal.ensures.text }
