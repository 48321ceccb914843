-- `board::logfringe_check` meets its contract. Assumes nothing.
use Rattle.board.specs.Scratch.{board_check, scratch_bytes}
use Rattle.board.proofs.logfringe_check.Goals as goal

pub returns-clause-answer : goal.returns-clause-answer
unfolding board_check
returns-clause-answer c = simp (c.answer_number.ensures, c.check.ensures.answer)

pub returns-clause-scratch : goal.returns-clause-scratch
unfolding board_check
returns-clause-scratch c = scratch_bytes _ _ _ _ _ c.check.ensures.scratch
