-- `full_check::opened_check` meets its contract. Assumes nothing.
use Rattle.std.proofs.Common.{sym, ◌∙◌, rules}
use Rattle.inspection.specs.Room.{shaped_shut}
use Rattle.full_check.specs.Check.{opened_check}
use Rattle.full_check.proofs.opened_check.Goals as goal

pub returns-in_err-h : goal.returns-in_err-h
unfolding opened_check
returns-in_err-h c = simp (shaped_shut c.args.m c.args.n _ _ c.requires.1 (sym c.open_shaped.ensures ∙ c.in_err-h.was)) (search rules)
