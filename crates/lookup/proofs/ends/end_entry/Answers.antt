-- `lookup::ends::end_entry` meets its contract. Assumes nothing.
use Rattle.std.proofs.Common.{rules}
use Rattle.inspection.specs.Room.{opened_words}
use Rattle.lookup.specs.Ends.{end_entry, opened_entry, target_entry}
use Rattle.lookup.proofs.ends.end_entry.Goals as goal

pub returns-in_err-x : goal.returns-in_err-x
unfolding end_entry opened_entry target_entry
returns-in_err-x c = simp c.in_ok-image.ensures.ok.0 (simp (opened_words _ _ _ _ c.in_ok-image.ensures.ok.0, ← c.in_ok-image.ensures.ok.1, ← c.find_end.ensures) (search rules))
