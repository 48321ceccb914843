-- `lookup::get::contains` meets its contract. Assumes nothing.
use Rattle.std.proofs.Common.{rules}
use Rattle.inspection.specs.Room.{opened_words}
use Rattle.lookup.specs.Get.{contains_of, opened_done, leaf_done}
use Rattle.lookup.proofs.get.contains.Goals as goal

pub returns-in_err-leaf : goal.returns-in_err-leaf
unfolding contains_of opened_done leaf_done
returns-in_err-leaf c = simp c.in_ok-image.ensures.ok.0 (simp (opened_words _ _ _ _ c.in_ok-image.ensures.ok.0, ← c.in_ok-image.ensures.ok.1, ← c.find.ensures, ← c.leaf.ensures, c.in_err-leaf.was) (search rules))
