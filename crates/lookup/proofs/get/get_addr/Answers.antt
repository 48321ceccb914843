-- `lookup::get::get_addr` meets its contract. Assumes nothing.
use Rattle.std.proofs.Common.{rules}
use Rattle.inspection.specs.Room.{opened_words}
use Rattle.lookup.specs.Get.{addr_of, opened_place, leaf_place}
use Rattle.lookup.proofs.get.get_addr.Goals as goal

pub returns-in_err-i : goal.returns-in_err-i
unfolding addr_of opened_place leaf_place
returns-in_err-i c = simp c.in_ok-image.ensures.ok.0 (simp (opened_words _ _ _ _ c.in_ok-image.ensures.ok.0, ← c.in_ok-image.ensures.ok.1, ← c.find.ensures, ← c.leaf.ensures, c.in_err-i.was) (search rules))
