-- What remove rewrites: the leaf, its parent, the sibling and the sibling's children, and one value record.
use Rattle.std.specs.Prelude.{List, [], ◌∷◌, ℕ, Err, Ok, Result}
use Rattle.std.proofs.Common.{arith}
use Rattle.records.specs.declared.Refusal.{Refusal}
use Rattle.keys.specs.declared.Key.{Key}
use Rattle.inspection.specs.Opening.{open_of}
use Rattle.remove.specs.declared.Plan.{Plan}
use Rattle.remove.specs.declared.Plan.TheVariants.{Lone, Cut}
use Rattle.remove.specs.Steps.{leaf_freed, lone_image, moved, place_freed, cut_image, plan_image, opened_plan, removed_image}
use Rattle.records_touched.specs.Stores.{Touched, touches, untouched, stores}

module _ (m n : ℕ) (ws : List ℕ) where
  plan_touched : (p : Result Plan Refusal) → Touched m n ws (plan_image m n ws p)
  unfolding plan_image lone_image cut_image place_freed moved leaf_freed
  plan_touched (Ok (Lone h i x v)) = touches (i.0 ∷ []) (x.value.0 ∷ []) (omega arith) (omega arith) (search stores depth 9)
  plan_touched (Ok (Cut h i x y s z v)) =
      touches (i.0 ∷ x.parent.0 ∷ s.0 ∷ z.left.0 ∷ z.right.0 ∷ []) (x.value.0 ∷ []) (omega arith) (omega arith) (search stores depth 30)
  plan_touched (Err r) = untouched

  pub remove_touched : (key : Key) → Touched m n ws (removed_image m n ws key)
  unfolding removed_image
  remove_touched key = plan_touched (opened_plan n ws key (open_of m n ws))
