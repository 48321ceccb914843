-- What insert rewrites: the node that is split, its two children, the new leaf and the copy, and one value record.
use mathlib.Core.List.{List, [], ◌∷◌}
use Rattle.std.specs.Prelude.{ℕ, Err, Ok, Result}
use Rattle.std.proofs.Common.{arith}
use Rattle.records.specs.declared.Refusal.{Refusal}
use Rattle.keys.specs.declared.Key.{Key}
use Rattle.records.specs.declared.Value.{Value}
use Rattle.inspection.specs.Opening.{open_of}
use Rattle.insert.specs.declared.Plan.{Plan}
use Rattle.insert.specs.declared.Plan.TheVariants.{First, Replace, Split}
use Rattle.insert.specs.Steps.{leaf_taken, copy_index, both_taken, first_image, adopted, forked, split_image, plan_image, opened_plan, insert_image}
use Rattle.records_touched.specs.Stores.{Touched, touches, untouched, stores}

module _ (m n : ℕ) (ws : List ℕ) (key : Key) (v : Value) where
  plan_touched : (p : Result Plan Refusal) → Touched m n ws (plan_image m n ws key v p)
  unfolding plan_image first_image split_image forked adopted both_taken leaf_taken copy_index
  plan_touched (Ok (First h)) = touches (h.nodes.head ∷ []) (h.values.head ∷ []) (omega arith) (omega arith) (search stores depth 9)
  plan_touched (Ok (Replace i j)) = touches [] (j.0 ∷ []) (omega arith) (omega arith) (search stores)
  plan_touched (Ok (Split h i x shared)) =
      touches (i.0 ∷ x.left.0 ∷ x.right.0 ∷ h.nodes.head ∷ copy_index n ws h ∷ []) (h.values.head ∷ []) (omega arith) (omega arith) (search stores depth 30)
  plan_touched (Err r) = untouched

  pub insert_touched : Touched m n ws (insert_image m n ws key v)
  unfolding insert_image
  insert_touched = plan_touched (opened_plan m n ws key (open_of m n ws))
