-- What start rewrites, the header alone, and the value write, one value record.
use mathlib.Core.List.{List, [], ◌∷◌}
use Rattle.std.specs.Prelude.{ℕ, Err, Ok, Result}
use Rattle.std.proofs.Common.{arith}
use Rattle.records.specs.declared.Refusal.{Refusal}
use Rattle.records.specs.declared.NodeIndex.{NodeIndex}
use Rattle.records.specs.declared.Node.{Node}
use Rattle.keys.specs.declared.Key.{Key}
use Rattle.records.specs.declared.Value.{Value}
use Rattle.lookup.specs.Start.{started, start_of, done_image, start_image}
use Rattle.lookup.specs.Get.{target_of, target_image, write_image}
use Rattle.records_touched.specs.Stores.{Touched, touches, untouched, stores}

module _ (m n : ℕ) (ws : List ℕ) where
  done_touched : (d : Result Unit Refusal) → Touched m n ws (done_image ws (started m n ws) d)
  unfolding done_image started
  done_touched (Ok tt) = touches [] [] (omega arith) (omega arith) (search stores)
  done_touched (Err r) = untouched

  pub start_touched : Touched m n ws (start_image m n ws)
  unfolding start_image
  start_touched = done_touched (start_of m n ws)

  target_touched : (v : Value) (t : Result (NodeIndex × Node × Value) Refusal) → Touched m n ws (target_image m n ws v t)
  unfolding target_image
  target_touched v (Ok (i, x, old)) = touches [] (x.value.0 ∷ []) (omega arith) (omega arith) (search stores)
  target_touched v (Err r) = untouched

  pub write_touched : (key : Key) (v : Value) → Touched m n ws (write_image m n ws key v)
  unfolding write_image
  write_touched key v = target_touched v (target_of m n ws key)
