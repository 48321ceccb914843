-- Smallest and largest: rule P5. Each visits the root, then only the Left (Right) child of each node, then the value record.
use Rattle.std.specs.Prelude.{List, Bool, true, false, ℕ, Err, Ok, Result}
use Rattle.records.specs.declared.Value.{Value}
use Rattle.records.specs.declared.Refusal.{Refusal}
use Rattle.records.specs.declared.NodeIndex.{NodeIndex}
use Rattle.records.specs.declared.Node.{Node}
use Rattle.keys.specs.declared.Key.{Key}
use Rattle.records.specs.declared.Header.{Header}
use Rattle.inspection.specs.Opening.{open_of}
use Rattle.descent.specs.Descent.{end_of}
use Rattle.lookup.specs.Get.{stop_target}

unfoldable pub target_entry : Result (NodeIndex × Node × Value) Refusal → Result (Key × Value) Refusal
target_entry (Ok (i, x, v)) = Ok (x.key, v)
target_entry (Err r) = Err r

unfoldable pub opened_entry : ℕ → List ℕ → Bool → Result Header Refusal → Result (Key × Value) Refusal
opened_entry n ws right (Ok h) = target_entry (stop_target n ws (end_of h ws right))
opened_entry n ws right (Err r) = Err r

unfoldable pub end_entry : ℕ → ℕ → List ℕ → Bool → Result (Key × Value) Refusal
end_entry m n ws right = opened_entry n ws right (open_of m n ws)

abbrev pub smallest_of : ℕ → ℕ → List ℕ → Result (Key × Value) Refusal
smallest_of m n ws = end_entry m n ws false

abbrev pub largest_of : ℕ → ℕ → List ℕ → Result (Key × Value) Refusal
largest_of m n ws = end_entry m n ws true
