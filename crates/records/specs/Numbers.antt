-- The number of each answer, and the values that come with it: the rules R. 0 is the number of a call that does not refuse, and every number of a
-- refused answer is 0.
use Rattle.std.specs.Prelude.{Bool, true, false, ℕ, Err, Ok, Result}
use Rattle.records.specs.declared.NodeIndex.{NodeIndex}
use Rattle.keys.specs.declared.Key.{Key}
use Rattle.records.specs.declared.Value.{Value}
use Rattle.records.specs.declared.Refusal.{Refusal}
use Rattle.records.specs.declared.Refusal.TheVariants as no

unfoldable pub refusal_number : Refusal → ℕ
refusal_number no.Shape = 1
refusal_number no.Damaged = 2
refusal_number no.Full = 3
refusal_number no.Absent = 4
refusal_number no.NotBlank = 5
refusal_number no.Cursor = 6

-- the answer of a call that has done what was asked and has nothing to give
abbrev pub done : Result Unit Refusal
done = Ok tt

abbrev pub zero_value : Value
zero_value = record { first = 0; second = 0 }

abbrev pub zero_key : Key
zero_key = record { high = 0; low = 0 }

-- ---- the number of an answer

unfoldable pub answer_number : {A : Type 0} → Result A Refusal → ℕ
answer_number (Ok a) = 0
answer_number (Err r) = refusal_number r

-- ---- the values that come with it

-- contains: true, and false where it refuses
unfoldable pub done_flag : Result Unit Refusal → Bool
done_flag (Ok tt) = true
done_flag (Err r) = false

unfoldable pub got_value : Result Value Refusal → Value
got_value (Ok v) = v
got_value (Err r) = zero_value

unfoldable pub place_index : Result NodeIndex Refusal → ℕ
place_index (Ok i) = i.0
place_index (Err r) = 0

unfoldable pub entry_key : Result (Key × Value) Refusal → Key
entry_key (Ok (k, v)) = k
entry_key (Err r) = zero_key

unfoldable pub entry_value : Result (Key × Value) Refusal → Value
entry_value (Ok (k, v)) = v
entry_value (Err r) = zero_value

unfoldable pub count_is : Result ℕ Refusal → ℕ
count_is (Ok n) = n
count_is (Err r) = 0
