-- Answers: every call's answer as one type, with its number, and what the list's results are as answers. The answer types and the numbers of refusals are those of crate `records`.
use Rattle.std.specs.Prelude.{Bool, true, false, ℕ, Err, Ok, Result}
use Rattle.std.proofs.Math.Option.{Option, none, some}
use Rattle.records.specs.declared.Refusal.{Refusal}
use Rattle.records.specs.declared.NodeIndex.{NodeIndex}
use Rattle.keys.specs.declared.Key.{Key}
use Rattle.records.specs.declared.Value.{Value}
use Rattle.records.specs.declared.Refusal.TheVariants as no
use Rattle.records.specs.Numbers.{answer_number}

pub data Answer : Type 0 where
  done_is : Result Unit Refusal → Answer
  got_is : Result Value Refusal → Answer
  place_is : Result NodeIndex Refusal → Answer
  entry_is : Result (Key × Value) Refusal → Answer
  count_from : Result ℕ Refusal → Answer

-- the number of an answer: the rules R
unfoldable pub number_in : Answer → ℕ
number_in (done_is d) = answer_number d
number_in (got_is g) = answer_number g
number_in (place_is p) = answer_number p
number_in (entry_is e) = answer_number e
number_in (count_from c) = answer_number c

-- ---- the list's results as answers: what is not there is absent

abbrev pub got_from : Option Value → Result Value Refusal
got_from none = Err no.Absent
got_from (some v) = Ok v

abbrev pub done_from : Bool → Result Unit Refusal
done_from true = Ok tt
done_from false = Err no.Absent

abbrev pub entry_from : Option (Key × Value) → Result (Key × Value) Refusal
entry_from none = Err no.Absent
entry_from (some e) = Ok (e.0, e.1)

-- ---- answers without a node index

-- a list has no nodes: where a call gives a node's index, the list gives 0, which means none
abbrev pub somewhere : Answer
somewhere = place_is (Ok (record { 0 = 0 }))

-- an answer without its node index
abbrev pub indexless : Answer → Answer
indexless (place_is (Ok i)) = somewhere
indexless (place_is (Err r)) = place_is (Err r)
indexless (done_is d) = done_is d
indexless (got_is g) = got_is g
indexless (entry_is e) = entry_is e
indexless (count_from c) = count_from c
