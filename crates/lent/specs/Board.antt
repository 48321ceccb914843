-- The board in bytes: once the full check has answered 0, lookups on the same image answer 0 or 4, as long as nobody changes it, and they are those of one ascending list.
use Rattle.std.specs.Prelude.{◌≡◌, refl, List, ◌++◌, ◌⊎◌, ℕ, ◌≤◌, length, drop, replicate, Err, Ok, Result}
use Rattle.std.proofs.Common.{ap, ◌∙◌, inl, inr, arith}
use Rattle.std.proofs.Math.Option.{Option, none, some}
use Rattle.records.specs.declared.Refusal.{Refusal}
use Rattle.words.specs.Words.{words, Bytes}
use Rattle.keys.specs.declared.Key.{Key}
use Rattle.records.specs.declared.Value.{Value}
use Rattle.records.specs.declared.Refusal.TheVariants as no
use Rattle.records.specs.Layout.{image_of}
use Rattle.records.specs.Numbers.{refusal_number, answer_number}
use Rattle.full_check.specs.Check.{check_of}
use Rattle.lists.specs.Entries.{Rising, find}
use Rattle.lists.specs.Answers.{got_from}
use Rattle.lists.specs.Machine.{Entries}
use Rattle.accepted_lookup.specs.Answers.{listed, get_agrees}
use Rattle.accepted_check.specs.Exact.{check_sound}
use Rattle.histories.specs.Shapes.{ascends}
use Rattle.lent.specs.Answers.{lent_small}
use Rattle.board.specs.Output.{value_bytes, lookup_of, output_after, long_enough}
use Rattle.board.specs.Scratch.{board_check}
use Rattle.board.specs.Promises.{Looked, Checked, output}

-- what a lookup answers by the list, and what the output then holds
abbrev pub found_number : Option Value → ℕ
found_number none = 4
found_number (some v) = 0

abbrev pub found_output : Option Value → List ℕ → List ℕ
found_output none before = replicate 16 0 ++ drop 16 before
found_output (some v) before = value_bytes v ++ drop 16 before

-- only `Yes` has the number 0
yes_only : (d : Result Unit Refusal) → 0 ≡ answer_number d → d ≡ Ok tt
unfolding answer_number refusal_number
yes_only (Ok tt) e = refl
yes_only (Err no.Shape) e = absurd (omega arith)
yes_only (Err no.Damaged) e = absurd (omega arith)
yes_only (Err no.Full) e = absurd (omega arith)
yes_only (Err no.Absent) e = absurd (omega arith)
yes_only (Err no.NotBlank) e = absurd (omega arith)
yes_only (Err no.Cursor) e = absurd (omega arith)

found_number_lem : (o : Option Value) → answer_number (got_from o) ≡ found_number o
unfolding answer_number refusal_number
found_number_lem none = refl
found_number_lem (some v) = refl

found_output_lem : (o : Option Value) (before : List ℕ) → output_after (got_from o) before ≡ found_output o before
unfolding answer_number refusal_number
found_output_lem none before = (output (got_from none) before).zeros (λ e. omega arith) (λ e. omega arith)
found_output_lem (some v) before = (output (got_from (some v)) before).value v refl

-- "After the check answers 0, lookups answer 0 or 4": what the contract of any lookup of this image allows, with an output that holds a value, is what the list has for the key.
pub after_the_check : (m n : ℕ) (img scratch scratch' : List ℕ) → Bytes img → Checked m n img scratch 0 scratch'
    → (es : Entries) × Rising es
    × ((key : Key) (before : List ℕ) → 16 ≤ length before → (number : ℕ) (after : List ℕ) → Looked m n img key before number after
    → (number ≡ found_number (find key es)) × (after ≡ found_output (find key es) before))
unfolding board_check
after_the_check m n img scratch scratch' small c =
    let a = check_sound m n (image_of img) (words scratch) (lent_small img small) (yes_only (check_of m n (image_of img) (words scratch)) c.answer) in (
      listed a,
      ascends a,
      λ key before room number after x.
          let got : lookup_of m n (image_of img) key before ≡ got_from (find key (listed a)) = long_enough m n (image_of img) key before room ∙ get_agrees a key in
          (x.answer ∙ ap answer_number got ∙ found_number_lem (find key (listed a)), x.output ∙ ap (λ (g : Result Value Refusal). output_after g before) got ∙ found_output_lem (find key (listed a)) before),
    )

-- 0 or 4, and nothing else
pub found_or_absent : (o : Option Value) → (found_number o ≡ 0) ⊎ (found_number o ≡ 4)
found_or_absent none = inr refl
found_or_absent (some v) = inl refl
