-- `board::give` meets its contract. Assumes nothing.
use Rattle.std.specs.Prelude.{◌≡◌, refl, eqb}
use Rattle.std.proofs.Common.{sym, ◌∙◌}
use Rattle.std.proofs.lemmas.Bool.{not-true, not-false}
use Rattle.records.specs.declared.Refusal.{Refusal}
use Rattle.records.specs.declared.Refusal.TheVariants as no
use Rattle.records.specs.Numbers.{answer_number, got_value, refusal_number}
use Rattle.board.specs.Output.{output_after}
use Rattle.board.proofs.give.Goals.{then-ne, else-ne}
use Rattle.board.proofs.give.Goals as goal

-- the one refusal after which no byte is touched has the number 1
is_shape : (r : Refusal) → denote.Enum.Bare.sameb Rattle.records.specs.contracts.Refusal.the_type r no.Shape ≡ eqb (refusal_number r) 1
unfolding refusal_number
is_shape no.Shape = refl
is_shape no.Damaged = refl
is_shape no.Full = refl
is_shape no.Absent = refl
is_shape no.NotBlank = refl
is_shape no.Cursor = refl

pub returns-in-Ok : goal.returns-in-Ok
unfolding answer_number got_value output_after
returns-in-Ok c = record { answer = simp c.in-Ok.is; output = simp (c.in-Ok.is, c.put_value.ensures) }

pub returns-after-ne : goal.returns-after-ne
unfolding answer_number got_value output_after
returns-after-ne c = record {
  answer = simp (c.in-Err.is, c.number.ensures);
  output =
      elim c.if-ne.branch [
        | then-ne w ↦ w.out-is ∙ w.put_value-then-ne.ensures ∙ simp (c.in-Err.is, ← is_shape c.in-Err.r, not-true _ (sym c.ne.ensures ∙ w.if-ne.true))
        | else-ne w ↦ w.out-is ∙ simp (c.in-Err.is, ← is_shape c.in-Err.r, not-false _ (sym c.ne.ensures ∙ w.if-ne.false))
      ];
}
