-- A refusal's number is that of its variant.
use Rattle.std.specs.Prelude.{◌≡◌, refl, ◌+◌}
use Rattle.records.specs.declared.Refusal.{Refusal}
use Rattle.records.specs.declared.Refusal.TheVariants as no
use Rattle.records.specs.Numbers.{refusal_number}

pub tag_number : (r : Refusal) → denote.Enum.Declared.tag_of Rattle.records.specs.contracts.Refusal.the_type r + 1 ≡ refusal_number r
unfolding refusal_number
tag_number no.Shape = refl
tag_number no.Damaged = refl
tag_number no.Full = refl
tag_number no.Absent = refl
tag_number no.NotBlank = refl
tag_number no.Cursor = refl
