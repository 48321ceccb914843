-- What remove goes by, once its plan is made: one that does not refuse was made in an opened image, and leaves what the definition says.
use Rattle.std.specs.Prelude.{◌≡◌, refl, List, ℕ, ◌+◌, ◌*◌, ◌≤◌, true, length, Err, Ok, Result}
use Rattle.std.proofs.Common.{◌∙◌}
use Rattle.words.specs.Words.{words}
use Rattle.keys.specs.declared.Key.{Key}
use Rattle.records.specs.declared.Refusal.{Refusal}
use Rattle.records.specs.declared.Value.{Value}
use Rattle.records.specs.Layout.{image_of}
use Rattle.records.specs.Numbers.{answer_number}
use Rattle.inspection.specs.Opening.{open_of}
use Rattle.inspection.specs.Outcome.{Leaves}
use Rattle.remove.specs.declared.Plan.{Plan}
use Rattle.remove.specs.declared.Plan.TheVariants.{Lone, Cut}
use Rattle.remove.specs.Steps.{plan_image, value_gone, opened_plan, remove_of, removed_image}
use Rattle.remove.specs.Planned.{writes, planned_answer, planned_room, planned_image, refused_image}

done : (p : Plan) → writes (Ok p) ≡ true
done (Lone h i x v) = refl
done (Cut h i x y s z v) = refl

module _ (m n : ℕ) (before : List ℕ) (key : Key) (r : Result Plan Refusal) (made : r ≡ opened_plan n (image_of before) key (open_of m n (image_of before))) where
  module _ (p : Plan) (is : r ≡ Ok p) where
    pub has_room : 48 * n + 32 * m + 48 ≤ length before
    has_room = planned_room m n before key r (Ok p) made is (done p)

    pub done_answer : (v : Value) → Ok v ≡ value_gone (Ok p) → Ok v ≡ remove_of m n (image_of before) key
    done_answer v e = e ∙ planned_answer m n before key r (Ok p) made is

    pub done_image : (after : List ℕ) → length after ≡ length before → words after ≡ plan_image m n (words before) (Ok p)
        → Leaves before after (answer_number (remove_of m n (image_of before) key)) (removed_image m n (image_of before) key)
    done_image = planned_image m n before key r (Ok p) made is (done p)

  module _ (e : Refusal) (is : r ≡ Err e) where
    pub stopped_answer : Err e ≡ remove_of m n (image_of before) key
    unfolding value_gone
    stopped_answer = planned_answer m n before key r (Err e) made is

    pub stopped_image : Leaves before before (answer_number (remove_of m n (image_of before) key)) (removed_image m n (image_of before) key)
    stopped_image = refused_image m n before key r (Err e) made is e refl

pub ruleset planned = (has_room, done_answer, done_image, stopped_answer, stopped_image)
