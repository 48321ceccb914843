-- What insert goes by, once its plan is made: one that does not refuse was made in an opened image, and leaves what the definition says.
use Rattle.std.specs.Prelude.{◌≡◌, List, ℕ, ◌+◌, ◌*◌, ◌≤◌, length, Err, Ok, Result}
use Rattle.std.proofs.Common.{sym, ◌∙◌}
use Rattle.words.specs.Words.{words}
use Rattle.keys.specs.declared.Key.{Key}
use Rattle.records.specs.declared.NodeIndex.{NodeIndex}
use Rattle.records.specs.declared.Refusal.{Refusal}
use Rattle.records.specs.declared.Value.{Value}
use Rattle.records.specs.Layout.{image_of}
use Rattle.records.specs.Numbers.{answer_number}
use Rattle.inspection.specs.Opening.{open_of}
use Rattle.inspection.specs.Outcome.{Leaves}
use Rattle.insert.specs.declared.Plan.{Plan}
use Rattle.insert.specs.declared.Plan.TheVariants.{First, Replace, Split}
use Rattle.insert.specs.Steps.{plan_place, plan_image, opened_plan, insert_of, insert_image}
use Rattle.insert.specs.Ready.{Writes, plan_room}
use Rattle.insert.specs.Planned.{planned_answer, planned_image, refused_answer, refused_image}

writes : (p : Plan) → Writes (Ok p)
writes (First h) = tt
writes (Replace i j) = tt
writes (Split h i x shared) = tt

module _ (m n : ℕ) (before : List ℕ) (key : Key) (r : Result Plan Refusal) (made : r ≡ opened_plan m n (image_of before) key (open_of m n (image_of before))) where
  module _ (p : Plan) (is : r ≡ Ok p) where
    pub has_room : 48 * n + 32 * m + 48 ≤ length before
    has_room = plan_room m n key (Ok p) (writes p) before (sym made ∙ is)

    pub done_answer : (i : NodeIndex) → Ok i ≡ plan_place (Ok p) → Ok i ≡ insert_of m n (image_of before) key
    done_answer i e = e ∙ planned_answer m n before key (Ok p) (sym made ∙ is)

    pub done_image : (v : Value) (after : List ℕ) → length after ≡ length before → words after ≡ plan_image m n (words before) key v (Ok p)
        → Leaves before after (answer_number (insert_of m n (image_of before) key)) (insert_image m n (image_of before) key v)
    done_image = planned_image m n before key (Ok p) (sym made ∙ is) (writes p)

  module _ (e : Refusal) (is : r ≡ Err e) where
    pub stopped_answer : Err e ≡ insert_of m n (image_of before) key
    stopped_answer = refused_answer m n before key e (sym made ∙ is)

    pub stopped_image : (v : Value) → Leaves before before (answer_number (insert_of m n (image_of before) key)) (insert_image m n (image_of before) key v)
    stopped_image = refused_image m n before key e (sym made ∙ is)

pub ruleset planned = (has_room, done_answer, done_image, stopped_answer, stopped_image)
