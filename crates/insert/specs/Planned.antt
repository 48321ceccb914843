-- What insert answers and leaves once its plan is carried out on the buffer's words: the outcome that its definition asks for.
use Rattle.std.specs.Prelude.{◌≡◌, refl, List, ℕ, length, Err, Ok, Result}
use Rattle.std.proofs.Common.{sym, ap, ◌∙◌}
use Rattle.words.specs.Words.{words}
use Rattle.keys.specs.declared.Key.{Key}
use Rattle.records.specs.declared.Value.{Value}
use Rattle.records.specs.declared.Refusal.{Refusal}
use Rattle.records.specs.Layout.{image_of}
use Rattle.records.specs.Numbers.{answer_number}
use Rattle.inspection.specs.Opening.{open_of}
use Rattle.inspection.specs.Outcome.{Leaves, wrote, left_alone}
use Rattle.inspection.specs.Room.{opened_words, opened_whole}
use Rattle.insert.specs.declared.Plan.{Plan}
use Rattle.insert.specs.declared.Plan.TheVariants.{First, Replace, Split}
use Rattle.insert.specs.Steps.{plan_place, plan_image, opened_plan, insert_of, insert_image}
use Rattle.insert.specs.Ready.{Writes, plan_opened}

-- a plan that writes does not refuse
writes_number : (p : Result Plan Refusal) → Writes p → answer_number (plan_place p) ≡ 0
unfolding plan_place answer_number
writes_number (Ok (First h)) w = refl
writes_number (Ok (Replace i j)) w = refl
writes_number (Ok (Split h i x shared)) w = refl
writes_number (Err r) w = absurd w

module _ (m n : ℕ) (before : List ℕ) (key : Key) (p : Result Plan Refusal) (e : opened_plan m n (image_of before) key (open_of m n (image_of before)) ≡ p) where
  pub planned_answer : plan_place p ≡ insert_of m n (image_of before) key
  unfolding insert_of
  planned_answer = rw e

  image : (v : Value) → plan_image m n (image_of before) key v p ≡ insert_image m n (image_of before) key v
  unfolding insert_image
  image v = rw e

  -- a plan that writes
  pub planned_image : Writes p → (v : Value) (after : List ℕ) → length after ≡ length before
      → words after ≡ plan_image m n (words before) key v p
      → Leaves before after (answer_number (insert_of m n (image_of before) key)) (insert_image m n (image_of before) key v)
  planned_image w v after long t =
      let o = plan_opened m n key p w (image_of before) e in
      let same : image_of before ≡ words before = opened_words m n before o.0 o.1 in
      wrote (opened_whole m n before o.0 o.1) long (ap answer_number (sym planned_answer) ∙ writes_number p w)
      (t ∙ ap (λ ws. plan_image m n ws key v p) (sym same) ∙ image v)

-- a refused plan
module _ (m n : ℕ) (before : List ℕ) (key : Key) (r : Refusal) (e : opened_plan m n (image_of before) key (open_of m n (image_of before)) ≡ Err r) where
  pub refused_answer : Err r ≡ insert_of m n (image_of before) key
  unfolding plan_place
  refused_answer = planned_answer m n before key (Err r) e

  pub refused_image : (v : Value)
      → Leaves before before (answer_number (insert_of m n (image_of before) key)) (insert_image m n (image_of before) key v)
  unfolding plan_image
  refused_image v = left_alone (sym (image m n before key (Err r) e v))
