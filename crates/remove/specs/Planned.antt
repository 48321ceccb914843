-- What a plan tells of the buffer that it was made on. One that writes was made on an image that opens, so that the
-- image is the buffer's words, the buffer has room for what is stored, and the words that the steps leave are the
-- image afterwards.
use Rattle.std.specs.Prelude.{◌≡◌, refl, List, Bool, true, false, ℕ, ◌+◌, ◌*◌, ◌≤◌, length, Err, Ok, Result}
use Rattle.std.proofs.Common.{sym, ap, ◌∙◌, arith}
use Rattle.std.proofs.lemmas.Bool.{false≢true}
use Rattle.words.specs.Words.{words}
use Rattle.keys.specs.declared.Key.{Key}
use Rattle.records.specs.declared.Header.{Header}
use Rattle.records.specs.declared.Refusal.{Refusal}
use Rattle.records.specs.Layout.{image_of}
use Rattle.records.specs.Numbers.{answer_number}
use Rattle.inspection.specs.Opening.{open_of}
use Rattle.inspection.specs.Outcome.{Leaves, wrote, left_alone}
use Rattle.inspection.specs.Room.{opened_words, opened_whole, opened_bytes}
use Rattle.remove.specs.declared.Plan.{Plan}
use Rattle.remove.specs.declared.Plan.TheVariants.{Lone, Cut}
use Rattle.remove.specs.Steps.{plan_image, value_gone, opened_plan, remove_of, removed_image}

abbrev pub writes : Result Plan Refusal → Bool
writes (Ok (Lone h i x v)) = true
writes (Ok (Cut h i x y s z v)) = true
writes (Err r) = false

made_open : (n : ℕ) (ws : List ℕ) (key : Key) (o : Result Header Refusal) → writes (opened_plan n ws key o) ≡ true → (h : Header) × (o ≡ Ok h)
unfolding opened_plan
made_open n ws key (Ok h) w = (h, refl)
made_open n ws key (Err r) w = absurd (false≢true w)

written_number : (p : Result Plan Refusal) → writes p ≡ true → answer_number (value_gone p) ≡ 0
unfolding value_gone answer_number
written_number (Ok (Lone h i x v)) w = refl
written_number (Ok (Cut h i x y s z v)) w = refl
written_number (Err r) w = absurd (false≢true w)

-- the plan q that was made is p
module _ (m n : ℕ) (before : List ℕ) (key : Key) (q p : Result Plan Refusal) (made : q ≡ opened_plan n (image_of before) key (open_of m n (image_of before))) (is : q ≡ p) where
  plan : opened_plan n (image_of before) key (open_of m n (image_of before)) ≡ p
  plan = sym made ∙ is

  pub planned_answer : value_gone p ≡ remove_of m n (image_of before) key
  unfolding remove_of
  planned_answer = rw plan

  module _ (w : writes p ≡ true) where
    opened : (h : Header) × (open_of m n (image_of before) ≡ Ok h)
    opened = made_open n (image_of before) key (open_of m n (image_of before)) (ap writes plan ∙ w)

    pub planned_room : 48 * n + 32 * m + 48 ≤ length before
    planned_room = omega (arith, opened_bytes m n before opened.0 opened.1)

    pub planned_image : (after : List ℕ) → length after ≡ length before → words after ≡ plan_image m n (words before) p
        → Leaves before after (answer_number (remove_of m n (image_of before) key)) (removed_image m n (image_of before) key)
    unfolding removed_image
    planned_image after long e =
        wrote (opened_whole m n before opened.0 opened.1) long (ap answer_number (sym planned_answer) ∙ written_number p w)
        (e ∙ rw (plan, opened_words m n before opened.0 opened.1))

  -- a refused plan passes through no store
  pub refused_image : (r : Refusal) → p ≡ Err r → Leaves before before (answer_number (remove_of m n (image_of before) key)) (removed_image m n (image_of before) key)
  unfolding removed_image plan_image
  refused_image r e = left_alone (rw (plan, e))
