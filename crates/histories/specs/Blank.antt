-- Blank memory and accepted images: no image is both, so start refuses an accepted image and every other call refuses blank memory; neither changes a word.
use Rattle.std.specs.Prelude.{◌≡◌, List, Bool, cond, ◌&&◌, ℕ, length, get_or, leb, Err}
use Rattle.std.proofs.Math.Path.{refl}
use Rattle.std.proofs.Common.{sym, ◌∙◌, true≢false, arith}
use Rattle.std.proofs.Math.Bool.{true, false}
use Rattle.words.specs.Tests.{and_r}
use Rattle.words.specs.Zeros.{zeros_at, zeros_exact}
use Rattle.keys.specs.declared.Key.{Key}
use Rattle.records.specs.declared.Value.{Value}
use Rattle.records.specs.declared.Refusal.TheVariants as no
use Rattle.records.specs.Records.{header_of}
use Rattle.inspection.specs.Tests.{front_ok, spare_ok, header_ok, top_ok}
use Rattle.inspection.specs.Room.{Shaped}
use Rattle.inspection.specs.Opening.{open_of, blank_of}
use Rattle.inspection.specs.Answers.{OpensAs, misshapen, unsound, sound, opens}
use Rattle.lookup.specs.Start.{start_of, done_image, start_image, length_of, opened_length, capacity_reply, opened_capacity}
use Rattle.lookup.specs.Get.{target_of, opened_target, target_got, get_of, target_done, write_of, target_image, write_image, opened_done, contains_of, opened_place, addr_of}
use Rattle.lookup.specs.Ends.{opened_entry, end_entry}
use Rattle.insert.specs.Steps.{insert_of, insert_image, plan_place}
use Rattle.insert.specs.Steps as inserting
use Rattle.remove.specs.Steps.{remove_of, removed_image, value_gone}
use Rattle.remove.specs.Steps as removing
use Rattle.full_check.specs.Check.{opened_check, check_shape, check_of}
use Rattle.lists.specs.Answers.{done_is}
use Rattle.lists.specs.Machine.{Question, get, contains, address, len, capacity, smallest, largest, check, blank_reply}
use Rattle.accepted.specs.Accepted.{Accepted}
use Rattle.accepted.specs.Tests.{shape_passes, header_rules}
use Rattle.accepted_write.specs.Start.{Blank}
use Rattle.histories.specs.Calls.{question_answer}

-- the node bump is word 6
bump_word : (n : ℕ) (ws : List ℕ) → (header_of n ws).nodes.bump ≡ get_or ws 6 0
unfolding header_of
bump_word n ws = refl

-- the bump of an accepted image is at least 1
pub never_blank : {m n : ℕ} {ws : List ℕ} → Accepted m n ws → Blank ws → ⊥
never_blank {m} {n} {ws} a b = omega (arith, a.header.nodes.bump_some, bump_word n ws, b 6)

-- ---- start on an accepted image

pub start_refused : {m n : ℕ} {ws : List ℕ} → Accepted m n ws → (start_of m n ws ≡ Err no.NotBlank) × (start_image m n ws ≡ ws)
unfolding start_image done_image blank_of
start_refused {m} {n} {ws} a = go (zeros_at ws 0 (length ws)) refl
  where
    go : (b : Bool) → zeros_at ws 0 (length ws) ≡ b → (start_of m n ws ≡ Err no.NotBlank) × (start_image m n ws ≡ ws)
    go true e =
        let zeros = (zeros_exact ws 0 (length ws)).0 e in
        absurd (omega (arith, a.header.nodes.bump_some, bump_word n ws, zeros 6 (omega arith) (omega (arith, a.shape.words))))
    go false e = (rw (shape_passes a.shape, e), rw (shape_passes a.shape, e))

-- ---- every other call on blank memory

module _ (m n : ℕ) (ws : List ℕ) (shape : Shaped m n (length ws)) (blank : Blank ws) where
  header_part : top_ok m n ws ≡ true → header_ok m n (header_of n ws) ≡ true
  unfolding top_ok
  header_part q = and_r (front_ok ws && spare_ok ws) (header_ok m n (header_of n ws)) q

  pub shut_blank : open_of m n ws ≡ Err no.Damaged
  shut_blank = go (opens m n ws)
    where
      go : OpensAs m n ws → open_of m n ws ≡ Err no.Damaged
      go (misshapen p o) = absurd (true≢false (sym (shape_passes shape) ∙ p))
      go (unsound p q o) = o
      go (sound h p q o) = absurd (omega (arith, (header_rules m n (header_of n ws) (header_part q)).nodes.bump_some, bump_word n ws, blank 6))

  pub reply_blank : (q : Question) → question_answer m n q ws ≡ blank_reply m q
  unfolding target_of opened_target target_got get_of opened_done contains_of opened_place addr_of length_of opened_length capacity_reply opened_capacity opened_entry end_entry opened_check check_shape check_of
  reply_blank (get key) = rw shut_blank
  reply_blank (contains key) = rw shut_blank
  reply_blank (address key) = rw shut_blank
  reply_blank len = rw shut_blank
  reply_blank capacity = rw shut_blank
  reply_blank smallest = rw shut_blank
  reply_blank largest = rw shut_blank
  reply_blank (check scratch) = rw (shut_blank, shape_passes shape) (go (leb m (length scratch)))
    where
      go : (b : Bool) → done_is (cond b (Err no.Damaged) (Err no.Shape)) ≡ done_is (Err (cond b no.Damaged no.Shape))
      go true = refl
      go false = refl

  -- the calls that write, but start, leave blank memory as it is
  pub insert_blank : (key : Key) (v : Value) → (insert_of m n ws key ≡ Err no.Damaged) × (insert_image m n ws key v ≡ ws)
  unfolding insert_of insert_image inserting.opened_plan plan_place inserting.plan_image
  insert_blank key v = (rw shut_blank, rw shut_blank)

  pub remove_blank : (key : Key) → (remove_of m n ws key ≡ Err no.Damaged) × (removed_image m n ws key ≡ ws)
  unfolding remove_of removed_image removing.opened_plan value_gone removing.plan_image
  remove_blank key = (rw shut_blank, rw shut_blank)

  pub write_blank : (key : Key) (v : Value) → (write_of m n ws key ≡ Err no.Damaged) × (write_image m n ws key v ≡ ws)
  unfolding target_of opened_target target_done write_of target_image write_image
  write_blank key v = (rw shut_blank, rw shut_blank)
