-- The map's calls over the words: what each answers, and the image that it leaves, one by one and in a history. The calls, their answers and what they are over the list are crate `lists`, Machine. Listings
-- read the image and have their own file.
use Rattle.std.specs.Prelude.{List, [], ◌∷◌, ℕ}
use Rattle.lookup.specs.Start.{start_of, start_image, length_of, capacity_reply}
use Rattle.lookup.specs.Get.{get_of, contains_of, write_of, write_image, addr_of}
use Rattle.lookup.specs.Ends.{smallest_of, largest_of}
use Rattle.insert.specs.Steps.{insert_of, insert_image}
use Rattle.remove.specs.Steps.{remove_of, removed_image}
use Rattle.full_check.specs.Check.{check_of}
use Rattle.lists.specs.Answers.{Answer, done_is, got_is, place_is, entry_is, count_from}
use Rattle.lists.specs.Machine.{Question, get, contains, address, len, capacity, smallest, largest, check, Call, start, insert, remove, write, ask}

-- the answer of a call that only reads
abbrev pub question_answer : ℕ → ℕ → Question → List ℕ → Answer
question_answer m n (get key) ws = got_is (get_of m n ws key)
question_answer m n (contains key) ws = done_is (contains_of m n ws key)
question_answer m n (address key) ws = place_is (addr_of m n ws key)
question_answer m n len ws = count_from (length_of m n ws)
question_answer m n capacity ws = count_from (capacity_reply m n ws)
question_answer m n smallest ws = entry_is (smallest_of m n ws)
question_answer m n largest ws = entry_is (largest_of m n ws)
question_answer m n (check scratch) ws = done_is (check_of m n ws scratch)

-- the answer of a call, and the image that it leaves
abbrev pub answer_of : ℕ → ℕ → Call → List ℕ → Answer
answer_of m n start ws = done_is (start_of m n ws)
answer_of m n (insert key v) ws = place_is (insert_of m n ws key)
answer_of m n (remove key) ws = got_is (remove_of m n ws key)
answer_of m n (write key v) ws = done_is (write_of m n ws key)
answer_of m n (ask q) ws = question_answer m n q ws

abbrev pub image_left : ℕ → ℕ → Call → List ℕ → List ℕ
image_left m n start ws = start_image m n ws
image_left m n (insert key v) ws = insert_image m n ws key v
image_left m n (remove key) ws = removed_image m n ws key
image_left m n (write key v) ws = write_image m n ws key v
image_left m n (ask q) ws = ws

-- of a history: the answers, and the image at its end
abbrev pub answers : ℕ → ℕ → List Call → List ℕ → List Answer
answers m n [] ws = []
answers m n (c ∷ cs) ws = answer_of m n c ws ∷ answers m n cs (image_left m n c ws)

abbrev pub image_after : ℕ → ℕ → List Call → List ℕ → List ℕ
image_after m n [] ws = ws
image_after m n (c ∷ cs) ws = image_after m n cs (image_left m n c ws)
