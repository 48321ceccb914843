-- Histories of the code's own calls, over the bytes of the buffer that they are lent: in any sequence of runs, each as the contract of its function says, the answers are those of the list's history, and
-- the last buffer holds what the list's history leaves. `Ran` is what the `ensures` lines of the calls say; crate `lent_calls` proves that of each of them.
use Rattle.std.specs.Prelude.{◌≡◌, refl, List, [], ◌∷◌, map, ℕ, ◌+◌, ◌*◌, ◌^◌, ◌≤◌, ◌<◌, length, get_or, Ok}
use Rattle.std.proofs.Common.{sym, ap, subst, ◌∙◌, arith}
use Rattle.std.proofs.Math.Decide.{dec_le}
use Rattle.words.specs.Words.{words, words_length, words_at, words_past, Bytes}
use Rattle.keys.specs.declared.Key.{Key}
use Rattle.records.specs.declared.Value.{Value}
use Rattle.records.specs.Layout.{image_of}
use Rattle.records.specs.Numbers.{answer_number}
use Rattle.inspection.specs.Room.{Shaped, whole_words}
use Rattle.inspection.specs.Outcome.{Leaves}
use Rattle.lookup.specs.Start.{start_of, start_image, length_of, capacity_reply}
use Rattle.lookup.specs.Get.{get_of, contains_of, write_of, write_image, addr_of}
use Rattle.lookup.specs.Ends.{smallest_of, largest_of}
use Rattle.insert.specs.Steps.{insert_of, insert_image}
use Rattle.remove.specs.Steps.{remove_of, removed_image}
use Rattle.full_check.specs.Check.{check_of}
use Rattle.lists.specs.Lists.{All}
use Rattle.lists.specs.Entries.{Rising}
use Rattle.lists.specs.Answers.{Answer, done_is, got_is, place_is, entry_is, count_from, indexless}
use Rattle.lists.specs.Machine.{Call, ask, Fitting, Entries, State, blank, holding, state_answers, state_after}
use Rattle.lists.specs.Machine as machine
use Rattle.accepted_lookup.specs.Answers.{listed}
use Rattle.accepted_write.specs.Start.{Blank}
use Rattle.accepted_check.specs.Exact.{check_sound}
use Rattle.histories.specs.Calls.{answer_of, image_left, answers, image_after}
use Rattle.histories.specs.Agrees.{Is}
use Rattle.histories.specs.Shapes.{ascends}
use Rattle.histories.specs.NotEmpty.{Limits}
use Rattle.histories.specs.Demands.{Ends, after_any_history}
use Rattle.lent.specs.Answers.{lent_small}

-- ---- the calls, with what the code's types let them be given

-- a value of the code's type u64
abbrev pub U64 : Type 0
U64 = (x : ℕ) × (x < 2 ^ 64)

pub record LentKey : Type 0 where
  pub high : U64
  pub low : U64

pub record LentValue : Type 0 where
  pub first : U64
  pub second : U64

abbrev pub key_in : LentKey → Key
key_in k = record { high = k.high.0; low = k.low.0 }

abbrev pub value_in : LentValue → Value
value_in v = record { first = v.first.0; second = v.second.0 }

-- every call; the check is lent bytes of its own. In the code `write` is `set`, `address` is `get_addr`, and `smallest` and `largest` are `get_min` and `get_max`.
pub data LentCall : Type 0 where
  start : LentCall
  insert : (key : LentKey) (value : LentValue) → LentCall
  remove : (key : LentKey) → LentCall
  write : (key : LentKey) (value : LentValue) → LentCall
  get : (key : LentKey) → LentCall
  contains : (key : LentKey) → LentCall
  address : (key : LentKey) → LentCall
  len : LentCall
  capacity : LentCall
  smallest : LentCall
  largest : LentCall
  check : (scratch : List ℕ) → LentCall

-- the list's call
abbrev pub call_of : LentCall → Call
call_of start = machine.start
call_of (insert key v) = machine.insert (key_in key) (value_in v)
call_of (remove key) = machine.remove (key_in key)
call_of (write key v) = machine.write (key_in key) (value_in v)
call_of (get key) = ask (machine.get (key_in key))
call_of (contains key) = ask (machine.contains (key_in key))
call_of (address key) = ask (machine.address (key_in key))
call_of len = ask machine.len
call_of capacity = ask machine.capacity
call_of smallest = ask machine.smallest
call_of largest = ask machine.largest
call_of (check scratch) = ask (machine.check (words scratch))

-- ---- a run, and a history of runs

-- What the contract of the call's function says of one run: of the answer, and of the buffer before and after. A call that may write leaves the image that its definition names, and after a refusal every
-- byte; a buffer that is lent for reading stays as it is.
abbrev pub Ran : ℕ → ℕ → LentCall → List ℕ → Answer → List ℕ → Type 0
Ran m n start before a after =
    (a ≡ done_is (start_of m n (image_of before))) × Leaves before after (answer_number (start_of m n (image_of before))) (start_image m n (image_of before))
Ran m n (insert key v) before a after =
    (a ≡ place_is (insert_of m n (image_of before) (key_in key)))
    × Leaves before after (answer_number (insert_of m n (image_of before) (key_in key))) (insert_image m n (image_of before) (key_in key) (value_in v))
Ran m n (remove key) before a after =
    (a ≡ got_is (remove_of m n (image_of before) (key_in key)))
    × Leaves before after (answer_number (remove_of m n (image_of before) (key_in key))) (removed_image m n (image_of before) (key_in key))
Ran m n (write key v) before a after =
    (a ≡ done_is (write_of m n (image_of before) (key_in key)))
    × Leaves before after (answer_number (write_of m n (image_of before) (key_in key))) (write_image m n (image_of before) (key_in key) (value_in v))
Ran m n (get key) before a after = (a ≡ got_is (get_of m n (image_of before) (key_in key))) × (after ≡ before)
Ran m n (contains key) before a after = (a ≡ done_is (contains_of m n (image_of before) (key_in key))) × (after ≡ before)
Ran m n (address key) before a after = (a ≡ place_is (addr_of m n (image_of before) (key_in key))) × (after ≡ before)
Ran m n len before a after = (a ≡ count_from (length_of m n (image_of before))) × (after ≡ before)
Ran m n capacity before a after = (a ≡ count_from (capacity_reply m n (image_of before))) × (after ≡ before)
Ran m n smallest before a after = (a ≡ entry_is (smallest_of m n (image_of before))) × (after ≡ before)
Ran m n largest before a after = (a ≡ entry_is (largest_of m n (image_of before))) × (after ≡ before)
Ran m n (check scratch) before a after = (a ≡ done_is (check_of m n (image_of before) (words scratch))) × (after ≡ before)

-- the same of a call that is given the two words of a key, and those of a value: they are values of u64
abbrev pub RanBy : ℕ → ℕ → (LentKey → LentCall) → ℕ → ℕ → List ℕ → Answer → List ℕ → Type 0
RanBy m n call high low before a after = (h : high < 2 ^ 64) × ((l : low < 2 ^ 64) × Ran m n (call (record { high = (high, h); low = (low, l) })) before a after)

abbrev pub RanWith : ℕ → ℕ → (LentKey → LentValue → LentCall) → ℕ → ℕ → ℕ → ℕ → List ℕ → Answer → List ℕ → Type 0
RanWith m n call high low first second before a after =
    (f : first < 2 ^ 64) × ((s : second < 2 ^ 64) × RanBy m n (λ key. call key (record { first = (first, f); second = (second, s) })) high low before a after)

-- a call, what it answered, and the buffer afterwards
pub record Run : Type 0 where
  pub call : LentCall
  pub answer : Answer
  pub after : List ℕ

-- each run begins with the buffer that the one before it left
abbrev pub Runs : ℕ → ℕ → List ℕ → List Run → Type 0
Runs m n b [] = Unit {0}
Runs m n b (r ∷ run) = Ran m n r.call b r.answer r.after × Runs m n r.after run

abbrev pub calls_of : List Run → List Call
calls_of [] = []
calls_of (r ∷ run) = call_of r.call ∷ calls_of run

abbrev pub answers_in : List Run → List Answer
answers_in [] = []
answers_in (r ∷ run) = r.answer ∷ answers_in run

abbrev pub last_buffer : List ℕ → List Run → List ℕ
last_buffer b [] = b
last_buffer b (r ∷ run) = last_buffer r.after run

-- ---- what a call is given fits

pub fitting : (c : LentCall) → Fitting (call_of c)
fitting start = tt
fitting (insert key v) =
    (record { high_fits = key.high.1; low_fits = key.low.1 }, record { first_fits = v.first.1; second_fits = v.second.1 })
fitting (remove key) = tt
fitting (write key v) = record { first_fits = v.first.1; second_fits = v.second.1 }
fitting (get key) = tt
fitting (contains key) = tt
fitting (address key) = tt
fitting len = tt
fitting capacity = tt
fitting smallest = tt
fitting largest = tt
fitting (check scratch) = tt

all_fitting : (run : List Run) → All Fitting (calls_of run)
all_fitting [] = tt
all_fitting (r ∷ run) = (fitting r.call, all_fitting run)

-- ---- a run is the call over the words

module _ (m n : ℕ) (before : List ℕ) (a : Answer) (after : List ℕ) where
  pub ran_answer : (c : LentCall) → Ran m n c before a after → a ≡ answer_of m n (call_of c) (image_of before)
  ran_answer start r = r.0
  ran_answer (insert key v) r = r.0
  ran_answer (remove key) r = r.0
  ran_answer (write key v) r = r.0
  ran_answer (get key) r = r.0
  ran_answer (contains key) r = r.0
  ran_answer (address key) r = r.0
  ran_answer len r = r.0
  ran_answer capacity r = r.0
  ran_answer smallest r = r.0
  ran_answer largest r = r.0
  ran_answer (check scratch) r = r.0

  pub ran_image : (c : LentCall) → Ran m n c before a after → image_of after ≡ image_left m n (call_of c) (image_of before)
  ran_image start r = r.1.words
  ran_image (insert key v) r = r.1.words
  ran_image (remove key) r = r.1.words
  ran_image (write key v) r = r.1.words
  ran_image (get key) r = ap image_of r.1
  ran_image (contains key) r = ap image_of r.1
  ran_image (address key) r = ap image_of r.1
  ran_image len r = ap image_of r.1
  ran_image capacity r = ap image_of r.1
  ran_image smallest r = ap image_of r.1
  ran_image largest r = ap image_of r.1
  ran_image (check scratch) r = ap image_of r.1

module _ (m n : ℕ) where
  runs_answers : (b : List ℕ) (run : List Run) → Runs m n b run → answers_in run ≡ answers m n (calls_of run) (image_of b)
  runs_answers b [] h = refl
  runs_answers b (r ∷ run) h =
      let here = ran_answer m n b r.answer r.after r.call h.0 in
      let rest = runs_answers r.after run h.1 ∙ ap (answers m n (calls_of run)) (ran_image m n b r.answer r.after r.call h.0) in
      λ ι. here ι ∷ rest ι

  runs_image : (b : List ℕ) (run : List Run) → Runs m n b run → image_of (last_buffer b run) ≡ image_after m n (calls_of run) (image_of b)
  runs_image b [] h = refl
  runs_image b (r ∷ run) h = runs_image r.after run h.1 ∙ ap (image_after m n (calls_of run)) (ran_image m n b r.answer r.after r.call h.0)

-- ---- where histories begin

-- a buffer of zero bytes, as long as M and N ask for, is blank memory
pub blank_bytes : (m n : ℕ) → Limits m n → (b : List ℕ) → length b ≡ 48 + 48 * n + 32 * m → ((k : ℕ) → get_or b k 0 ≡ 0) → Is m n (image_of b) blank
blank_bytes m n l b long zeros = rw (whole_words b (omega arith)) (shape, word)
  where
    shape : Shaped m n (length (words b))
    shape = record { some = l.some; most = l.most; twice = l.twice; nodes_most = l.nodes_most; words = omega (arith, words_length b) }

    word : Blank (words b)
    word k = go (dec_le (4 * k + 4) (length b))
      where
        go : Dec (4 * k + 4 ≤ length b) → get_or (words b) k 0 ≡ 0
        go (yes w) = rw (words_at b k w) (omega (arith, zeros (4 * k), zeros (4 * k + 1), zeros (4 * k + 2), zeros (4 * k + 3)))
        go (no w) = words_past b k (omega arith)

-- a buffer of bytes that the full check accepts holds an ascending list
pub checked_bytes : (m n : ℕ) (b scratch : List ℕ) → Bytes b → check_of m n (image_of b) (words scratch) ≡ Ok tt → (es : Entries) × Rising es × Is m n (image_of b) (holding es)
checked_bytes m n b scratch small e = let a = check_sound m n (image_of b) (words scratch) (lent_small b small) e in (listed a, ascends a, (a, refl))

-- ---- the theorem

-- In any history of runs from a buffer that is blank memory or holds a list, the answers are those of the list's history, up to the node index, and the last buffer is blank as long as no start has come,
-- else it holds the entries that the list's history leaves.
pub after_any_lent_history : (m n : ℕ) (b : List ℕ) (s : State) → Is m n (image_of b) s → (run : List Run) → Runs m n b run
    → (map indexless (answers_in run) ≡ state_answers m (calls_of run) s) × Ends m n (image_of (last_buffer b run)) (state_after m (calls_of run) s)
after_any_lent_history m n b s i run h =
    let t = after_any_history m n (image_of b) s i (calls_of run) (all_fitting run) in
    (ap (map indexless) (runs_answers m n b run h) ∙ t.0, subst (λ (ws : List ℕ). Ends m n ws (state_after m (calls_of run) s)) (sym (runs_image m n b run h)) t.1)

-- From zero bytes: the history of a list that is not started yet.
pub from_blank_bytes : (m n : ℕ) → Limits m n → (b : List ℕ) → length b ≡ 48 + 48 * n + 32 * m → ((k : ℕ) → get_or b k 0 ≡ 0) → (run : List Run) → Runs m n b run
    → (map indexless (answers_in run) ≡ state_answers m (calls_of run) blank) × Ends m n (image_of (last_buffer b run)) (state_after m (calls_of run) blank)
from_blank_bytes m n l b long zeros = after_any_lent_history m n b blank (blank_bytes m n l b long zeros)

-- From any buffer that the full check accepts: the history of one ascending list.
pub from_checked_bytes : (m n : ℕ) (b scratch : List ℕ) → Bytes b → check_of m n (image_of b) (words scratch) ≡ Ok tt
    → (es : Entries) × Rising es
    × ((run : List Run) → Runs m n b run
    → (map indexless (answers_in run) ≡ state_answers m (calls_of run) (holding es)) × Ends m n (image_of (last_buffer b run)) (state_after m (calls_of run) (holding es)))
from_checked_bytes m n b scratch small e = let c = checked_bytes m n b scratch small e in (c.0, c.1, after_any_lent_history m n b (holding c.0) c.2)
