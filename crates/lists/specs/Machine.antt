-- The list's own machine: the calls of the map, and what each answers and leaves where the map is one ascending list of keys and values, or memory that is still blank. It is what the map's calls on an
-- image are proved to be (crate `histories`), so it is the page by which a reviewer judges them. Nothing in it speaks of a tree, a record or a word of an image. M, here m, is the number of entries that the list can hold.
--
-- Named from Entries: `find`, `held`, `enter`, `update`, `erase` and `list_end`, on the ascending list. Named from Answers: the type of answers, `got_from`, `done_from` and `entry_from`, which answer refusal 4
-- for what is not there, and `somewhere`, the place of an entry in a list, which has no node index. Listings are no calls of this machine: they take entries from either end of what the list was, and have
-- their own file (crate `histories`, Listings).
use Rattle.std.specs.Prelude.{List, [], ◌∷◌, Bool, true, false, cond, ℕ, ◌^◌, ◌<◌, length, eqb, leb, Err, Ok}
use Rattle.keys.specs.declared.Key.{Key}
use Rattle.keys.specs.Number.{Fits}
use Rattle.records.specs.declared.Value.{Value}
use Rattle.records.specs.declared.Refusal.TheVariants as no
use Rattle.lists.specs.Entries.{find, held, enter, update, erase, list_end}
use Rattle.lists.specs.Answers.{Answer, done_is, got_is, place_is, entry_is, count_from, got_from, done_from, entry_from, somewhere}

-- ---- the calls

-- the calls that only read; the check has scratch of its own
pub data Question : Type 0 where
  get : (key : Key) → Question
  contains : (key : Key) → Question
  address : (key : Key) → Question
  len : Question
  capacity : Question
  smallest : Question
  largest : Question
  check : (scratch : List ℕ) → Question

-- every call
pub data Call : Type 0 where
  start : Call
  insert : (key : Key) (value : Value) → Call
  remove : (key : Key) → Call
  write : (key : Key) (value : Value) → Call
  ask : Question → Call

-- a value's two words fit 64 bits, as they do in every value that a call takes
pub record FitsValue (v : Value) : Type 0 where
  pub first_fits : v.first < 2 ^ 64
  pub second_fits : v.second < 2 ^ 64

-- what is stored is made of 64-bit words, as every key and value that a call takes
abbrev pub Fitting : Call → Type 0
Fitting start = Unit {0}
Fitting (insert key v) = Fits key × FitsValue v
Fitting (remove key) = Unit {0}
Fitting (write key v) = FitsValue v
Fitting (ask q) = Unit {0}

-- ---- over the list

abbrev pub Entries : Type 0
Entries = List (Key × Value)

-- get gives the key's value; contains and address say whether the key is there; the ends are the first and the last entry; the check wants a word of scratch for each of m values
abbrev pub list_reply : ℕ → Question → Entries → Answer
list_reply m (get key) es = got_is (got_from (find key es))
list_reply m (contains key) es = done_is (done_from (held key es))
list_reply m (address key) es = cond (held key es) somewhere (place_is (Err no.Absent))
list_reply m len es = count_from (Ok (length es))
list_reply m capacity es = count_from (Ok m)
list_reply m smallest es = entry_is (entry_from (list_end false es))
list_reply m largest es = entry_is (entry_from (list_end true es))
list_reply m (check scratch) es = done_is (cond (leb m (length scratch)) (Ok tt) (Err no.Shape))

-- m entries fill the list
abbrev pub full : ℕ → Entries → Bool
full m es = eqb (length es) m

-- A list was started, so it is not started again. A full one refuses every insert, even of a key it holds. Remove gives the value.
abbrev pub list_answer : ℕ → Call → Entries → Answer
list_answer m start es = done_is (Err no.NotBlank)
list_answer m (insert key v) es = cond (full m es) (place_is (Err no.Full)) somewhere
list_answer m (remove key) es = got_is (got_from (find key es))
list_answer m (write key v) es = done_is (done_from (held key es))
list_answer m (ask q) es = list_reply m q es

-- Insert puts the entry at its place in the ascending order, or the value to the key that is there; remove takes the key's entry out; the value write gives the key that is there the value.
abbrev pub list_next : ℕ → Call → Entries → Entries
list_next m start es = es
list_next m (insert key v) es = cond (full m es) es (enter key v es)
list_next m (remove key) es = erase key es
list_next m (write key v) es = update key v es
list_next m (ask q) es = es

-- ---- blank memory, or a list

pub data State : Type 0 where
  blank : State
  holding : Entries → State

-- blank memory has no header: whoever asks it for an entry is refused
abbrev pub blank_reply : ℕ → Question → Answer
blank_reply m (get key) = got_is (Err no.Damaged)
blank_reply m (contains key) = done_is (Err no.Damaged)
blank_reply m (address key) = place_is (Err no.Damaged)
blank_reply m len = count_from (Err no.Damaged)
blank_reply m capacity = count_from (Err no.Damaged)
blank_reply m smallest = entry_is (Err no.Damaged)
blank_reply m largest = entry_is (Err no.Damaged)
blank_reply m (check scratch) = done_is (Err (cond (leb m (length scratch)) no.Damaged no.Shape))

abbrev pub blank_answer : ℕ → Call → Answer
blank_answer m start = done_is (Ok tt)
blank_answer m (insert key v) = place_is (Err no.Damaged)
blank_answer m (remove key) = got_is (Err no.Damaged)
blank_answer m (write key v) = done_is (Err no.Damaged)
blank_answer m (ask q) = blank_reply m q

-- only start changes it, and leaves the empty list
abbrev pub blank_next : Call → State
blank_next start = holding []
blank_next (insert key v) = blank
blank_next (remove key) = blank
blank_next (write key v) = blank
blank_next (ask q) = blank

abbrev pub state_answer : ℕ → Call → State → Answer
state_answer m c blank = blank_answer m c
state_answer m c (holding es) = list_answer m c es

abbrev pub state_next : ℕ → Call → State → State
state_next m c blank = blank_next c
state_next m c (holding es) = holding (list_next m c es)

-- ---- a history of calls: its answers, and the state at its end

abbrev pub state_answers : ℕ → List Call → State → List Answer
state_answers m [] s = []
state_answers m (c ∷ cs) s = state_answer m c s ∷ state_answers m cs (state_next m c s)

abbrev pub state_after : ℕ → List Call → State → State
state_after m [] s = s
state_after m (c ∷ cs) s = state_after m cs (state_next m c s)
