-- Histories with listings in them: every call of the map, and between the calls any number of listings, each under a number of its own, that are made and stepped from both ends in whatever order.
-- The steps of each give what the list has left between its ends, each entry with the value that the list has then, whatever the others do. Calls that only read, value writes and refused calls leave
-- the listings as they are; an insert or a remove ends what is promised of all of them, of each until it is made anew.
use Rattle.std.specs.Prelude.{◌≡◌, List, [], ◌∷◌, Bool, cond, ℕ, ◌≤◌, eqb, Err, Ok}
use Rattle.std.proofs.Common.{subst}
use Rattle.std.proofs.Math.Option.{Option, none, some, map}
use Rattle.records.specs.declared.Refusal.TheVariants as no
use Rattle.listing.specs.declared.Position.{Position}
use Rattle.listing.specs.Position.{made_of}
use Rattle.listing.specs.Step.{step_of}
use Rattle.lists.specs.Entries.{list_end, rest_of, held, update}
use Rattle.lists.specs.Answers.{entry_from, Answer, done_is, entry_is, indexless}
use Rattle.lists.specs.Machine.{Call, start, insert, remove, write, ask, Fitting, Entries, full, State, blank, holding, state_answer, state_next}
use Rattle.accepted_listing.specs.Moments.{Moment, moment_small}
use Rattle.histories.specs.Calls.{answer_of, image_left}
use Rattle.histories.specs.Agrees.{Is}

-- ---- the moves

-- the listing of this number is made, or made anew; it takes a step at one of its ends; or another call comes
pub data Move : Type 0 where
  opened : (who : ℕ) → Move
  stepped : (who : ℕ) (back : Bool) → Move
  called : Call → Move

abbrev pub FittingMove : Move → Type 0
FittingMove (opened who) = Unit {0}
FittingMove (stepped who back) = Unit {0}
FittingMove (called c) = Fitting c

-- one of many, by its number, is changed
abbrev pub changed_at : {A : Type 0} → ℕ → A → (ℕ → A) → ℕ → A
changed_at who x f k = cond (eqb k who) x (f k)

-- ---- over the words

abbrev pub move_answer : ℕ → ℕ → Move → List ℕ → (ℕ → Position) → Answer
move_answer m n (opened who) ws ps = done_is (made_of m n ws).answer
move_answer m n (stepped who back) ws ps = entry_is (step_of back m n ws (ps who)).entry
move_answer m n (called c) ws ps = answer_of m n c ws

abbrev pub move_image : ℕ → ℕ → Move → List ℕ → List ℕ
move_image m n (opened who) ws = ws
move_image m n (stepped who back) ws = ws
move_image m n (called c) ws = image_left m n c ws

abbrev pub move_positions : ℕ → ℕ → Move → List ℕ → (ℕ → Position) → ℕ → Position
move_positions m n (opened who) ws ps = changed_at who (made_of m n ws).position ps
move_positions m n (stepped who back) ws ps = changed_at who (step_of back m n ws (ps who)).position ps
move_positions m n (called c) ws ps = ps

abbrev pub move_answers : ℕ → ℕ → List Move → List ℕ → (ℕ → Position) → List Answer
move_answers m n [] ws ps = []
move_answers m n (x ∷ xs) ws ps = move_answer m n x ws ps ∷ move_answers m n xs (move_image m n x ws) (move_positions m n x ws ps)

-- the image and the positions at the end
abbrev pub image_then : ℕ → ℕ → List Move → List ℕ → List ℕ
image_then m n [] ws = ws
image_then m n (x ∷ xs) ws = image_then m n xs (move_image m n x ws)

abbrev pub positions_then : ℕ → ℕ → List Move → List ℕ → (ℕ → Position) → ℕ → Position
positions_then m n [] ws ps = ps
positions_then m n (x ∷ xs) ws ps = positions_then m n xs (move_image m n x ws) (move_positions m n x ws ps)

-- ---- over the list, and what each listing has left of it

-- A step takes from what is left. Of a listing that has outlived an insert or a remove, and of one that was never made, nothing is said.
abbrev pub step_told : Bool → Option Entries → Option Answer
step_told back none = none
step_told back (some left) = some (entry_is (entry_from (list_end back left)))

abbrev pub move_told : ℕ → Move → State → (ℕ → Option Entries) → Option Answer
move_told m (opened who) blank lefts = some (done_is (Err no.Damaged))
move_told m (opened who) (holding es) lefts = some (done_is (Ok tt))
move_told m (stepped who back) s lefts = step_told back (lefts who)
move_told m (called c) s lefts = some (state_answer m c s)

abbrev pub move_next : ℕ → Move → State → State
move_next m (opened who) s = s
move_next m (stepped who back) s = s
move_next m (called c) s = state_next m c s

-- an insert or a remove that is not refused ends a listing; a value write changes what is left as it changes the list
abbrev pub call_left : ℕ → Call → Entries → Option Entries → Option Entries
call_left m start es left = left
call_left m (insert key v) es left = cond (full m es) left none
call_left m (remove key) es left = cond (held key es) none left
call_left m (write key v) es left = map (update key v) left
call_left m (ask q) es left = left

abbrev pub move_lefts : ℕ → Move → State → (ℕ → Option Entries) → ℕ → Option Entries
move_lefts m x blank lefts = λ k. none
move_lefts m (opened who) (holding es) lefts = changed_at who (some es) lefts
move_lefts m (stepped who back) (holding es) lefts = changed_at who (map (rest_of back) (lefts who)) lefts
move_lefts m (called c) (holding es) lefts = λ k. call_left m c es (lefts k)

abbrev pub moves_told : ℕ → List Move → State → (ℕ → Option Entries) → List (Option Answer)
moves_told m [] s lefts = []
moves_told m (x ∷ xs) s lefts = move_told m x s lefts ∷ moves_told m xs (move_next m x s) (move_lefts m x s lefts)

abbrev pub state_then : ℕ → List Move → State → State
state_then m [] s = s
state_then m (x ∷ xs) s = state_then m xs (move_next m x s)

abbrev pub lefts_then : ℕ → List Move → State → (ℕ → Option Entries) → ℕ → Option Entries
lefts_then m [] s lefts = lefts
lefts_then m (x ∷ xs) s lefts = lefts_then m xs (move_next m x s) (move_lefts m x s lefts)

-- an answer is the one that is told, up to the node index
abbrev pub Meets : Answer → Option Answer → Type 0
Meets x none = Unit {0}
Meets x (some y) = indexless x ≡ y

abbrev pub MeetAll : List Answer → List (Option Answer) → Type 0
MeetAll [] [] = Unit {0}
MeetAll [] (y ∷ ys) = ⊥
MeetAll (x ∷ xs) [] = ⊥
MeetAll (x ∷ xs) (y ∷ ys) = Meets x y × MeetAll xs ys

-- ---- the image and the positions at each moment

-- one listing: its position stands where it has this left; without a promise any position will do
abbrev pub Promised : ℕ → ℕ → List ℕ → State → Position → Option Entries → Type 0
Promised m n ws blank p none = Unit {0}
Promised m n ws blank p (some left) = ⊥
Promised m n ws (holding es) p none = Unit {0}
Promised m n ws (holding es) p (some left) = Moment m n ws p es left

-- the image is in the state, and every listing stands where it should
abbrev pub Watched : ℕ → ℕ → List ℕ → (ℕ → Position) → State → (ℕ → Option Entries) → Type 0
Watched m n ws ps s lefts = Is m n ws s × ((k : ℕ) → Promised m n ws s (ps k) (lefts k))

pub unpromised : (m n : ℕ) (ws : List ℕ) (s : State) (p : Position) → Promised m n ws s p none
unpromised m n ws blank p = tt
unpromised m n ws (holding es) p = tt

-- ---- a move, and a history of moves

-- No stack of any listing passes 129, as long as something is promised of it.
pub stacks_small : (m n : ℕ) (ws : List ℕ) (ps : ℕ → Position) (s : State) (lefts : ℕ → Option Entries) → Watched m n ws ps s lefts → (k : ℕ) (left : Entries) → lefts k ≡ some left
    → ((ps k).front.count ≤ 129) × ((ps k).back.count ≤ 129)
stacks_small m n ws ps s lefts w k left e = go s (subst (λ (o : Option Entries). Promised m n ws s (ps k) o) e (w.1 k))
  where
    go : (t : State) → Promised m n ws t (ps k) (some left) → ((ps k).front.count ≤ 129) × ((ps k).back.count ≤ 129)
    go blank x = absurd x
    go (holding es) x = moment_small x
