-- Histories of the code's own calls with listings among them, over the bytes of the buffer and the positions of the listings: any number of them, interleaved with the calls and with each other. What one
-- move's contract says is `MoveRan`; crate `lent_calls` proves that of `list`, `next` and `next_back`.
use Rattle.std.specs.Prelude.{◌≡◌, refl, List, [], ◌∷◌, Bool, ℕ, ◌+◌, ◌*◌, length, get_or, Ok}
use Rattle.std.proofs.Common.{sym, ap, subst, ◌∙◌}
use Rattle.std.proofs.Math.Option.{none}
use Rattle.words.specs.Words.{words, Bytes}
use Rattle.records.specs.Layout.{image_of}
use Rattle.listing.specs.declared.Made.{Made}
use Rattle.listing.specs.declared.Position.{Position}
use Rattle.listing.specs.declared.Stepped.{Stepped}
use Rattle.listing.specs.Position.{made_of}
use Rattle.listing.specs.Step.{step_of}
use Rattle.full_check.specs.Check.{check_of}
use Rattle.lists.specs.Lists.{All}
use Rattle.lists.specs.Entries.{Rising}
use Rattle.lists.specs.Answers.{Answer, done_is, entry_is}
use Rattle.lists.specs.Machine.{Entries, State, blank, holding}
use Rattle.histories.specs.Agrees.{Is}
use Rattle.histories.specs.NotEmpty.{Limits}
use Rattle.histories.specs.Listings.{Move, FittingMove, changed_at, move_answer, move_image, move_positions, move_answers, image_then, positions_then, moves_told, state_then, lefts_then, MeetAll, Watched, unpromised}
use Rattle.histories.proofs.Listings.{moves_agree}
use Rattle.histories.specs.Listings as listings
use Rattle.histories.specs.Demands.{Ends, after_any_history}
use Rattle.histories.proofs.Demands.{listings_too}
use Rattle.lent.specs.Histories.{LentCall, call_of, Ran, fitting, ran_answer, ran_image, blank_bytes, checked_bytes}

-- ---- the moves

-- the listing of this number is made, or made anew, by `list`; it takes a step by `next`, or by `next_back`; or another call comes
pub data LentMove : Type 0 where
  opened : (who : ℕ) → LentMove
  stepped : (who : ℕ) (back : Bool) → LentMove
  called : LentCall → LentMove

-- the list's move
abbrev pub move_of : LentMove → Move
move_of (opened who) = listings.opened who
move_of (stepped who back) = listings.stepped who back
move_of (called c) = listings.called (call_of c)

-- ---- a move that was made, and a history of them

-- What the contract of the move's function says, of the answer and of the buffer and the positions before and after: the listing's position is the one that it was given, every other listing's is what it
-- was. Making a listing and its steps are lent the buffer for reading; a call is lent no position.
abbrev pub MoveRan : ℕ → ℕ → LentMove → List ℕ → (ℕ → Position) → Answer → List ℕ → (ℕ → Position) → Type 0
MoveRan m n (opened who) before ps a after qs =
    (a ≡ done_is (made_of m n (image_of before)).answer) × (after ≡ before) × ((k : ℕ) → qs k ≡ changed_at who (made_of m n (image_of before)).position ps k)
MoveRan m n (stepped who back) before ps a after qs =
    (a ≡ entry_is (step_of back m n (image_of before) (ps who)).entry) × (after ≡ before) × ((k : ℕ) → qs k ≡ changed_at who (step_of back m n (image_of before) (ps who)).position ps k)
MoveRan m n (called c) before ps a after qs = Ran m n c before a after × ((k : ℕ) → qs k ≡ ps k)

-- the same of a listing that was made, and of a step from a position, whichever listing it is
pub record MadeRan (m n : ℕ) (b : List ℕ) (r : Made) : Type 0 where
  pub ran : (ps : ℕ → Position) (who : ℕ) → MoveRan m n (opened who) b ps (done_is r.answer) b (changed_at who r.position ps)

pub record StepRan (back : Bool) (m n : ℕ) (b : List ℕ) (p : Position) (r : Stepped) : Type 0 where
  pub ran : (ps : ℕ → Position) (who : ℕ) → ps who ≡ p → MoveRan m n (stepped who back) b ps (entry_is r.entry) b (changed_at who r.position ps)

pub made_ran : {m n : ℕ} {b : List ℕ} {r : Made} → r ≡ made_of m n (image_of b) → MadeRan m n b r
made_ran e = record { ran = λ ps who. (ap (λ (x : Made). done_is x.answer) e, refl, λ k. ap (λ (x : Made). changed_at who x.position ps k) e) }

pub step_ran : {back : Bool} {m n : ℕ} {b : List ℕ} {p : Position} {r : Stepped} → r ≡ step_of back m n (image_of b) p → StepRan back m n b p r
step_ran {back} {m} {n} {b} {p} {r} e =
    record {
      ran = λ ps who at.
          let same : r ≡ step_of back m n (image_of b) (ps who) = e ∙ ap (step_of back m n (image_of b)) (sym at) in
          (ap (λ (x : Stepped). entry_is x.entry) same, refl, λ k. ap (λ (x : Stepped). changed_at who x.position ps k) same);
    }

-- a move, what it answered, and the buffer and the positions afterwards
pub record MoveRun : Type 0 where
  pub move : LentMove
  pub answer : Answer
  pub after : List ℕ
  pub positions : ℕ → Position

-- each begins with what the one before it left
abbrev pub MoveRuns : ℕ → ℕ → List ℕ → (ℕ → Position) → List MoveRun → Type 0
MoveRuns m n b ps [] = Unit {0}
MoveRuns m n b ps (r ∷ run) = MoveRan m n r.move b ps r.answer r.after r.positions × MoveRuns m n r.after r.positions run

abbrev pub moves_of : List MoveRun → List Move
moves_of [] = []
moves_of (r ∷ run) = move_of r.move ∷ moves_of run

abbrev pub move_answers_in : List MoveRun → List Answer
move_answers_in [] = []
move_answers_in (r ∷ run) = r.answer ∷ move_answers_in run

abbrev pub buffer_then : List ℕ → List MoveRun → List ℕ
buffer_then b [] = b
buffer_then b (r ∷ run) = buffer_then r.after run

abbrev pub positions_last : (ℕ → Position) → List MoveRun → ℕ → Position
positions_last ps [] = ps
positions_last ps (r ∷ run) = positions_last r.positions run

-- ---- a move that was made is the move over the words

fitting_move : (x : LentMove) → FittingMove (move_of x)
fitting_move (opened who) = tt
fitting_move (stepped who back) = tt
fitting_move (called c) = fitting c

fitting_moves : (run : List MoveRun) → All FittingMove (moves_of run)
fitting_moves [] = tt
fitting_moves (r ∷ run) = (fitting_move r.move, fitting_moves run)

module _ (m n : ℕ) (before : List ℕ) (ps : ℕ → Position) (a : Answer) (after : List ℕ) (qs : ℕ → Position) where
  move_answer_lem : (x : LentMove) → MoveRan m n x before ps a after qs → a ≡ move_answer m n (move_of x) (image_of before) ps
  move_answer_lem (opened who) r = r.0
  move_answer_lem (stepped who back) r = r.0
  move_answer_lem (called c) r = ran_answer m n before a after c r.0

  move_image_lem : (x : LentMove) → MoveRan m n x before ps a after qs → image_of after ≡ move_image m n (move_of x) (image_of before)
  move_image_lem (opened who) r = ap image_of r.1
  move_image_lem (stepped who back) r = ap image_of r.1
  move_image_lem (called c) r = ran_image m n before a after c r.0

  move_positions_lem : (x : LentMove) → MoveRan m n x before ps a after qs → qs ≡ move_positions m n (move_of x) (image_of before) ps
  move_positions_lem (opened who) r = λ ι k. r.2 k ι
  move_positions_lem (stepped who back) r = λ ι k. r.2 k ι
  move_positions_lem (called c) r = λ ι k. r.1 k ι

module _ (m n : ℕ) where
  moves_answers : (b : List ℕ) (ps : ℕ → Position) (run : List MoveRun) → MoveRuns m n b ps run → move_answers_in run ≡ move_answers m n (moves_of run) (image_of b) ps
  moves_answers b ps [] h = refl
  moves_answers b ps (r ∷ run) h =
      let here = move_answer_lem m n b ps r.answer r.after r.positions r.move h.0 in
      let image = move_image_lem m n b ps r.answer r.after r.positions r.move h.0 in
      let positions = move_positions_lem m n b ps r.answer r.after r.positions r.move h.0 in
      let rest = moves_answers r.after r.positions run h.1 ∙ (λ ι. move_answers m n (moves_of run) (image ι) (positions ι)) in
      λ ι. here ι ∷ rest ι

  moves_image : (b : List ℕ) (ps : ℕ → Position) (run : List MoveRun) → MoveRuns m n b ps run → image_of (buffer_then b run) ≡ image_then m n (moves_of run) (image_of b)
  moves_image b ps [] h = refl
  moves_image b ps (r ∷ run) h = moves_image r.after r.positions run h.1 ∙ ap (image_then m n (moves_of run)) (move_image_lem m n b ps r.answer r.after r.positions r.move h.0)

  moves_positions : (b : List ℕ) (ps : ℕ → Position) (run : List MoveRun) → MoveRuns m n b ps run → positions_last ps run ≡ positions_then m n (moves_of run) (image_of b) ps
  moves_positions b ps [] h = refl
  moves_positions b ps (r ∷ run) h =
      let image = move_image_lem m n b ps r.answer r.after r.positions r.move h.0 in
      let positions = move_positions_lem m n b ps r.answer r.after r.positions r.move h.0 in
      moves_positions r.after r.positions run h.1 ∙ (λ ι. positions_then m n (moves_of run) (image ι) (positions ι))

-- ---- the theorem

-- At the end of any history the buffer is in the list's state, and every listing of which something is promised stands where it has that left.
pub lent_watched : (m n : ℕ) (b : List ℕ) (s : State) → Is m n (image_of b) s → (ps : ℕ → Position) (run : List MoveRun) → MoveRuns m n b ps run
    → Watched m n (image_of (buffer_then b run)) (positions_last ps run) (state_then m (moves_of run) s) (lefts_then m (moves_of run) s (λ k. none))
lent_watched m n b s i ps run h =
    let t = moves_agree m n (image_of b) ps s (λ k. none) (i, λ k. unpromised m n (image_of b) s (ps k)) (moves_of run) (fitting_moves run) in
    let image = moves_image m n b ps run h in
    let positions = moves_positions m n b ps run h in
    rw (image, positions) t.1

-- In any history from a buffer that is blank memory or holds a list, whatever positions there were before, each answer is the one that the list tells, and the last buffer is in the list's last state.
pub lent_listings_too : (m n : ℕ) (b : List ℕ) (s : State) → Is m n (image_of b) s → (ps : ℕ → Position) (run : List MoveRun) → MoveRuns m n b ps run
    → MeetAll (move_answers_in run) (moves_told m (moves_of run) s (λ k. none)) × Is m n (image_of (buffer_then b run)) (state_then m (moves_of run) s)
lent_listings_too m n b s i ps run h =
    let t = listings_too m n (image_of b) s i ps (moves_of run) (fitting_moves run) in (
      subst (λ (xs : List Answer). MeetAll xs (moves_told m (moves_of run) s (λ k. none))) (sym (moves_answers m n b ps run h)) t.0,
      subst (λ (ws : List ℕ). Is m n ws (state_then m (moves_of run) s)) (sym (moves_image m n b ps run h)) t.1,
    )

-- an image that is in a state is one that a history may end with in that state
is_ends : (m n : ℕ) (ws : List ℕ) (s : State) → Is m n ws s → Ends m n ws s
is_ends m n ws s i = (after_any_history m n ws s i [] tt).1

-- From zero bytes: the history of a list that is not started yet.
pub listings_from_blank_bytes : (m n : ℕ) → Limits m n → (b : List ℕ) → length b ≡ 48 + 48 * n + 32 * m → ((k : ℕ) → get_or b k 0 ≡ 0)
    → (ps : ℕ → Position) (run : List MoveRun) → MoveRuns m n b ps run
    → MeetAll (move_answers_in run) (moves_told m (moves_of run) blank (λ k. none)) × Ends m n (image_of (buffer_then b run)) (state_then m (moves_of run) blank)
listings_from_blank_bytes m n l b long zeros ps run h =
    let t = lent_listings_too m n b blank (blank_bytes m n l b long zeros) ps run h in (t.0, is_ends m n (image_of (buffer_then b run)) (state_then m (moves_of run) blank) t.1)

-- From any buffer that the full check accepts: the history of one ascending list.
pub listings_from_checked_bytes : (m n : ℕ) (b scratch : List ℕ) → Bytes b → check_of m n (image_of b) (words scratch) ≡ Ok tt
    → (es : Entries) × Rising es
    × ((ps : ℕ → Position) (run : List MoveRun) → MoveRuns m n b ps run
    → MeetAll (move_answers_in run) (moves_told m (moves_of run) (holding es) (λ k. none)) × Ends m n (image_of (buffer_then b run)) (state_then m (moves_of run) (holding es)))
listings_from_checked_bytes m n b scratch small e =
    let c = checked_bytes m n b scratch small e in (
      c.0,
      c.1,
      λ ps run h.
          let t = lent_listings_too m n b (holding c.0) c.2 ps run h in (t.0, is_ends m n (image_of (buffer_then b run)) (state_then m (moves_of run) (holding c.0)) t.1),
    )
