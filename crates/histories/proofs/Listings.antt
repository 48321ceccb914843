-- Any history of the map's calls with listings among them has the answers of the list's history.
use Rattle.std.specs.Prelude.{◌≡◌, refl, List, [], ◌∷◌, Bool, true, false, cond, ℕ, length, eqb, Err, Result}
use Rattle.std.proofs.Common.{sym, ap, subst, ◌∙◌, arith, eqb-true}
use Rattle.std.proofs.Math.Option.{Option, none, some, map}
use Rattle.records.specs.declared.Value.{Value}
use Rattle.records.specs.declared.Refusal.{Refusal}
use Rattle.keys.specs.declared.Key.{Key}
use Rattle.records.specs.declared.Refusal.TheVariants as no
use Rattle.inspection.specs.Room.{Shaped}
use Rattle.records.specs.Numbers.{refusal_number, answer_number}
use Rattle.listing.specs.declared.Position.{Position}
use Rattle.listing.specs.Position.{opened_made, made_of}
use Rattle.listing.specs.Step.{step_of}
use Rattle.insert.specs.Steps.{insert_image}
use Rattle.remove.specs.Steps.{remove_of, removed_image}
use Rattle.remove.specs.Promises.{refused_keeps}
use Rattle.lists.specs.Lists.{All}
use Rattle.lists.specs.Entries.{rest_of, held, unheld, find_none, erase, erase_none, enter}
use Rattle.lists.specs.Answers.{got_from, done_is, entry_is}
use Rattle.lists.specs.Machine.{Call, start, insert, remove, write, ask, Fitting, Entries, full, State, blank, holding, state_next}
use Rattle.accepted.specs.Accepted.{Accepted}
use Rattle.accepted_lookup.specs.Answers.{listed}
use Rattle.accepted_write.specs.Start.{Blank}
use Rattle.accepted_insert.specs.Call.{insert_agrees}
use Rattle.accepted_remove.specs.Call.{remove_agrees}
use Rattle.accepted_listing.specs.Related.{made_agrees}
use Rattle.accepted_listing.specs.Moments.{Moment, moment_made, moment_gives, moment_stepped, moment_written}
use Rattle.histories.specs.Calls.{image_left}
use Rattle.histories.specs.Blank.{start_refused, shut_blank}
use Rattle.histories.specs.Agrees.{Is, agrees}
use Rattle.histories.specs.Listings.{Move, FittingMove, changed_at, move_answer, move_image, move_positions, move_answers, image_then, positions_then, step_told, move_told, move_next, call_left, move_lefts, moves_told, state_then, lefts_then, Meets, MeetAll, Promised, Watched, unpromised, opened, stepped, called}

-- what holds of the new one and of all the old ones holds of all of them
changed_both : {A B : Type 0} (P : A → B → Type 0) (who : ℕ) (x : A) (y : B) (f : ℕ → A) (g : ℕ → B) → P x y → ((k : ℕ) → P (f k) (g k)) → (k : ℕ) → P (changed_at who x f k) (changed_at who y g k)
changed_both P who x y f g new old k = go (eqb k who)
  where
    go : (b : Bool) → P (cond b x (f k)) (cond b y (g k))
    go true = new
    go false = old k

-- ---- a call between the steps

-- a key that is not held: remove refuses, and leaves every word
remove_missed : {m n : ℕ} {ws : List ℕ} (a : Accepted m n ws) (key : Key) → held key (listed a) ≡ false → removed_image m n ws key ≡ ws
unfolding answer_number refusal_number
remove_missed {m} {n} {ws} a key e =
    let q : answer_number (remove_of m n ws key) ≡ 4 = ap answer_number ((remove_agrees a key).0 ∙ ap got_from (find_none key (listed a) (unheld key (listed a) e))) in
    refused_keeps m n ws key (λ z. omega arith)

-- on blank memory no listing is made
made_blank : (m n : ℕ) (ws : List ℕ) → Shaped m n (length ws) → Blank ws → (made_of m n ws).answer ≡ Err no.Damaged
unfolding made_of opened_made
made_blank m n ws shape zeros = rw (shut_blank m n ws shape zeros)

module _ (m n : ℕ) (ws : List ℕ) (p : Position) (es : Entries) where
  moment_kept : (vs : List ℕ) (left : Entries) → vs ≡ ws → Moment m n ws p es left → Moment m n vs p es left
  moment_kept vs left e w = subst (λ (us : List ℕ). Moment m n us p es left) (sym e) w

  called_some : (left : Entries) (c : Call) → Fitting c → Moment m n ws p es left → Promised m n (image_left m n c ws) (state_next m c (holding es)) p (call_left m c es (some left))
  called_some left start f w = moment_kept (image_left m n start ws) left (start_refused w.image).1 w
  called_some left (insert key v) f w = go (full m es) refl
    where
      go : (b : Bool) → full m es ≡ b → Promised m n (insert_image m n ws key v) (holding (cond b es (enter key v es))) p (cond b (some left) none)
      go true e =
          let filled : length (listed w.image) ≡ m = ap length w.same_list ∙ eqb-true (length es) m e in
          moment_kept (insert_image m n ws key v) left ((insert_agrees w.image key f.0 v f.1).0 filled).1 w
      go false e = tt
  called_some left (remove key) f w = go (held key es) refl
    where
      go : (b : Bool) → held key es ≡ b → Promised m n (removed_image m n ws key) (holding (erase key es)) p (cond b none (some left))
      go true e = tt
      go false e =
          let missed : held key (listed w.image) ≡ false = ap (held key) w.same_list ∙ e in
          rw (erase_none key es (unheld key es e)) (moment_kept (removed_image m n ws key) left (remove_missed w.image key missed) w)
  called_some left (write key v) f w = moment_written w key v f
  called_some left (ask q) f w = w

  -- a call makes no promise
  called_none : (c : Call) → Promised m n (image_left m n c ws) (state_next m c (holding es)) p (call_left m c es none)
  called_none start = tt
  called_none (insert key v) = go (full m es)
    where
      go : (b : Bool) → Promised m n (insert_image m n ws key v) (holding (cond (full m es) es (enter key v es))) p (cond b none none)
      go true = tt
      go false = tt
  called_none (remove key) = go (held key es)
    where
      go : (b : Bool) → Promised m n (removed_image m n ws key) (holding (erase key es)) p (cond b none none)
      go true = tt
      go false = tt
  called_none (write key v) = tt
  called_none (ask q) = tt

  called_one : (left : Option Entries) (c : Call) → Fitting c → Promised m n ws (holding es) p left
      → Promised m n (image_left m n c ws) (state_next m c (holding es)) p (call_left m c es left)
  called_one none c f w = called_none c
  called_one (some left) c f w = called_some left c f w

-- ---- a step of one listing

-- It gives the end of what is left, and stands at the rest.
step_one : (m n : ℕ) (ws : List ℕ) (s : State) (p : Position) (left : Option Entries) → Promised m n ws s p left → (back : Bool)
    → Meets (entry_is (step_of back m n ws p).entry) (step_told back left) × Promised m n ws s (step_of back m n ws p).position (map (rest_of back) left)
step_one m n ws blank p none w back = (tt, tt)
step_one m n ws blank p (some left) w back = absurd w
step_one m n ws (holding es) p none w back = (tt, tt)
step_one m n ws (holding es) p (some left) w back = (ap (λ (e : Result (Key × Value) Refusal). entry_is e) (moment_gives w back), moment_stepped w back)

-- Each answer is the one that the list gives, and the next moment is the list's.
pub move_agrees : (m n : ℕ) (ws : List ℕ) (ps : ℕ → Position) (s : State) (lefts : ℕ → Option Entries) → Watched m n ws ps s lefts → (x : Move) → FittingMove x
    → Meets (move_answer m n x ws ps) (move_told m x s lefts) × Watched m n (move_image m n x ws) (move_positions m n x ws ps) (move_next m x s) (move_lefts m x s lefts)
move_agrees m n ws ps blank lefts w (opened who) f = (ap (λ (d : Result Unit Refusal). done_is d) (made_blank m n ws w.0.0 w.0.1), (w.0, λ k. tt))
move_agrees m n ws ps blank lefts w (stepped who back) f = ((step_one m n ws blank (ps who) (lefts who) (w.1 who) back).0, (w.0, λ k. tt))
move_agrees m n ws ps blank lefts w (called c) f =
    let r = agrees m n ws blank w.0 c f in (r.0, (r.1, λ k. unpromised m n (image_left m n c ws) (state_next m c blank) (ps k)))
move_agrees m n ws ps (holding es) lefts w (opened who) f =
    let a = w.0.0 in
    let made : Moment m n ws (made_of m n ws).position es es = subst (λ (l : Entries). Moment m n ws (made_of m n ws).position l l) w.0.1 (moment_made a) in
    (ap (λ (d : Result Unit Refusal). done_is d) (made_agrees a).0, (w.0, changed_both (Promised m n ws (holding es)) who (made_of m n ws).position (some es) ps lefts made w.1))
move_agrees m n ws ps (holding es) lefts w (stepped who back) f =
    let r = step_one m n ws (holding es) (ps who) (lefts who) (w.1 who) back in
    (r.0, (w.0, changed_both (Promised m n ws (holding es)) who (step_of back m n ws (ps who)).position (map (rest_of back) (lefts who)) ps lefts r.1 w.1))
move_agrees m n ws ps (holding es) lefts w (called c) f =
    let r = agrees m n ws (holding es) w.0 c f in (r.0, (r.1, λ k. called_one m n ws (ps k) es (lefts k) c f (w.1 k)))

-- From any moment, any history of the map's calls with listings among them has the answers of the list's history, and its end is a moment again: each listing stands where the list's history leaves it.
pub moves_agree : (m n : ℕ) (ws : List ℕ) (ps : ℕ → Position) (s : State) (lefts : ℕ → Option Entries) → Watched m n ws ps s lefts → (xs : List Move) → All FittingMove xs
    → MeetAll (move_answers m n xs ws ps) (moves_told m xs s lefts) × Watched m n (image_then m n xs ws) (positions_then m n xs ws ps) (state_then m xs s) (lefts_then m xs s lefts)
moves_agree m n ws ps s lefts w [] f = (tt, w)
moves_agree m n ws ps s lefts w (x ∷ xs) f =
    let here = move_agrees m n ws ps s lefts w x f.0 in
    let rest = moves_agree m n (move_image m n x ws) (move_positions m n x ws ps) (move_next m x s) (move_lefts m x s lefts) here.1 xs f.1 in
    ((here.0, rest.0), rest.1)

-- From blank memory or an accepted image, whatever positions there were before: nothing is said of a listing's steps until it is made.
pub listing_history : (m n : ℕ) (ws : List ℕ) (s : State) → Is m n ws s → (ps : ℕ → Position) (xs : List Move) → All FittingMove xs
    → MeetAll (move_answers m n xs ws ps) (moves_told m xs s (λ k. none)) × Is m n (image_then m n xs ws) (state_then m xs s)
listing_history m n ws s i ps xs f = let r = moves_agree m n ws ps s (λ k. none) (i, λ k. unpromised m n ws s (ps k)) xs f in (r.0, r.1.0)
