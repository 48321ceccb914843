-- The holding form gives the list: a listing that holds its image, made since the last insert or remove, gives at each step what the list has left at that end.
use Rattle.std.specs.Prelude.{◌≡◌, refl, List, [], ◌∷◌, map, Bool, true, false, ℕ, Ok, Result}
use Rattle.std.proofs.Common.{sym, subst}
use Rattle.std.proofs.Math.Option.{Option, none, some}
use Rattle.std.specs.Borrow.{Bor}
use Rattle.records.specs.declared.Value.{Value}
use Rattle.records.specs.declared.Refusal.{Refusal}
use Rattle.keys.specs.declared.Key.{Key}
use Rattle.words.specs.Words.{words, Bytes}
use Rattle.records.specs.Layout.{image_of}
use Rattle.full_check.specs.Check.{check_of}
use Rattle.lists.specs.Entries.{Rising, list_end, rest_of}
use Rattle.lists.specs.Answers.{entry_from}
use Rattle.lists.specs.Machine.{Entries, State, blank, holding}
use Rattle.trees.specs.Walk.{taken, run}
use Rattle.accepted.specs.Accepted.{Accepted}
use Rattle.accepted_lookup.specs.Answers.{listed}
use Rattle.accepted_check.specs.Exact.{check_sound}
use Rattle.accepted_listing.specs.Moments.{Moment, moment_made, moment_gives, moment_stepped}
use Rattle.listing.specs.declared.Position.{Position}
use Rattle.histories.specs.Agrees.{Is}
use Rattle.histories.specs.Shapes.{ascends}
use Rattle.lent.specs.Answers.{lent_small}
use Rattle.histories.specs.Listings.{state_then, lefts_then, Promised}
use Rattle.lent.specs.Listings.{MoveRun, MoveRuns, moves_of, buffer_then, positions_last, lent_watched}
use Rattle.holding.specs.declared.Listing.{Listing}
use Rattle.holding.specs.Held.{begun, held_step, placed, moved_on, both_of}

-- what `next` and `next_back` answer one after the other, one for each side asked; true is the back
abbrev pub held_steps : List Bool → Listing → List (Result (Key × Value) Refusal)
held_steps [] l = []
held_steps (back ∷ sides) l = (held_step back l).entry ∷ held_steps sides (moved_on back l)

-- the listing stands on an accepted image with this list, and so much is left of it
abbrev pub StandsAt : Listing → Entries → Entries → Type 0
StandsAt l es left = Moment l.m l.n (image_of l.image.now) l.position es left

pub held_steps_lem : (l : Listing) (es left : Entries) → StandsAt l es left → (sides : List Bool) → held_steps sides l ≡ map entry_from (run taken left sides)
held_steps_lem l es left x [] = refl
held_steps_lem l es left x (back ∷ sides) =
    let here = moment_gives x back in
    let rest = held_steps_lem (moved_on back l) es (rest_of back left) (moment_stepped x back) sides in
    λ ι. here ι ∷ rest ι

module _ (image : Bor (List ℕ)) (m n : ℕ) (a : Accepted m n (image_of image.now)) where
  -- `list` on an accepted image: its steps are the list's, from both ends, in every order of the steps
  pub holding_lists : (sides : List Bool) → held_steps sides (begun image m n) ≡ map entry_from (run taken (listed a) sides)
  holding_lists sides = held_steps_lem (begun image m n) (listed a) (listed a) (moment_made a) sides

  -- `first_and_last`: the two ends of the list, of one entry alone only the first
  pub both_listed : both_of (begun image m n) ≡ record { first = entry_from (list_end false (listed a)); last = entry_from (list_end true (rest_of false (listed a))) }
  both_listed =
      let x = moment_made a in
      let first = moment_gives x false in
      let last = moment_gives (moment_stepped x false) true in
      λ ι. record { first = first ι; last = last ι }

-- On a buffer that the full check accepts: one ascending list, whose entries every order of steps gives from both its ends.
pub holding_checked : (image : Bor (List ℕ)) (m n : ℕ) (scratch : List ℕ) → Bytes image.now → check_of m n (image_of image.now) (words scratch) ≡ Ok tt
    → (es : Entries) × Rising es × ((sides : List Bool) → held_steps sides (begun image m n) ≡ map entry_from (run taken es sides))
holding_checked image m n scratch small e =
    let a = check_sound m n (image_of image.now) (words scratch) (lent_small image.now small) e in (listed a, ascends a, holding_lists image m n a)

-- ---- made since the last insert or remove

promised_stands : (m n : ℕ) (ws : List ℕ) (s : State) (p : Position) (left : Entries) → Promised m n ws s p (some left) → (es : Entries) × Moment m n ws p es left
promised_stands m n ws blank p left w = absurd w
promised_stands m n ws (holding es) p left w = (es, w)

-- In any history of calls and listings over a buffer: the holding form of that buffer, at the position of any listing that was made since the last insert or remove, gives what that listing has left.
pub holding_since : (m n : ℕ) (b : List ℕ) (s : State) → Is m n (image_of b) s → (ps : ℕ → Position) (moves : List MoveRun) → MoveRuns m n b ps moves
    → (who : ℕ) (left : Entries) → lefts_then m (moves_of moves) s (λ k. none) who ≡ some left
    → (image : Bor (List ℕ)) → image.now ≡ buffer_then b moves
    → (sides : List Bool) → held_steps sides (placed (begun image m n) (positions_last ps moves who)) ≡ map entry_from (run taken left sides)
holding_since m n b s i ps moves h who left e image same sides =
    let w = (lent_watched m n b s i ps moves h).1 who in
    let there = promised_stands m n (image_of (buffer_then b moves)) (state_then m (moves_of moves) s) (positions_last ps moves who) left
    (subst (λ (o : Option Entries). Promised m n (image_of (buffer_then b moves)) (state_then m (moves_of moves) s) (positions_last ps moves who) o) e w) in
    held_steps_lem (placed (begun image m n) (positions_last ps moves who)) there.0 left
    (subst (λ (bytes : List ℕ). Moment m n (image_of bytes) (positions_last ps moves who) there.0 left) (sym same) there.1) sides
