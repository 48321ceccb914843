-- A listing on an accepted image gives exactly the entries of its list, taken from the two ends in whatever order the steps ask for them: each once, one entry a step, and then absent for ever.
use Rattle.std.specs.Prelude.{◌≡◌, refl, List, [], ◌∷◌, ◌++◌, map, Bool, ℕ, ◌≤◌, length, Err, Ok, Result}
use Rattle.std.proofs.Common.{ap, ◌∙◌}
use Rattle.std.proofs.lemmas.List.{map-append}
use Rattle.std.proofs.Math.Option.{none}
use Rattle.records.specs.declared.Refusal.{Refusal}
use Rattle.keys.specs.declared.Key.{Key}
use Rattle.records.specs.declared.Value.{Value}
use Rattle.records.specs.declared.Refusal.TheVariants as no
use Rattle.listing.specs.declared.Position.{Position}
use Rattle.listing.specs.Position.{made_of}
use Rattle.listing.specs.Step.{step_of}
use Rattle.lists.specs.Answers.{entry_from}
use Rattle.trees.specs.Walk.{taken, run}
use Rattle.accepted.specs.Accepted.{Accepted}
use Rattle.accepted_lookup.specs.Answers.{listed}
use Rattle.accepted_listing.specs.Once.{at_front, at_back, taken_all, map_constant}
use Rattle.accepted_listing.specs.Related.{made_agrees}
use Rattle.accepted_listing.specs.Moments.{Moment, moment_made, moment_gives, moment_stepped}

-- the entries of a run of steps from a position on, one for each side asked; true is the back
abbrev pub steps : List Bool → ℕ → ℕ → List ℕ → Position → List (Result (Key × Value) Refusal)
steps [] m n ws p = []
steps (back ∷ sides) m n ws p = (step_of back m n ws p).entry ∷ steps sides m n ws (step_of back m n ws p).position

steps_left : {m n : ℕ} {ws : List ℕ} {p : Position} {list left : List (Key × Value)} (sides : List Bool) → Moment m n ws p list left
    → steps sides m n ws p ≡ map entry_from (run taken left sides)
steps_left [] x = refl
steps_left {m = m} {n = n} {ws = ws} {p = p} (back ∷ sides) x =
    let here = moment_gives x back in
    let rest = steps_left {p = (step_of back m n ws p).position} sides (moment_stepped x back) in
    λ ι. here ι ∷ rest ι

-- Making a position succeeds, and the steps give what the list gives from its two ends, in every order of the steps.
pub listing_agrees : {m n : ℕ} {ws : List ℕ} (a : Accepted m n ws) (sides : List Bool)
    → ((made_of m n ws).answer ≡ Ok tt) × (steps sides m n ws (made_of m n ws).position ≡ map entry_from (run taken (listed a) sides))
listing_agrees a sides = ((made_agrees a).0, steps_left sides (moment_made a))

-- Once there were as many steps as the list is long, the front's entries and the back's are the list, and every later step answers absent.
pub listing_ends : {m n : ℕ} {ws : List ℕ} (a : Accepted m n ws) (sides more : List Bool) → length (listed a) ≤ length sides
    → (at_front sides (run taken (listed a) sides) ++ at_back sides (run taken (listed a) sides) ≡ listed a)
    × (steps (sides ++ more) m n ws (made_of m n ws).position ≡ map entry_from (run taken (listed a) sides) ++ map (λ b. Err no.Absent) more)
listing_ends a sides more l =
    let k = taken_all sides more (listed a) l in (
      k.0,
      (listing_agrees a (sides ++ more)).1
          ∙ ap (map entry_from) k.1
          ∙ map-append entry_from (run taken (listed a) sides) (map (λ b. none) more)
          ∙ ap (λ (es : List (Result (Key × Value) Refusal)). map entry_from (run taken (listed a) sides) ++ es) (map_constant entry_from none more),
    )
