-- A listing that holds its image: what it is where it begins, what a step of it answers, and what it is after the step.
use Rattle.std.specs.Prelude.{List, Bool, true, false, ℕ, Err, Ok, Result}
use Rattle.std.specs.Borrow.{Bor}
use Rattle.records.specs.declared.Value.{Value}
use Rattle.records.specs.declared.Refusal.{Refusal}
use Rattle.keys.specs.declared.Key.{Key}
use Rattle.records.specs.Layout.{image_of}
use Rattle.listing.specs.declared.Position.{Position}
use Rattle.listing.specs.declared.Stepped.{Stepped}
use Rattle.listing.specs.Position.{made_of}
use Rattle.listing.specs.Step.{step_of}
use Rattle.holding.specs.declared.Listing.{Listing}
use Rattle.holding.specs.declared.Ends.{Ends}

-- the image held, and the position that a listing of it begins at
abbrev pub begun : Bor (List ℕ) → ℕ → ℕ → Listing
begun image m n = record { image = image; m = m; n = n; position = (made_of m n (image_of image.now)).position }

-- a step at an end, on the image and at the position that are held
abbrev pub held_step : Bool → Listing → Stepped
held_step back l = step_of back l.m l.n (image_of l.image.now) l.position

-- the same image, at another position
abbrev pub placed : Listing → Position → Listing
placed l p = record { image = l.image; m = l.m; n = l.n; position = p }

-- the same image, at the position after the step
abbrev pub moved_on : Bool → Listing → Listing
moved_on back l = placed l (held_step back l).position

-- a step at the front, and then one at the back
abbrev pub both_of : Listing → Ends
both_of l = record { first = (held_step false l).entry; last = (held_step true (moved_on false l)).entry }

abbrev pub is_entry : Result (Key × Value) Refusal → Bool
is_entry (Ok (k, v)) = true
is_entry (Err r) = false
