-- Of the demands in specs/Demands the one on listings, which rests on proofs/Listings.
use Rattle.std.specs.Prelude.{List, ℕ}
use Rattle.std.proofs.Math.Option.{none}
use Rattle.lists.specs.Lists.{All}
use Rattle.lists.specs.Machine.{State}
use Rattle.listing.specs.declared.Position.{Position}
use Rattle.histories.specs.Agrees.{Is}
use Rattle.histories.specs.Listings.{Move, FittingMove, move_answers, moves_told, MeetAll, image_then, state_then}
use Rattle.histories.proofs.Listings.{listing_history}

-- "Listings: from positions made since the last insert or remove": every history of calls with any number of listings in it, interleaved with the calls and with each other, from both ends.
pub listings_too : (m n : ℕ) (ws : List ℕ) (s : State) → Is m n ws s → (ps : ℕ → Position) (xs : List Move) → All FittingMove xs
    → MeetAll (move_answers m n xs ws ps) (moves_told m xs s (λ k. none)) × Is m n (image_then m n xs ws) (state_then m xs s)
listings_too = listing_history
