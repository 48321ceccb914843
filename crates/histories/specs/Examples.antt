-- Two listings on a list of two entries, each with steps of its own: what the list tells of them, by computation alone.
use Rattle.std.specs.Prelude.{◌≡◌, refl, List, [], ◌∷◌, true, false, ℕ, Err, Ok}
use Rattle.std.proofs.Math.Option.{Option, none, some}
use Rattle.keys.specs.declared.Key.{Key}
use Rattle.keys.specs.Number.{number_of}
use Rattle.records.specs.declared.Value.{Value}
use Rattle.records.specs.declared.Refusal.TheVariants as no
use Rattle.lists.specs.Answers.{Answer, done_is, got_is, entry_is}
use Rattle.lists.specs.Machine.{remove, write, Entries, holding}
use Rattle.histories.specs.Listings.{Move, opened, stepped, called, moves_told}

abbrev one : Key
one = record { high = 0; low = 1 }

abbrev two : Key
two = record { high = 0; low = 2 }

abbrev value : ℕ → Value
value k = record { first = k; second = k }

abbrev both : Entries
both = (one, value 1) ∷ (two, value 2) ∷ []

abbrev yes_told : Option Answer
yes_told = some (done_is (Ok tt))

abbrev entry_told : Key → Value → Option Answer
entry_told key v = some (entry_is (Ok (key, v)))

abbrev end_told : Option Answer
end_told = some (entry_is (Err no.Absent))

-- Listing 0 goes from the front, listing 1 from the back, in turn: neither takes from the other. Both see a value that was written meanwhile.
abbrev in_turn : List Move
in_turn =
    opened 0 ∷ opened 1 ∷ stepped 0 false ∷ stepped 1 true ∷ called (write two (value 7)) ∷ stepped 0 false ∷ stepped 0 true ∷ stepped 1 false ∷ stepped 1 false ∷ []

pub told_in_turn : moves_told 2 in_turn (holding both) (λ k. none)
    ≡ yes_told ∷ yes_told ∷ entry_told one (value 1) ∷ entry_told two (value 2) ∷ yes_told ∷ entry_told two (value 7) ∷ end_told ∷ entry_told one (value 1) ∷ end_told ∷ []
unfolding number_of
told_in_turn = refl

-- A remove ends what is promised of both, and the one that is made anew is promised again; before a listing is made nothing is told of it.
abbrev made_anew : List Move
made_anew = stepped 0 false ∷ opened 0 ∷ opened 1 ∷ called (remove one) ∷ opened 1 ∷ stepped 0 false ∷ stepped 1 false ∷ stepped 1 false ∷ []

pub told_anew : moves_told 2 made_anew (holding both) (λ k. none)
    ≡ none ∷ yes_told ∷ yes_told ∷ some (got_is (Ok (value 1))) ∷ yes_told ∷ none ∷ entry_told two (value 2) ∷ end_told ∷ []
unfolding number_of
told_anew = refl
