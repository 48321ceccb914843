-- What the list's machine computes on short histories: each line is an equation that holds by computation alone. The keys are those of the bench examples of the rules B, "A is 2^127, B is 0, C is 1".
use Rattle.std.specs.Prelude.{◌≡◌, refl, [], ◌∷◌, map, ℕ, ◌^◌, Err, Ok}
use Rattle.keys.specs.declared.Key.{Key}
use Rattle.keys.specs.Number.{number_of}
use Rattle.records.specs.declared.Value.{Value}
use Rattle.records.specs.declared.Refusal.TheVariants as no
use Rattle.records.specs.Numbers.{refusal_number, answer_number}
use Rattle.lists.specs.Answers.{done_is, got_is, place_is, entry_is, count_from, number_in, somewhere}
use Rattle.lists.specs.Machine.{start, insert, remove, write, ask, get, contains, address, len, capacity, smallest, largest, check, Entries, blank, holding, state_answers, state_after}

abbrev A : Key
A = record { high = 2 ^ 63; low = 0 }

abbrev B : Key
B = record { high = 0; low = 0 }

abbrev C : Key
C = record { high = 0; low = 1 }

abbrev value : ℕ → Value
value k = record { first = k; second = k }

abbrev two : Entries
two = (B, value 2) ∷ (A, value 1) ∷ []

-- Entries stand in ascending order of their keys, in whatever order they were inserted.
pub entered : state_after 3 (start ∷ insert A (value 1) ∷ insert B (value 2) ∷ insert C (value 3) ∷ []) blank ≡ holding ((B, value 2) ∷ (C, value 3) ∷ (A, value 1) ∷ [])
unfolding number_of
entered = refl

-- An insert of a held key gives it the new value, and no entry more.
pub replaced :
    (state_after 3 (insert B (value 4) ∷ []) (holding two) ≡ holding ((B, value 4) ∷ (A, value 1) ∷ []))
    × (state_answers 3 (insert B (value 4) ∷ ask (get B) ∷ ask len ∷ []) (holding two) ≡ somewhere ∷ got_is (Ok (value 4)) ∷ count_from (Ok 2) ∷ [])
unfolding number_of
replaced = (refl, refl)

-- A full list refuses every insert, of a new key and of a held one, and stays as it is.
pub full_refused :
    (state_answers 2 (insert C (value 3) ∷ insert B (value 4) ∷ []) (holding two) ≡ place_is (Err no.Full) ∷ place_is (Err no.Full) ∷ [])
    × (state_after 2 (insert C (value 3) ∷ insert B (value 4) ∷ []) (holding two) ≡ holding two)
unfolding number_of
full_refused = (refl, refl)

-- Remove gives the value and takes the entry out; after it the key is absent, and to remove it again changes nothing.
pub removed :
    (state_answers 2 (remove B ∷ remove B ∷ ask (get B) ∷ ask len ∷ []) (holding two)
    ≡ got_is (Ok (value 2)) ∷ got_is (Err no.Absent) ∷ got_is (Err no.Absent) ∷ count_from (Ok 1) ∷ [])
    × (state_after 2 (remove B ∷ remove B ∷ []) (holding two) ≡ holding ((A, value 1) ∷ []))
unfolding number_of
removed = (refl, refl)

-- The value write gives a held key the value, and no key that is not held.
pub written :
    (state_answers 2 (write A (value 5) ∷ write C (value 3) ∷ []) (holding two) ≡ done_is (Ok tt) ∷ done_is (Err no.Absent) ∷ [])
    × (state_after 2 (write A (value 5) ∷ write C (value 3) ∷ []) (holding two) ≡ holding ((B, value 2) ∷ (A, value 5) ∷ []))
unfolding number_of
written = (refl, refl)

-- The ends are the least and the greatest key; an empty list has none.
pub both_ends_listed :
    (state_answers 2 (ask smallest ∷ ask largest ∷ []) (holding two) ≡ entry_is (Ok (B, (value 2))) ∷ entry_is (Ok (A, (value 1))) ∷ [])
    × (state_answers 2 (ask smallest ∷ ask largest ∷ []) (holding []) ≡ entry_is (Err no.Absent) ∷ entry_is (Err no.Absent) ∷ [])
both_ends_listed = (refl, refl)

-- The other questions: what is there, how much, and how much there may be; the check wants as many words of scratch.
pub asked :
    state_answers 2 (ask (contains A) ∷ ask (contains C) ∷ ask (address A) ∷ ask (address C) ∷ ask capacity ∷ ask (check (0 ∷ 0 ∷ [])) ∷ ask (check (0 ∷ [])) ∷ []) (holding two)
    ≡ done_is (Ok tt)
    ∷ done_is (Err no.Absent)
    ∷ somewhere
    ∷ place_is (Err no.Absent)
    ∷ count_from (Ok 2)
    ∷ done_is (Ok tt)
    ∷ done_is (Err no.Shape)
    ∷ []
unfolding number_of
asked = refl

-- Blank memory refuses everything as damaged but the start, which only a list refuses; by number.
pub started :
    map number_in (state_answers 2 (ask len ∷ insert A (value 1) ∷ remove A ∷ ask (check []) ∷ start ∷ ask len ∷ start ∷ []) blank) ≡ 2 ∷ 2 ∷ 2 ∷ 1 ∷ 0 ∷ 0 ∷ 5 ∷ []
unfolding number_in refusal_number answer_number
started = refl
