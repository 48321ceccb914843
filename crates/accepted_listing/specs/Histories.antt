-- A listing on an accepted image with value writes between its steps: the entries given are those of the list as it is at each step, each key is given once, and no stack passes 129.
use Rattle.std.specs.Prelude.{◌≡◌, refl, List, [], ◌∷◌, ◌++◌, map, Bool, true, false, cond, ℕ, ◌≤◌, length, Err, Ok, Result}
use Rattle.std.proofs.Common.{sym, ap, ◌∙◌, arith}
use Rattle.std.proofs.lemmas.List.{map-append, length-map}
use Rattle.std.proofs.Math.Option
use Rattle.std.proofs.Math.Option.{Option, none, some}
use Rattle.records.specs.declared.Refusal.{Refusal}
use Rattle.keys.specs.declared.Key.{Key}
use Rattle.records.specs.declared.Value.{Value}
use Rattle.records.specs.declared.Refusal.TheVariants as no
use Rattle.lookup.specs.Get.{write_image}
use Rattle.listing.specs.declared.Position.{Position}
use Rattle.listing.specs.Position.{made_of}
use Rattle.listing.specs.Step.{step_of}
use Rattle.lists.specs.Entries.{same, list_end, rest_of, find, update}
use Rattle.lists.specs.Answers.{entry_from}
use Rattle.lists.specs.Machine.{FitsValue}
use Rattle.trees.specs.Walk.{taken, run}
use Rattle.accepted.specs.Accepted.{Accepted}
use Rattle.accepted_lookup.specs.Answers.{listed}
use Rattle.accepted_listing.specs.Once.{at_front, at_back, left, taken_once, taken_all, left_length, no_elements, end_map, rest_map, map_constant}
use Rattle.accepted_listing.specs.Segments.{Segment}
use Rattle.accepted_listing.specs.Moments.{Moment, moment_made, moment_gives, moment_stepped, moment_written, moment_small, moment_segment, moment_value}

-- ---- the moves

-- a step at one of the ends, or a value write
pub data Move : Type 0 where
  stepped : (back : Bool) → Move
  written : (key : Key) (value : Value) → Move

-- the values that are written fit their words, as every value that a call takes
abbrev pub Fitting : List Move → Type 0
Fitting [] = Unit {0}
Fitting (stepped back ∷ moves) = Fitting moves
Fitting (written key v ∷ moves) = FitsValue v × Fitting moves

-- the sides of the steps
abbrev pub sides_of : List Move → List Bool
sides_of [] = []
sides_of (stepped back ∷ moves) = back ∷ sides_of moves
sides_of (written key v ∷ moves) = sides_of moves

-- over the words: the entries of the steps, the image afterwards, and the position
abbrev pub heard : List Move → ℕ → ℕ → List ℕ → Position → List (Result (Key × Value) Refusal)
heard [] m n ws p = []
heard (stepped back ∷ moves) m n ws p = (step_of back m n ws p).entry ∷ heard moves m n ws (step_of back m n ws p).position
heard (written key v ∷ moves) m n ws p = heard moves m n (write_image m n ws key v) p

abbrev pub image_after : List Move → ℕ → ℕ → List ℕ → List ℕ
image_after [] m n ws = ws
image_after (stepped back ∷ moves) m n ws = image_after moves m n ws
image_after (written key v ∷ moves) m n ws = image_after moves m n (write_image m n ws key v)

abbrev pub position_after : List Move → ℕ → ℕ → List ℕ → Position → Position
position_after [] m n ws p = p
position_after (stepped back ∷ moves) m n ws p = position_after moves m n ws (step_of back m n ws p).position
position_after (written key v ∷ moves) m n ws p = position_after moves m n (write_image m n ws key v) p

-- over the list: a step takes from what is left, and a write changes the value of its key where the key is left
abbrev pub told : List Move → List (Key × Value) → List (Option (Key × Value))
told [] left = []
told (stepped back ∷ moves) left = list_end back left ∷ told moves (rest_of back left)
told (written key v ∷ moves) left = told moves (update key v left)

abbrev pub left_after : List Move → List (Key × Value) → List (Key × Value)
left_after [] left = left
left_after (stepped back ∷ moves) left = left_after moves (rest_of back left)
left_after (written key v ∷ moves) left = left_after moves (update key v left)

-- the whole list, which the writes alone change
abbrev pub list_after : List Move → List (Key × Value) → List (Key × Value)
list_after [] list = list
list_after (stepped back ∷ moves) list = list_after moves list
list_after (written key v ∷ moves) list = list_after moves (update key v list)

heard_left : {m n : ℕ} {ws : List ℕ} {p : Position} {list left : List (Key × Value)} (moves : List Move) → Fitting moves → Moment m n ws p list left
    → heard moves m n ws p ≡ map entry_from (told moves left)
heard_left [] f x = refl
heard_left {m = m} {n = n} {ws = ws} {p = p} (stepped back ∷ moves) f x =
    let here = moment_gives x back in
    let rest = heard_left {p = (step_of back m n ws p).position} moves f (moment_stepped x back) in
    λ ι. here ι ∷ rest ι
heard_left {m = m} {n = n} {ws = ws} (written key v ∷ moves) f x = heard_left {ws = write_image m n ws key v} moves f.1 (moment_written x key v f.0)

-- The entries given are those of the list as it is at each step.
pub history_agrees : {m n : ℕ} {ws : List ℕ} (a : Accepted m n ws) (moves : List Move) → Fitting moves
    → heard moves m n ws (made_of m n ws).position ≡ map entry_from (told moves (listed a))
history_agrees a moves f = heard_left moves f (moment_made a)

-- ---- the keys, each once

abbrev keys_in : List (Key × Value) → List Key
keys_in es = map (λ e. e.0) es

update_keys : (key : Key) (v : Value) (es : List (Key × Value)) → keys_in (update key v es) ≡ keys_in es
update_keys key v [] = refl
update_keys key v (e ∷ es) = go (same key e.0) (update_keys key v es)
  where
    go : (b : Bool) → keys_in (update key v es) ≡ keys_in es → keys_in (cond b ((e.0, v) ∷ es) (e ∷ update key v es)) ≡ e.0 ∷ keys_in es
    go true f = refl
    go false f = ap (λ (l : List Key). e.0 ∷ l) f

-- the keys of the answers
abbrev pub keys_told : List Move → List (Key × Value) → List (Option Key)
keys_told moves xs = map (Option.map (λ e. e.0)) (told moves xs)

-- The keys given are those that the steps alone take from the list of keys: a value write changes none.
pub history_keys : (moves : List Move) (xs : List (Key × Value)) → keys_told moves xs ≡ run taken (map (λ e. e.0) xs) (sides_of moves)
history_keys [] xs = refl
history_keys (stepped back ∷ moves) xs =
    let here : Option.map (λ e. e.0) (list_end back xs) ≡ list_end back (keys_in xs) = sym (end_map (λ e. e.0) back xs) in
    let rest : keys_told moves (rest_of back xs) ≡ run taken (rest_of back (keys_in xs)) (sides_of moves) =
    history_keys moves (rest_of back xs) ∙ ap (λ (l : List Key). run taken l (sides_of moves)) (sym (rest_map (λ e. e.0) back xs)) in
    λ ι. here ι ∷ rest ι
history_keys (written key v ∷ moves) xs = history_keys moves (update key v xs) ∙ ap (λ (l : List Key). run taken l (sides_of moves)) (update_keys key v xs)

-- what the front gave, what is left and what the back gave are the keys of the list
pub history_once : (moves : List Move) (xs : List (Key × Value))
    → at_front (sides_of moves) (keys_told moves xs) ++ (left (sides_of moves) (map (λ e. e.0) xs) ++ at_back (sides_of moves) (keys_told moves xs)) ≡ map (λ e. e.0) xs
history_once moves xs = rw (history_keys moves xs) (taken_once (sides_of moves) (keys_in xs))

left_keys : (moves : List Move) (xs : List (Key × Value)) → keys_in (left_after moves xs) ≡ left (sides_of moves) (keys_in xs)
left_keys [] xs = refl
left_keys (stepped back ∷ moves) xs = left_keys moves (rest_of back xs) ∙ ap (λ (l : List Key). left (sides_of moves) l) (sym (rest_map (λ e. e.0) back xs))
left_keys (written key v ∷ moves) xs = left_keys moves (update key v xs) ∙ ap (λ (l : List Key). left (sides_of moves) l) (update_keys key v xs)

-- ---- the end of the listing

told_append : (moves more : List Move) (xs : List (Key × Value)) → told (moves ++ more) xs ≡ told moves xs ++ told more (left_after moves xs)
told_append [] more xs = refl
told_append (stepped back ∷ moves) more xs = ap (λ (l : List (Option (Key × Value))). list_end back xs ∷ l) (told_append moves more (rest_of back xs))
told_append (written key v ∷ moves) more xs = told_append moves more (update key v xs)

told_none : (moves : List Move) → told moves [] ≡ map (λ b. none) (sides_of moves)
told_none [] = refl
told_none (stepped back ∷ moves) = ap (λ (l : List (Option (Key × Value))). none ∷ l) (told_none moves)
told_none (written key v ∷ moves) = told_none moves

-- as many steps as the list is long leave nothing
nothing_left : (moves : List Move) (xs : List (Key × Value)) → length xs ≤ length (sides_of moves) → left_after moves xs ≡ []
nothing_left moves xs l =
    no_elements (left_after moves xs)
    (omega (
      arith,
      ap length (left_keys moves xs),
      length-map {B = Key} (left_after moves xs) (λ e. e.0),
      length-map {B = Key} xs (λ e. e.0),
      left_length (sides_of moves) (keys_in xs),
    ))

told_ends : (moves more : List Move) (xs : List (Key × Value)) → length xs ≤ length (sides_of moves) → told (moves ++ more) xs ≡ told moves xs ++ map (λ b. none) (sides_of more)
told_ends moves more xs l = told_append moves more xs ∙ rw (nothing_left moves xs l, told_none more)

-- Once there were as many steps as the list is long, every key was given, each once, and every later step answers absent.
pub history_ends : {m n : ℕ} {ws : List ℕ} (a : Accepted m n ws) (moves more : List Move) → Fitting (moves ++ more) → length (listed a) ≤ length (sides_of moves)
    → (at_front (sides_of moves) (keys_told moves (listed a)) ++ at_back (sides_of moves) (keys_told moves (listed a)) ≡ map (λ e. e.0) (listed a))
    × (heard (moves ++ more) m n ws (made_of m n ws).position ≡ map entry_from (told moves (listed a)) ++ map (λ b. Err no.Absent) (sides_of more))
history_ends a moves more f l = (
  rw (history_keys moves (listed a)) (taken_all (sides_of moves) [] (keys_in (listed a)) (omega (arith, length-map {B = Key} (listed a) (λ e. e.0)))).0,
  history_agrees a (moves ++ more) f
      ∙ ap (map entry_from) (told_ends moves more (listed a) l)
      ∙ map-append entry_from (told moves (listed a)) (map (λ b. none) (sides_of more))
      ∙ ap (λ (es : List (Result (Key × Value) Refusal)). map entry_from (told moves (listed a)) ++ es) (map_constant entry_from none (sides_of more)),
)

-- ---- at every moment

-- what holds after the moves, from the position that is made on a
pub record Now {m n : ℕ} {ws : List ℕ} (a : Accepted m n ws) (moves : List Move) : Type 0 where
  -- the image is accepted, and its list is the one that the writes leave
  pub image : Accepted m n (image_after moves m n ws)
  pub same_list : listed image ≡ list_after moves (listed a)
  -- what is left is a segment of that list
  pub segment : Segment (left_after moves (listed a)) (listed image)
  -- a step at either end gives the entry at that end of what is left, or absent, and refuses for nothing else
  pub gives : (back : Bool)
      → (step_of back m n (image_after moves m n ws) (position_after moves m n ws (made_of m n ws).position)).entry ≡ entry_from (list_end back (left_after moves (listed a)))
  -- the value that it gives is the one that the list holds for the key now
  pub current : (back : Bool) (key : Key) (v : Value)
      → (step_of back m n (image_after moves m n ws) (position_after moves m n ws (made_of m n ws).position)).entry ≡ Ok (key, v) → find key (listed image) ≡ some v
  -- no stack passes 129
  pub front_small : (position_after moves m n ws (made_of m n ws).position).front.count ≤ 129
  pub back_small : (position_after moves m n ws (made_of m n ws).position).back.count ≤ 129

moment_after : {m n : ℕ} {ws : List ℕ} {p : Position} {list left : List (Key × Value)} (moves : List Move) → Fitting moves → Moment m n ws p list left
    → Moment m n (image_after moves m n ws) (position_after moves m n ws p) (list_after moves list) (left_after moves left)
moment_after [] f x = x
moment_after {m = m} {n = n} {ws = ws} {p = p} (stepped back ∷ moves) f x = moment_after {p = (step_of back m n ws p).position} moves f (moment_stepped x back)
moment_after {m = m} {n = n} {ws = ws} (written key v ∷ moves) f x = moment_after {ws = write_image m n ws key v} moves f.1 (moment_written x key v f.0)

entry_given : (o : Option (Key × Value)) (key : Key) (v : Value) → entry_from o ≡ Ok (key, v) → o ≡ some (key, v)
entry_given none key v e = let z : ◌≡◌ {A = ℕ} 0 1 = cc in absurd (omega arith)
entry_given (some x) key v e =
    let k : x.0 ≡ key = cc in
    let w : x.1 ≡ v = cc in
    λ ι. some (k ι, w ι)

-- After any moves the next step is the list's, as the list is then.
pub now_agrees : {m n : ℕ} {ws : List ℕ} (a : Accepted m n ws) (moves : List Move) → Fitting moves → Now a moves
now_agrees {m} {n} {ws} a moves f =
    let x : Moment m n (image_after moves m n ws) (position_after moves m n ws (made_of m n ws).position) (list_after moves (listed a)) (left_after moves (listed a)) =
    moment_after moves f (moment_made a) in
    record {
      image = x.image;
      same_list = x.same_list;
      segment = rw x.same_list (moment_segment x);
      gives = moment_gives x;
      current = λ back key v e. rw x.same_list
          (moment_value x back key v (entry_given (list_end back (left_after moves (listed a))) key v (sym (moment_gives x back) ∙ e)));
      front_small = (moment_small x).0;
      back_small = (moment_small x).1;
    }
