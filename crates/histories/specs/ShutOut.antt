-- The rules E, empty versions to shut out: calls that refuse always, answer one thing, do nothing or make up their counts do not fit. An insert is seen by the next get and counted by the next length,
-- on every accepted image; and one history of calls on blank memory, whose answers no function of the call alone gives.
use Rattle.std.specs.Prelude.{◌≡◌, refl, List, [], ◌∷◌, map, ◌≢◌, Bool, true, false, ℕ, suc, ◌^◌, ◌<◌, get_or, replicate, ltb, Err, Ok}
use Rattle.std.proofs.Math.Path.{sym, ap}
use Rattle.std.proofs.Common.{◌∙◌, arith, lit<, eq-eqb, ne_eqb, eqb-true}
use Rattle.std.proofs.Math.Bool.{cond}
use Rattle.std.proofs.Math.Option.{none, some}
use Rattle.std.proofs.Math.ListN.{length}
use Rattle.keys.specs.declared.Key.{Key}
use Rattle.keys.specs.Number.{Fits, number_of}
use Rattle.records.specs.declared.Value.{Value}
use Rattle.records.specs.declared.Refusal.TheVariants as no
use Rattle.records.specs.Numbers.{count_is}
use Rattle.lookup.specs.Start.{length_of}
use Rattle.lookup.specs.Get.{get_of}
use Rattle.insert.specs.Steps.{insert_image}
use Rattle.remove.specs.Steps.{removed_image}
use Rattle.lists.specs.Lists.{All, all_map}
use Rattle.lists.specs.Entries.{same, Rising, find, held, erase, length_erase, update, enter}
use Rattle.lists.specs.Answers.{got_from, Answer, done_is, got_is, place_is, entry_is, count_from, somewhere, indexless}
use Rattle.lists.specs.Machine.{FitsValue, get, len, check, Call, start, insert, remove, ask, Fitting, Entries, blank}
use Rattle.trees.specs.Insert.{put, length_put}
use Rattle.accepted.specs.Accepted.{Accepted}
use Rattle.accepted_lookup.specs.Answers.{listed, get_agrees, length_agrees}
use Rattle.accepted_insert.specs.Entered.{enter_either}
use Rattle.accepted_insert.specs.Call.{insert_agrees}
use Rattle.accepted_remove.specs.Call.{remove_agrees}
use Rattle.histories.specs.Calls.{answers}
use Rattle.histories.specs.Agrees.{history}
use Rattle.histories.specs.Shapes.{ascends}
use Rattle.histories.specs.NotEmpty.{Limits, zero_words, zeros_are}

-- ---- the list after an insert and after a remove

same_itself : (key : Key) → same key key ≡ true
same_itself key = eq-eqb (number_of key) (number_of key) refl

find_enter : (key : Key) (v : Value) (es : Entries) → find key (enter key v es) ≡ some v
find_enter key v [] = rw (same_itself key)
find_enter key v (e ∷ es) = go (same key e.0) refl (ltb (number_of key) (number_of e.0)) (find_enter key v es)
  where
    go : (q : Bool) → same key e.0 ≡ q → (l : Bool) → find key (enter key v es) ≡ some v
        → find key (cond q ((e.0, v) ∷ es) (cond l ((key, v) ∷ e ∷ es) (e ∷ enter key v es))) ≡ some v
    go true t l f = rw t
    go false t true f = rw (same_itself key)
    go false t false f = rw t f

length_update : (key : Key) (v : Value) (es : Entries) → length (update key v es) ≡ length es
length_update key v [] = refl
length_update key v (e ∷ es) = go (same key e.0) (length_update key v es)
  where
    go : (q : Bool) → length (update key v es) ≡ length es → length (cond q ((e.0, v) ∷ es) (e ∷ update key v es)) ≡ suc (length es)
    go true f = refl
    go false f = ap suc f

-- one entry more exactly if the key is new
length_enter : (key : Key) (v : Value) (es : Entries) → Rising es → length (enter key v es) ≡ cond (held key es) (length es) (suc (length es))
length_enter key v es r = ap length (enter_either key v es r) ∙ go (held key es) (length_put key v es r)
  where
    go : (q : Bool) → length (put key v es) ≡ cond q (length es) (suc (length es)) → length (cond q (update key v es) (put key v es)) ≡ cond q (length es) (suc (length es))
    go true f = length_update key v es
    go false f = f

-- a key that is removed is not found
find_after : (key : Key) (es : Entries) → All (λ y. number_of key < number_of y.0) es → find key es ≡ none
find_after key [] h = refl
find_after key (e ∷ es) h =
    let less : number_of key < number_of e.0 = h.0 in
    rw (ne_eqb (number_of key) (number_of e.0) (λ q. omega arith)) (find_after key es h.1)

find_erase : (key : Key) (es : Entries) → Rising es → find key (erase key es) ≡ none
find_erase key [] r = refl
find_erase key (e ∷ es) r = go (same key e.0) refl (find_erase key es r.1)
  where
    go : (q : Bool) → same key e.0 ≡ q → find key (erase key es) ≡ none → find key (cond q es (e ∷ erase key es)) ≡ none
    go true t f =
        let alike : number_of key ≡ number_of e.0 = eqb-true (number_of key) (number_of e.0) t in
        find_after key es (all_map (λ y h. omega arith) es r.0)
    go false t f = rw t f

-- ---- on every accepted image

module _ {m n : ℕ} {ws : List ℕ} (a : Accepted m n ws) (key : Key) where
  -- doing nothing, or one constant answer: the value that was inserted is the one that get gives, whatever it was before
  pub insert_seen : Fits key → (v : Value) → FitsValue v → length (listed a) ≢ m → get_of m n (insert_image m n ws key v) key ≡ Ok v
  insert_seen f v g room =
      let r = ((insert_agrees a key f v g).1 room).2 in
      get_agrees r.0 key ∙ ap (λ (es : Entries). got_from (find key es)) r.1 ∙ ap got_from (find_enter key v (listed a))

  -- and a key that was removed is absent
  pub remove_seen : get_of m n (removed_image m n ws key) key ≡ Err no.Absent
  remove_seen =
      let r = (remove_agrees a key).1 in
      get_agrees r.0 key ∙ ap (λ (es : Entries). got_from (find key es)) r.1 ∙ ap got_from (find_erase key (listed a) (ascends a))

  -- a made-up n: length counts the list, one more after the insert of a new key, and one less after the remove of a key that was there
  pub insert_counted : Fits key → (v : Value) → FitsValue v → length (listed a) ≢ m
      → length_of m n (insert_image m n ws key v) ≡ Ok (cond (held key (listed a)) (length (listed a)) (suc (length (listed a))))
  insert_counted f v g room =
      let r = ((insert_agrees a key f v g).1 room).2 in
      length_agrees r.0 ∙ ap (λ (es : Entries). Ok (length es)) r.1 ∙ ap (λ (k : ℕ). Ok k) (length_enter key v (listed a) (ascends a))

  pub remove_counted : (k : ℕ) → length_of m n (removed_image m n ws key) ≡ Ok k → length (listed a) ≡ cond (held key (listed a)) (suc k) k
  unfolding count_is
  remove_counted k e =
      let r = (remove_agrees a key).1 in
      let left : length (erase key (listed a)) ≡ k = ap count_is (ap (λ (es : Entries). Ok (length es)) (sym r.1) ∙ sym (length_agrees r.0) ∙ e) in
      length_erase key (listed a) ∙ ap (λ (l : ℕ). cond (held key (listed a)) (suc l) l) left

-- ---- one history

-- A is 2^127, B is 0; M = 4, N = 8, 140 words
abbrev A : Key
A = record { high = 2 ^ 63; low = 0 }

abbrev B : Key
B = record { high = 0; low = 0 }

abbrev value : ℕ → Value
value k = record { first = k; second = k }

abbrev pub story : List Call
story =
    ask len
    ∷ ask (check (replicate 4 0))
    ∷ start
    ∷ ask (check (replicate 4 0))
    ∷ ask (get A)
    ∷ ask len
    ∷ insert A (value 1)
    ∷ ask (get A)
    ∷ ask len
    ∷ insert B (value 2)
    ∷ ask (get A)
    ∷ ask (get B)
    ∷ ask len
    ∷ start
    ∷ remove A
    ∷ ask (get A)
    ∷ ask len
    ∷ []

abbrev pub told : List Answer
told =
    count_from (Err no.Damaged)
    ∷ done_is (Err no.Damaged)
    ∷ done_is (Ok tt)
    ∷ done_is (Ok tt)
    ∷ got_is (Err no.Absent)
    ∷ count_from (Ok 0)
    ∷ somewhere
    ∷ got_is (Ok (value 1))
    ∷ count_from (Ok 1)
    ∷ somewhere
    ∷ got_is (Ok (value 1))
    ∷ got_is (Ok (value 2))
    ∷ count_from (Ok 2)
    ∷ done_is (Err no.NotBlank)
    ∷ got_is (Ok (value 1))
    ∷ got_is (Err no.Absent)
    ∷ count_from (Ok 1)
    ∷ []

fits : (high low : ℕ) → high < 2 ^ 64 → low < 2 ^ 64 → Fits (record { high = high; low = low })
fits high low h l = record { high_fits = h; low_fits = l }

fits_value : (k : ℕ) → k < 2 ^ 64 → FitsValue (value k)
fits_value k h = record { first_fits = h; second_fits = h }

story_fits : All Fitting story
story_fits =
    let a : Fits A = fits (2 ^ 63) 0 (lit< tt) (lit< tt) in
    let b : Fits B = fits 0 0 (lit< tt) (lit< tt) in
    (tt, (tt, (tt, (tt, (tt, (tt, ((a, fits_value 1 (lit< tt)), (tt, (tt, ((b, fits_value 2 (lit< tt)), (tt, (tt, (tt, (tt, (tt, (tt, (tt, tt)))))))))))))))))

-- The answers of this history on 140 zero words, up to the node index.
pub story_told : map indexless (answers 4 8 story (zero_words 4 8)) ≡ told
unfolding number_of
story_told = (history 4 8 (zero_words 4 8) blank (zeros_are 4 8 limits) story story_fits).0
  where
    limits : Limits 4 8
    limits = record { some = omega arith; most = omega arith; twice = omega arith; nodes_most = omega arith }

-- No answers that depend on the call alone fit it: neither one constant answer, nor those of calls that leave every word as it was.
pub none_fixed : (f : Call → Answer) → map indexless (answers 4 8 story (zero_words 4 8)) ≢ map f story
none_fixed f e =
    let q : told ≡ map f story = sym story_told ∙ e in
    let early : f (ask len) ≡ count_from (Ok 0) = sym (ap (nth 5) q) in
    let late : f (ask len) ≡ count_from (Ok 1) = sym (ap (nth 8) q) in
    let z : ◌≡◌ {A = ℕ} 0 1 = ap counted (sym early ∙ late) in
    omega arith
  where
    nth : ℕ → List Answer → Answer
    nth k xs = get_or xs k somewhere

    counted : Answer → ℕ
    counted (count_from (Ok k)) = k
    counted (count_from (Err r)) = 0
    counted (done_is d) = 0
    counted (got_is g) = 0
    counted (place_is p) = 0
    counted (entry_is x) = 0
