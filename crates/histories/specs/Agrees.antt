-- Each call answers as the list does, refusals included, up to the node index, and leaves blank memory or an accepted image with the list's next state. So does every history of calls.
use Rattle.std.specs.Prelude.{◌≡◌, refl, List, [], ◌∷◌, map, Bool, true, false, cond, ℕ, ◌≤◌, length, leb, Err, Ok, Result}
use Rattle.std.proofs.Common.{sym, ap, subst, ◌∙◌, lt_of_not-le, eq-eqb, ne_eqb, le-leb}
use Rattle.std.proofs.Math.Option.{Option, none, some}
use Rattle.std.proofs.Math.Decide.{ℕ_discrete, dec_le}
use Rattle.std.proofs.lemmas.Bool.{lt-leb}
use Rattle.records.specs.declared.Value.{Value}
use Rattle.records.specs.declared.Refusal.{Refusal}
use Rattle.records.specs.declared.NodeIndex.{NodeIndex}
use Rattle.keys.specs.declared.Key.{Key}
use Rattle.records.specs.declared.Refusal.TheVariants as no
use Rattle.inspection.specs.Room.{Shaped}
use Rattle.lookup.specs.Start.{start_image}
use Rattle.lookup.specs.Get.{write_image}
use Rattle.insert.specs.Steps.{insert_image}
use Rattle.remove.specs.Steps.{removed_image}
use Rattle.full_check.specs.Check.{check_shape, check_of}
use Rattle.lists.specs.Lists.{All}
use Rattle.lists.specs.Entries.{is_some}
use Rattle.lists.specs.Answers.{done_is, got_is, place_is, entry_is, count_from, somewhere, indexless}
use Rattle.lists.specs.Machine.{Question, get, contains, address, len, capacity, smallest, largest, check, Call, start, insert, remove, write, ask, Fitting, Entries, blank_reply, list_reply, full, list_answer, list_next, State, blank, holding, state_answer, state_next, state_answers, state_after}
use Rattle.trees.specs.Lookup.{value_of}
use Rattle.trees.specs.Map.{lookup_in}
use Rattle.accepted.specs.Accepted.{Accepted}
use Rattle.accepted.specs.Tests.{shape_passes}
use Rattle.accepted_lookup.specs.Answers.{listed, held_listed, place_from, get_agrees, contains_agrees, addr_agrees, end_agrees, length_agrees, capacity_agrees}
use Rattle.accepted_write.specs.Start.{Blank, started_accepted, started_listed, start_agrees}
use Rattle.accepted_write.specs.Call.{write_agrees}
use Rattle.accepted_insert.specs.Call.{insert_agrees}
use Rattle.accepted_remove.specs.Call.{remove_agrees}
use Rattle.accepted_check.specs.Exact.{check_complete}
use Rattle.histories.specs.Calls.{question_answer, answer_of, image_left, answers, image_after}
use Rattle.histories.specs.Blank.{start_refused, reply_blank, insert_blank, remove_blank, write_blank}

-- ---- the state that an image is in

-- blank memory of the right shape, or an accepted image with this list
abbrev pub Is : ℕ → ℕ → List ℕ → State → Type 0
Is m n ws blank = Shaped m n (length ws) × Blank ws
Is m n ws (holding es) = (a : Accepted m n ws) × (listed a ≡ es)

-- ---- a node index

-- a key has a leaf exactly if the list holds it
leaf_place : (r : Option (ℕ × ℕ)) → indexless (place_is (place_from r)) ≡ cond (is_some (value_of r)) somewhere (place_is (Err no.Absent))
leaf_place none = refl
leaf_place (some e) = refl

module _ {m n : ℕ} {ws : List ℕ} (a : Accepted m n ws) where
  short : (scratch : List ℕ) → leb m (length scratch) ≡ false → check_of m n ws scratch ≡ Err no.Shape
  unfolding check_of check_shape
  short scratch e = rw (shape_passes a.shape, e)

  reply_agrees : (q : Question) → indexless (question_answer m n q ws) ≡ list_reply m q (listed a)
  reply_agrees (get key) = ap (λ (g : Result Value Refusal). got_is g) (get_agrees a key)
  reply_agrees (contains key) = ap (λ (d : Result Unit Refusal). done_is d) (contains_agrees a key)
  reply_agrees (address key) =
      ap (λ (p : Result NodeIndex Refusal). indexless (place_is p)) (addr_agrees a key)
      ∙ leaf_place (lookup_in key a.tree)
      ∙ ap (λ (b : Bool). cond b somewhere (place_is (Err no.Absent))) (sym (held_listed a key))
  reply_agrees len = ap (λ (c : Result ℕ Refusal). count_from c) (length_agrees a)
  reply_agrees capacity = ap (λ (c : Result ℕ Refusal). count_from c) (capacity_agrees a)
  reply_agrees smallest = ap (λ (e : Result (Key × Value) Refusal). entry_is e) (end_agrees a false)
  reply_agrees largest = ap (λ (e : Result (Key × Value) Refusal). entry_is e) (end_agrees a true)
  reply_agrees (check scratch) = go (dec_le m (length scratch))
    where
      go : Dec (m ≤ length scratch) → done_is (check_of m n ws scratch) ≡ done_is (cond (leb m (length scratch)) (Ok tt) (Err no.Shape))
      go (yes l) = rw (check_complete m n ws scratch a l, le-leb m (length scratch) l)
      go (no l) = let e = lt-leb m (length scratch) (lt_of_not-le l) in rw (short scratch e, e)

  -- ---- a call on an accepted image

  -- the answer is the list's, and the image is accepted with the list's next state
  abbrev Follows : Call → Type 0
  Follows c = (indexless (answer_of m n c ws) ≡ list_answer m c (listed a)) × ((b : Accepted m n (image_left m n c ws)) × (listed b ≡ list_next m c (listed a)))

  -- an image that is what it was
  kept : (vs : List ℕ) (es : Entries) → vs ≡ ws → es ≡ listed a → (b : Accepted m n vs) × (listed b ≡ es)
  kept vs es e l = subst (λ (us : List ℕ). (b : Accepted m n us) × (listed b ≡ es)) (sym e) (a, sym l)

  pub call_agrees : (c : Call) → Fitting c → Follows c
  call_agrees start f = let r = start_refused a in (ap (λ (d : Result Unit Refusal). done_is d) r.0, kept (start_image m n ws) (listed a) r.1 refl)
  call_agrees (insert key v) f = go (ℕ_discrete (length (listed a)) m)
    where
      go : Dec (length (listed a) ≡ m) → Follows (insert key v)
      go (yes e) =
          let r = (insert_agrees a key f.0 v f.1).0 e in
          let t : full m (listed a) ≡ true = eq-eqb (length (listed a)) m e in
          rw (t, r.0) (refl, kept (insert_image m n ws key v) (listed a) r.1 refl)
      go (no d) =
          let r = (insert_agrees a key f.0 v f.1).1 d in
          let t : full m (listed a) ≡ false = ne_eqb (length (listed a)) m d in
          rw (t, r.1) (refl, (r.2.0, r.2.1))
  call_agrees (remove key) f = let r = remove_agrees a key in (ap (λ (g : Result Value Refusal). got_is g) r.0, r.1)
  call_agrees (write key v) f = let r = write_agrees a key v f in (ap (λ (d : Result Unit Refusal). done_is d) r.0, r.1)
  call_agrees (ask q) f = (reply_agrees q, (a, refl))

-- ---- a call on blank memory

module _ (m n : ℕ) (ws : List ℕ) (shape : Shaped m n (length ws)) (zeros : Blank ws) where
  abbrev FollowsBlank : Call → Type 0
  FollowsBlank c = (indexless (answer_of m n c ws) ≡ state_answer m c blank) × Is m n (image_left m n c ws) (state_next m c blank)

  still : (vs : List ℕ) → vs ≡ ws → Is m n vs blank
  still vs e = subst (λ (us : List ℕ). Is m n us blank) (sym e) (shape, zeros)

  pub blank_agrees : (c : Call) → FollowsBlank c
  blank_agrees start =
      let r = start_agrees m n ws shape zeros in (
        ap (λ (d : Result Unit Refusal). done_is d) r.0,
        subst (λ (us : List ℕ). Is m n us (holding [])) (sym r.1) (started_accepted m n ws shape zeros, started_listed m n ws shape zeros),
      )
  blank_agrees (insert key v) = let r = insert_blank m n ws shape zeros key v in (ap (λ (p : Result NodeIndex Refusal). indexless (place_is p)) r.0, still (insert_image m n ws key v) r.1)
  blank_agrees (remove key) = let r = remove_blank m n ws shape zeros key in (ap (λ (g : Result Value Refusal). got_is g) r.0, still (removed_image m n ws key) r.1)
  blank_agrees (write key v) = let r = write_blank m n ws shape zeros key v in (ap (λ (d : Result Unit Refusal). done_is d) r.0, still (write_image m n ws key v) r.1)
  blank_agrees (ask q) = (ap indexless (reply_blank m n ws shape zeros q) ∙ indexed q, (shape, zeros))
    where
      indexed : (q : Question) → indexless (blank_reply m q) ≡ blank_reply m q
      indexed (get key) = refl
      indexed (contains key) = refl
      indexed (address key) = refl
      indexed len = refl
      indexed capacity = refl
      indexed smallest = refl
      indexed largest = refl
      indexed (check scratch) = refl

-- ---- a call, and a history of calls

-- The answer is that of the state, up to the node index, and the image is then in the state's next one.
pub agrees : (m n : ℕ) (ws : List ℕ) (s : State) → Is m n ws s → (c : Call) → Fitting c
    → (indexless (answer_of m n c ws) ≡ state_answer m c s) × Is m n (image_left m n c ws) (state_next m c s)
agrees m n ws blank i c f = blank_agrees m n ws i.0 i.1 c
agrees m n ws (holding es) i c f =
    subst (λ (l : Entries). (indexless (answer_of m n c ws) ≡ list_answer m c l) × ((b : Accepted m n (image_left m n c ws)) × (listed b ≡ list_next m c l))) i.1 (call_agrees i.0 c f)

-- From blank memory or an accepted image, any history of calls has the answers of the state's history, and leaves the image in the state that it comes to.
pub history : (m n : ℕ) (ws : List ℕ) (s : State) → Is m n ws s → (cs : List Call) → All Fitting cs
    → (map indexless (answers m n cs ws) ≡ state_answers m cs s) × Is m n (image_after m n cs ws) (state_after m cs s)
history m n ws s i [] f = (refl, i)
history m n ws s i (c ∷ cs) f =
    let here = agrees m n ws s i c f.0 in
    let rest = history m n (image_left m n c ws) (state_next m c s) here.1 cs f.1 in
    ((λ ι. here.0 ι ∷ rest.0 ι), rest.1)
