-- Demand 1 for the calls that only look or write a value: their numbers, each "when, and only then"; a refusal leaves every word, and its result is zeros; and no second outcome fits.
use Rattle.std.proofs.Math.Path.{◌≡◌, refl, ap}
use Rattle.std.proofs.Common.{sym, ◌∙◌, arith}
use Rattle.std.specs.Prelude.{List, ◌≢◌, ◌↔◌, ◌⊎◌, Bool, cond, ℕ, ◌%◌, length, Err, None, Ok, Result, Some}
use Rattle.std.proofs.Math.Logic.{inl, inr}
use Rattle.std.proofs.Math.Bool.{true, false, true≢false}
use Rattle.words.specs.Words.{Bytes}
use Rattle.words.specs.Zeros.{zeros_at}
use Rattle.keys.specs.declared.Key.{Key}
use Rattle.records.specs.declared.Header.{Header}
use Rattle.records.specs.declared.Value.{Value}
use Rattle.records.specs.declared.NodeIndex.{NodeIndex}
use Rattle.records.specs.declared.Node.{Node}
use Rattle.records.specs.declared.Refusal.{Refusal}
use Rattle.records.specs.declared.Refusal.TheVariants as no
use Rattle.records.specs.Layout.{image_of}
use Rattle.records.specs.Records.{value_record_of}
use Rattle.inspection.specs.Visit.{live_of}
use Rattle.inspection.specs.Tests.{shape_ok, top_ok, live_value}
use Rattle.inspection.specs.Opening.{open_of, blank_of}
use Rattle.records.specs.Numbers.{refusal_number, answer_number, done, done_flag, got_value, place_index, entry_key, entry_value, count_is, zero_value, zero_key}
use Rattle.inspection.specs.Room.{opened_whole, shaped_whole}
use Rattle.inspection.specs.Outcome.{Leaves, one_outcome}
use Rattle.inspection.specs.Answers.{OpensAs, misshapen, unsound, sound, opens, shape_exactly, damage_exactly, other_exactly}
use Rattle.descent.specs.declared.Stop.{Stop}
use Rattle.descent.specs.declared.Stop.TheVariants as stop
use Rattle.descent.specs.Descent.{find_of, end_of}
use Rattle.descent.specs.Bits.{Reached, leaf, fails, end_reaches}
use Rattle.lookup.specs.Start.{started, start_of, start_image, done_image, opened_length, length_of, opened_capacity, capacity_reply}
use Rattle.descent.specs.Found.{stop_leaf}
use Rattle.lookup.specs.Get.{live_target, leaf_target, stop_target, leaf_done, leaf_place, opened_target, target_of, target_opened, target_got, get_of, target_done, write_of, target_image, write_image, stop_done, opened_done, contains_of, stop_place, opened_place, addr_of}
use Rattle.lookup.specs.Ends.{target_entry, opened_entry, end_entry}

-- ---- what a stop comes to: absent where the key parts, damaged where a test fails

-- the descent stopped at damage, or at a leaf whose value record fails
pub data Failed (n : ℕ) (ws : List ℕ) : Stop → Type 0 where
  visited : Failed n ws stop.Damaged
  record_fails : (i : NodeIndex) (x : Node) → live_value n ws i.0 x.value.0 ≡ false → Failed n ws (stop.Leaf i x)

-- the map is empty, or the key parts from it at a node
pub data Away : Stop → Type 0 where
  nothing : Away stop.Empty
  parted : (i : NodeIndex) (x : Node) (shared : ℕ) → Away (stop.Parted i x shared)

unfoldable pub target_number : Result (NodeIndex × Node × Value) Refusal → ℕ
target_number (Ok (i, x, v)) = 0
target_number (Err r) = refusal_number r

-- at a leaf
module _ (n : ℕ) (ws : List ℕ) (i : NodeIndex) (x : Node) where
  abbrev at_leaf : Bool → ℕ
  at_leaf b = target_number (live_target i x (cond b (Some (value_record_of n ws x.value.0).value) None))

  leaf_damaged : (b : Bool) → live_value n ws i.0 x.value.0 ≡ b → (at_leaf b ≡ 2) ↔ Failed n ws (stop.Leaf i x)
  unfolding target_number live_target refusal_number
  leaf_damaged true t = ((λ e. absurd (omega arith)), λ f. absurd (when f))
    where
      when : Failed n ws (stop.Leaf i x) → ⊥
      when (record_fails j y e) = true≢false (sym t ∙ e)
  leaf_damaged false t = ((λ e. record_fails i x t), λ f. refl)

  leaf_number : (b : Bool) (k : ℕ) → at_leaf b ≡ k → (k ≡ 0) ⊎ (k ≡ 2)
  unfolding target_number live_target refusal_number
  leaf_number true k e = inl (sym e)
  leaf_number false k e = inr (sym e)

target_damaged : (n : ℕ) (ws : List ℕ) (s : Stop) → (target_number (stop_target n ws s) ≡ 2) ↔ Failed n ws s
unfolding target_number leaf_target stop_leaf refusal_number live_of
target_damaged n ws (stop.Leaf i x) = leaf_damaged n ws i x (live_value n ws i.0 x.value.0) refl
target_damaged n ws (stop.Parted i x c) = ((λ e. absurd (omega arith)), λ f. elim f [ ])
target_damaged n ws stop.Empty = ((λ e. absurd (omega arith)), λ f. elim f [ ])
target_damaged n ws stop.Damaged = ((λ e. visited), λ f. refl)

target_absent : (n : ℕ) (ws : List ℕ) (s : Stop) → (target_number (stop_target n ws s) ≡ 4) ↔ Away s
unfolding target_number leaf_target stop_leaf refusal_number live_of
target_absent n ws (stop.Leaf i x) = ((λ e. absurd (go (leaf_number n ws i x (live_value n ws i.0 x.value.0) 4 e))), λ f. elim f [ ])
  where
    go : (◌≡◌ {A = ℕ} 4 0) ⊎ (◌≡◌ {A = ℕ} 4 2) → ⊥
    go (inl e) = omega arith
    go (inr e) = omega arith
target_absent n ws (stop.Parted i x c) = ((λ e. parted i x c), λ f. refl)
target_absent n ws stop.Empty = ((λ e. nothing), λ f. refl)
target_absent n ws stop.Damaged = ((λ e. absurd (omega arith)), λ f. elim f [ ])

-- no other number comes of a stop
target_numbers : (n : ℕ) (ws : List ℕ) (s : Stop) (k : ℕ) → target_number (stop_target n ws s) ≡ k → (k ≡ 0) ⊎ ((k ≡ 2) ⊎ (k ≡ 4))
unfolding target_number leaf_target stop_leaf refusal_number live_of
target_numbers n ws (stop.Leaf i x) k e = go (leaf_number n ws i x (live_value n ws i.0 x.value.0) k e)
  where
    go : (k ≡ 0) ⊎ (k ≡ 2) → (k ≡ 0) ⊎ ((k ≡ 2) ⊎ (k ≡ 4))
    go (inl q) = inl q
    go (inr q) = inr (inl q)
target_numbers n ws (stop.Parted i x c) k e = inr (inr (sym e))
target_numbers n ws stop.Empty k e = inr (inr (sym e))
target_numbers n ws stop.Damaged k e = inr (inl (sym e))

-- contains and get_addr test no value record
stop_damaged : (s : Stop) → (answer_number (stop_done s) ≡ 2) ↔ (s ≡ stop.Damaged)
unfolding answer_number leaf_done stop_leaf refusal_number
stop_damaged (stop.Leaf i x) = ((λ e. absurd (omega arith)), λ f. let z : ◌≡◌ {A = ℕ} 0 1 = cc in absurd (omega arith))
stop_damaged (stop.Parted i x c) = ((λ e. absurd (omega arith)), λ f. let z : ◌≡◌ {A = ℕ} 0 1 = cc in absurd (omega arith))
stop_damaged stop.Empty = ((λ e. absurd (omega arith)), λ f. let z : ◌≡◌ {A = ℕ} 0 1 = cc in absurd (omega arith))
stop_damaged stop.Damaged = ((λ e. refl), λ f. refl)

stop_absent : (s : Stop) → (answer_number (stop_done s) ≡ 4) ↔ Away s
unfolding answer_number leaf_done stop_leaf refusal_number
stop_absent (stop.Leaf i x) = ((λ e. absurd (omega arith)), λ f. elim f [ ])
stop_absent (stop.Parted i x c) = ((λ e. parted i x c), λ f. refl)
stop_absent stop.Empty = ((λ e. nothing), λ f. refl)
stop_absent stop.Damaged = ((λ e. absurd (omega arith)), λ f. elim f [ ])

stop_numbers : (s : Stop) (k : ℕ) → answer_number (stop_done s) ≡ k → (k ≡ 0) ⊎ ((k ≡ 2) ⊎ (k ≡ 4))
unfolding answer_number leaf_done stop_leaf refusal_number
stop_numbers (stop.Leaf i x) k e = inl (sym e)
stop_numbers (stop.Parted i x c) k e = inr (inr (sym e))
stop_numbers stop.Empty k e = inr (inr (sym e))
stop_numbers stop.Damaged k e = inr (inl (sym e))

-- ---- the numbers of a call that descends, each when, and only then

-- `seek` is its descent in an opened image, and `Bad` a stop at which a test fails
pub record Numbers (m n : ℕ) (ws : List ℕ) (seek : Header → Stop) (Bad : Stop → Type 0) (number : ℕ) : Type 0 where
  pub shape : (number ≡ 1) ↔ (shape_ok m n (length ws) ≡ false)
  pub damaged : (number ≡ 2)
      ↔ (((shape_ok m n (length ws) ≡ true) × (top_ok m n ws ≡ false)) ⊎ ((h : Header) × (open_of m n ws ≡ Ok h) × Bad (seek h)))
  pub absent : (number ≡ 4) ↔ ((h : Header) × (open_of m n ws ≡ Ok h) × Away (seek h))
  pub no_other : (number ≡ 0) ⊎ ((number ≡ 1) ⊎ ((number ≡ 2) ⊎ (number ≡ 4)))

module _ (m n : ℕ) (ws : List ℕ) (f : Result Header Refusal → ℕ) (shut : (r : Refusal) → f (Err r) ≡ refusal_number r) (seek : Header → Stop) (Bad : Stop → Type 0) (g : Stop → ℕ)
    (good : (h : Header) → f (Ok h) ≡ g (seek h)) (bad : (s : Stop) → (g s ≡ 2) ↔ Bad s) (away : (s : Stop) → (g s ≡ 4) ↔ Away s)
    (few : (s : Stop) (k : ℕ) → g s ≡ k → (k ≡ 0) ⊎ ((k ≡ 2) ⊎ (k ≡ 4))) where
  some : (k : ℕ) → (k ≡ 0) ⊎ ((k ≡ 2) ⊎ (k ≡ 4)) → k ≢ 1
  some k (inl a) e = omega arith
  some k (inr (inl a)) e = omega arith
  some k (inr (inr a)) e = omega arith

  spread : (k : ℕ) → (k ≡ 0) ⊎ ((k ≡ 2) ⊎ (k ≡ 4)) → (k ≡ 0) ⊎ ((k ≡ 1) ⊎ ((k ≡ 2) ⊎ (k ≡ 4)))
  spread k (inl a) = inl a
  spread k (inr (inl a)) = inr (inr (inl a))
  spread k (inr (inr a)) = inr (inr (inr a))

  ever : (o : Result Header Refusal) → open_of m n ws ≡ o → (f o ≡ 0) ⊎ ((f o ≡ 1) ⊎ ((f o ≡ 2) ⊎ (f o ≡ 4)))
  unfolding refusal_number
  ever (Ok h) e = spread (f (Ok h)) (few (seek h) (f (Ok h)) (sym (good h)))
  ever (Err r) e = go (opens m n ws)
    where
      go : OpensAs m n ws → (f (Err r) ≡ 0) ⊎ ((f (Err r) ≡ 1) ⊎ ((f (Err r) ≡ 2) ⊎ (f (Err r) ≡ 4)))
      go (misshapen p q) = let same : r ≡ no.Shape = cc in inr (inl (shut r ∙ ap refusal_number same))
      go (unsound p q o) = let same : r ≡ no.Damaged = cc in inr (inr (inl (shut r ∙ ap refusal_number same)))
      go (sound h p q o) = let z : ◌≡◌ {A = ℕ} 0 1 = cc in absurd (omega arith)

  numbers : Numbers m n ws seek Bad (f (open_of m n ws))
  numbers =
      record {
        shape = shape_exactly f shut m n ws (λ h e. some (f (Ok h)) (few (seek h) (f (Ok h)) (sym (good h))) e);
        damaged = (λ e. narrow ((damage_exactly f shut m n ws).0 e), λ c. (damage_exactly f shut m n ws).1 (widen c));
        absent = (
          λ e. (let c = (other_exactly f shut m n ws 4 (λ z. omega arith) (λ z. omega arith)).0 e in (c.0, c.1, (away (seek c.0)).0 (sym (good c.0) ∙ c.2))),
          λ c. (other_exactly f shut m n ws 4 (λ z. omega arith) (λ z. omega arith)).1 (c.0, c.1, good c.0 ∙ (away (seek c.0)).1 c.2),
        );
        no_other = ever (open_of m n ws) refl;
      }
    where
      HeaderFails : Type 0
      HeaderFails = (shape_ok m n (length ws) ≡ true) × (top_ok m n ws ≡ false)

      narrow : HeaderFails ⊎ ((h : Header) × (open_of m n ws ≡ Ok h) × (f (Ok h) ≡ 2)) → HeaderFails ⊎ ((h : Header) × (open_of m n ws ≡ Ok h) × Bad (seek h))
      narrow (inl a) = inl a
      narrow (inr (h, o, e)) = inr (h, o, (bad (seek h)).0 (sym (good h) ∙ e))

      widen : HeaderFails ⊎ ((h : Header) × (open_of m n ws ≡ Ok h) × Bad (seek h)) → HeaderFails ⊎ ((h : Header) × (open_of m n ws ≡ Ok h) × (f (Ok h) ≡ 2))
      widen (inl a) = inl a
      widen (inr (h, o, e)) = inr (h, o, good h ∙ (bad (seek h)).1 e)

-- ---- each call's numbers

module _ (m n : ℕ) (ws : List ℕ) (key : Key) where
  by_target : Numbers m n ws (λ h. find_of h ws key) (Failed n ws) (target_number (target_of m n ws key))
  unfolding target_of opened_target target_number
  by_target =
      numbers m n ws (λ o. target_number (opened_target n ws key o)) (λ r. refl) (λ h. find_of h ws key) (Failed n ws) (λ s. target_number (stop_target n ws s))
      (λ h. refl) (target_damaged n ws) (target_absent n ws) (target_numbers n ws)

  got_target : (t : Result (NodeIndex × Node × Value) Refusal) → answer_number (target_got t) ≡ target_number t
  unfolding answer_number target_got target_number
  got_target (Ok (i, x, v)) = refl
  got_target (Err r) = refl

  done_target : (t : Result (NodeIndex × Node × Value) Refusal) → answer_number (target_done t) ≡ target_number t
  unfolding answer_number target_done target_number
  done_target (Ok (i, x, v)) = refl
  done_target (Err r) = refl

  pub get_numbers : Numbers m n ws (λ h. find_of h ws key) (Failed n ws) (answer_number (get_of m n ws key))
  unfolding get_of
  get_numbers = rw (got_target (target_of m n ws key)) by_target

  pub set_numbers : Numbers m n ws (λ h. find_of h ws key) (Failed n ws) (answer_number (write_of m n ws key))
  unfolding write_of
  set_numbers = rw (done_target (target_of m n ws key)) by_target

  pub contains_numbers : Numbers m n ws (λ h. find_of h ws key) (λ s. s ≡ stop.Damaged) (answer_number (contains_of m n ws key))
  unfolding contains_of opened_done answer_number
  contains_numbers =
      numbers m n ws (λ o. answer_number (opened_done ws key o)) (λ r. refl) (λ h. find_of h ws key) (λ s. s ≡ stop.Damaged) (λ s. answer_number (stop_done s))
      (λ h. refl) stop_damaged stop_absent stop_numbers

  place_stop : (s : Stop) → answer_number (stop_place s) ≡ answer_number (stop_done s)
  unfolding answer_number leaf_place leaf_done stop_leaf
  place_stop (stop.Leaf i x) = refl
  place_stop (stop.Parted i x c) = refl
  place_stop stop.Empty = refl
  place_stop stop.Damaged = refl

  pub addr_numbers : Numbers m n ws (λ h. find_of h ws key) (λ s. s ≡ stop.Damaged) (answer_number (addr_of m n ws key))
  unfolding addr_of opened_place answer_number
  addr_numbers =
      numbers m n ws (λ o. answer_number (opened_place ws key o)) (λ r. refl) (λ h. find_of h ws key) (λ s. s ≡ stop.Damaged) (λ s. answer_number (stop_done s))
      (λ h. place_stop (find_of h ws key)) stop_damaged stop_absent stop_numbers

-- smallest and largest
entry_target : (t : Result (NodeIndex × Node × Value) Refusal) → answer_number (target_entry t) ≡ target_number t
unfolding answer_number target_entry target_number
entry_target (Ok (i, x, v)) = refl
entry_target (Err r) = refl

pub end_numbers : (m n : ℕ) (ws : List ℕ) (right : Bool) → Numbers m n ws (λ h. end_of h ws right) (Failed n ws) (answer_number (end_entry m n ws right))
unfolding end_entry opened_entry answer_number
end_numbers m n ws right =
    numbers m n ws (λ o. answer_number (opened_entry n ws right o)) (λ r. refl) (λ h. end_of h ws right) (Failed n ws) (λ s. target_number (stop_target n ws s))
    (λ h. entry_target (stop_target n ws (end_of h ws right))) (target_damaged n ws) (target_absent n ws) (target_numbers n ws)

-- absent exactly in an empty map: the way to an end compares no key, so it parts nowhere
end_away : (h : Header) (ws : List ℕ) (right : Bool) → Away (end_of h ws right) ↔ (h.values.size ≡ 0)
end_away h ws right = go (end_reaches h ws right)
  where
    never : (s : Stop) → Reached s → Away s → ⊥
    never s (leaf i x) a = elim a [ ]
    never s fails a = elim a [ ]

    go : ((h.values.size ≡ 0) × (end_of h ws right ≡ stop.Empty)) ⊎ ((h.values.size ≢ 0) × Reached (end_of h ws right)) → Away (end_of h ws right) ↔ (h.values.size ≡ 0)
    go (inl (none, e)) = ((λ a. none), λ z. rw e nothing)
    go (inr (some_held, r)) = ((λ a. absurd (never (end_of h ws right) r a)), λ z. absurd (some_held z))

pub end_absent : (m n : ℕ) (ws : List ℕ) (right : Bool) → (answer_number (end_entry m n ws right) ≡ 4) ↔ ((h : Header) × (open_of m n ws ≡ Ok h) × (h.values.size ≡ 0))
end_absent m n ws right = (
  λ e. (let c = (end_numbers m n ws right).absent.0 e in (c.0, c.1, (end_away c.0 ws right).0 c.2)),
  λ c. (end_numbers m n ws right).absent.1 (c.0, c.1, (end_away c.0 ws right).1 c.2),
)

-- length and capacity refuse by shape and header alone
pub length_numbers : (m n : ℕ) (ws : List ℕ) → (answer_number (length_of m n ws) ≡ 1) ↔ (shape_ok m n (length ws) ≡ false)
unfolding length_of opened_length answer_number
length_numbers m n ws = shape_exactly (λ o. answer_number (opened_length o)) (λ r. refl) m n ws (λ h e. omega arith)

pub length_damaged : (m n : ℕ) (ws : List ℕ) → (answer_number (length_of m n ws) ≡ 2) ↔ ((shape_ok m n (length ws) ≡ true) × (top_ok m n ws ≡ false))
unfolding length_of opened_length answer_number
length_damaged m n ws =
    let both = damage_exactly (λ o. answer_number (opened_length o)) (λ r. refl) m n ws in
    ((λ e. header (both.0 e)), λ c. both.1 (inl c))
  where
    -- an image that opens has a length
    header : ((shape_ok m n (length ws) ≡ true) × (top_ok m n ws ≡ false)) ⊎ ((h : Header) × (open_of m n ws ≡ Ok h) × (answer_number (opened_length (Ok h)) ≡ 2))
        → (shape_ok m n (length ws) ≡ true) × (top_ok m n ws ≡ false)
    header (inl a) = a
    header (inr (h, o, e)) = absurd (omega arith)

pub capacity_as_length : (m n : ℕ) (ws : List ℕ) → answer_number (capacity_reply m n ws) ≡ answer_number (length_of m n ws)
unfolding capacity_reply length_of opened_capacity opened_length answer_number
capacity_as_length m n ws = go (open_of m n ws)
  where
    go : (o : Result Header Refusal) → answer_number (opened_capacity m o) ≡ answer_number (opened_length o)
    go (Ok h) = refl
    go (Err r) = refl

-- start: 1, then 5
pub start_numbers : (m n : ℕ) (ws : List ℕ)
    → ((answer_number (start_of m n ws) ≡ 1) ↔ (shape_ok m n (length ws) ≡ false))
    × ((answer_number (start_of m n ws) ≡ 5) ↔ ((shape_ok m n (length ws) ≡ true) × (zeros_at ws 0 (length ws) ≡ false)))
    × ((answer_number (start_of m n ws) ≡ 0) ↔ ((shape_ok m n (length ws) ≡ true) × (zeros_at ws 0 (length ws) ≡ true)))
unfolding blank_of answer_number refusal_number
start_numbers m n ws = go (shape_ok m n (length ws)) (zeros_at ws 0 (length ws))
  where
    number : Bool → Bool → ℕ
    number a b = answer_number (cond a (cond b done (Err no.NotBlank)) (Err no.Shape))

    go : (a b : Bool)
        → ((number a b ≡ 1) ↔ (a ≡ false)) × ((number a b ≡ 5) ↔ ((a ≡ true) × (b ≡ false))) × ((number a b ≡ 0) ↔ ((a ≡ true) × (b ≡ true)))
    go false b =
        (((λ e. refl), λ e. refl), ((λ e. absurd (omega arith)), λ e. absurd (true≢false (sym e.0))), ((λ e. absurd (omega arith)), λ e. absurd (true≢false (sym e.0))))
    go true false =
        (((λ e. absurd (omega arith)), λ e. absurd (true≢false e)), ((λ e. (refl, refl)), λ e. refl), ((λ e. absurd (omega arith)), λ e. absurd (true≢false (sym e.1))))
    go true true =
        (((λ e. absurd (omega arith)), λ e. absurd (true≢false e)), ((λ e. absurd (omega arith)), λ e. absurd (true≢false e.1)), ((λ e. (refl, refl)), λ e. refl))

-- ---- a refusal leaves every word, and its result is zeros

pub start_kept : (m n : ℕ) (ws : List ℕ) → answer_number (start_of m n ws) ≢ 0 → start_image m n ws ≡ ws
unfolding start_image done_image answer_number
start_kept m n ws e = go (start_of m n ws) e
  where
    go : (d : Result Unit Refusal) → answer_number d ≢ 0 → done_image ws (started m n ws) d ≡ ws
    go (Ok tt) f = absurd (f refl)
    go (Err r) f = refl

pub set_kept : (m n : ℕ) (ws : List ℕ) (key : Key) (v : Value) → answer_number (write_of m n ws key) ≢ 0 → write_image m n ws key v ≡ ws
unfolding write_of write_image target_done target_image answer_number
set_kept m n ws key v e = go (target_of m n ws key) e
  where
    go : (t : Result (NodeIndex × Node × Value) Refusal) → answer_number (target_done t) ≢ 0 → target_image m n ws v t ≡ ws
    go (Ok (i, x, old)) f = absurd (f refl)
    go (Err r) f = refl

pub got_zeros : (a : Result Value Refusal) → answer_number a ≢ 0 → got_value a ≡ zero_value
unfolding answer_number got_value
got_zeros (Ok v) e = absurd (e refl)
got_zeros (Err r) e = refl

pub done_zeros : (a : Result Unit Refusal) → answer_number a ≢ 0 → done_flag a ≡ false
unfolding answer_number done_flag
done_zeros (Ok tt) e = absurd (e refl)
done_zeros (Err r) e = refl

pub place_zeros : (a : Result NodeIndex Refusal) → answer_number a ≢ 0 → place_index a ≡ 0
unfolding answer_number place_index
place_zeros (Ok i) e = absurd (e refl)
place_zeros (Err r) e = refl

pub entry_zeros : (a : Result (Key × Value) Refusal) → answer_number a ≢ 0 → (entry_key a ≡ zero_key) × (entry_value a ≡ zero_value)
unfolding answer_number entry_key entry_value
entry_zeros (Ok (k, v)) e = absurd (e refl)
entry_zeros (Err r) e = (refl, refl)

pub count_zeros : (a : Result ℕ Refusal) → answer_number a ≢ 0 → count_is a ≡ 0
unfolding answer_number count_is
count_zeros (Ok k) e = absurd (e refl)
count_zeros (Err r) e = refl

-- ---- no second outcome fits. (A call that only reads has an answer alone, and its contract is an equation for it.)

pub start_once : (m n : ℕ) {before a b : List ℕ} → Bytes a → Bytes b → length a ≡ length before → length b ≡ length before
    → Leaves before a (answer_number (start_of m n (image_of before))) (start_image m n (image_of before))
    → Leaves before b (answer_number (start_of m n (image_of before))) (start_image m n (image_of before)) → a ≡ b
start_once m n {before} small small' long long' x y =
    one_outcome (λ e. shaped_whole m n before ((start_numbers m n (image_of before)).2.0 e).0) small small' long long' x y

pub set_once : (m n : ℕ) (key : Key) (v : Value) {before a b : List ℕ} → Bytes a → Bytes b → length a ≡ length before → length b ≡ length before
    → Leaves before a (answer_number (write_of m n (image_of before) key)) (write_image m n (image_of before) key v)
    → Leaves before b (answer_number (write_of m n (image_of before) key)) (write_image m n (image_of before) key v) → a ≡ b
unfolding write_of target_done answer_number refusal_number
set_once m n key v {before} small small' long long' x y = one_outcome (λ e. whole (target_of m n (image_of before) key) refl e) small small' long long' x y
  where
    whole : (t : Result (NodeIndex × Node × Value) Refusal) → target_of m n (image_of before) key ≡ t → answer_number (target_done t) ≡ 0 → length before % 4 ≡ 0
    whole (Ok (i, x, w)) q e = let o = target_opened m n (image_of before) key i x w q in opened_whole m n before o.0 o.1
    whole (Err no.Shape) q e = absurd (omega arith)
    whole (Err no.Damaged) q e = absurd (omega arith)
    whole (Err no.Full) q e = absurd (omega arith)
    whole (Err no.Absent) q e = absurd (omega arith)
    whole (Err no.NotBlank) q e = absurd (omega arith)
    whole (Err no.Cursor) q e = absurd (omega arith)
