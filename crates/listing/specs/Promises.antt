-- Demand 1 for listings: the numbers of making a position and of a step, each "when, and only then"; a refusal other than 4 leaves the position, and its results are zeros; and no second outcome fits.
-- (A listing is lent the image to read, and cannot change a word of it.)
use Rattle.std.proofs.Math.Path.{◌≡◌, refl, ap}
use Rattle.std.proofs.Common.{sym, ◌∙◌, inl, inr, ⊎_elim, true≢false, arith}
use Rattle.std.specs.Prelude.{List, ◌↔◌, ◌⊎◌, Bool, cond, ◌&&◌, ◌||◌, ℕ, length, eqb, leb, Err, None, Ok, Result, Some}
use Rattle.std.proofs.Math.Logic.{◌≢◌}
use Rattle.std.proofs.Math.Bool.{true, false}
use Rattle.records.specs.declared.Value.{Value}
use Rattle.records.specs.declared.Refusal.{Refusal}
use Rattle.keys.specs.declared.Key.{Key}
use Rattle.records.specs.declared.Header.{Header}
use Rattle.records.specs.declared.ValueIndex.{ValueIndex}
use Rattle.records.specs.declared.Refusal.TheVariants as no
use Rattle.records.specs.declared.Node.{Node}
use Rattle.records.specs.Records.{header_of, value_record_of}
use Rattle.inspection.specs.declared.Visited.{Visited}
use Rattle.inspection.specs.declared.Visited.TheVariants as visited
use Rattle.inspection.specs.Visit.{live_of}
use Rattle.inspection.specs.Tests.{shape_ok, top_ok, live_value}
use Rattle.inspection.specs.Opening.{open_of}
use Rattle.records.specs.Numbers.{refusal_number, answer_number, entry_key, entry_value, zero_key, zero_value}
use Rattle.inspection.specs.Room.{open_header}
use Rattle.inspection.specs.Answers.{OpensAs, misshapen, unsound, sound, opens}
use Rattle.listing.specs.declared.Stack.{Stack}
use Rattle.listing.specs.declared.Position.{Position}
use Rattle.listing.specs.declared.Reached.{Reached}
use Rattle.listing.specs.declared.Moved.{Moved}
use Rattle.listing.specs.declared.Stepped.{Stepped}
use Rattle.listing.specs.Position.{most_places, empty_stack, both_ends, opened_made, made_of}
use Rattle.listing.specs.Step.{pop_to, lost, live_moved, leaf_moved, came_moved, opened_moved, moved_of, near_end, far_end, with_near, refused_step, opened_step, step_of}

-- ---- making a position: 1 and 2 are shape and header, and nothing else refuses

pub made_numbers : (m n : ℕ) (ws : List ℕ)
    → ((answer_number (made_of m n ws).answer ≡ 1) ↔ (shape_ok m n (length ws) ≡ false))
    × ((answer_number (made_of m n ws).answer ≡ 2) ↔ ((shape_ok m n (length ws) ≡ true) × (top_ok m n ws ≡ false)))
    × ((answer_number (made_of m n ws).answer ≡ 0) ↔ ((shape_ok m n (length ws) ≡ true) × (top_ok m n ws ≡ true)))
unfolding made_of opened_made answer_number refusal_number
made_numbers m n ws = go (opens m n ws)
  where
    Goal : Bool → Bool → ℕ → Type 0
    Goal a b k = ((k ≡ 1) ↔ (a ≡ false)) × ((k ≡ 2) ↔ ((a ≡ true) × (b ≡ false))) × ((k ≡ 0) ↔ ((a ≡ true) × (b ≡ true)))

    by : (a b : Bool) → Goal a b (cond a (cond b 0 2) 1)
    by false b = (
      ((λ e. refl), λ e. refl),
      ((λ e. absurd (omega arith)), λ e. absurd (true≢false (sym e.0))),
      ((λ e. absurd (omega arith)), λ e. absurd (true≢false (sym e.0))),
    )
    by true false = (
      ((λ e. absurd (omega arith)), λ e. absurd (true≢false e)),
      ((λ e. (refl, refl)), λ e. refl),
      ((λ e. absurd (omega arith)), λ e. absurd (true≢false (sym e.1))),
    )
    by true true = (
      ((λ e. absurd (omega arith)), λ e. absurd (true≢false e)),
      ((λ e. absurd (omega arith)), λ e. absurd (true≢false e.1)),
      ((λ e. (refl, refl)), λ e. refl),
    )

    go : OpensAs m n ws → Goal (shape_ok m n (length ws)) (top_ok m n ws) (answer_number (opened_made (open_of m n ws)).answer)
    go (misshapen e o) = rw (e, o) (by false (top_ok m n ws))
    go (unsound e h o) = rw (e, h, o) (by true false)
    go (sound h e k o) = rw (e, k, o) (by true true)

-- a refused making gives a position of zeros, not ended
pub made_zeros : (m n : ℕ) (ws : List ℕ) → answer_number (made_of m n ws).answer ≢ 0 → (made_of m n ws).position ≡ both_ends empty_stack
unfolding made_of opened_made answer_number
made_zeros m n ws e = go (open_of m n ws) e
  where
    go : (o : Result Header Refusal) → answer_number (opened_made o).answer ≢ 0 → (opened_made o).position ≡ both_ends empty_stack
    go (Ok h) f = absurd (f refl)
    go (Err r) f = refl

-- ---- a step: seven tests, one after the other, decide its number

-- shape, counts, header, ended or empty, the nodes, the ends meet, the value record
abbrev pub numbered : Bool → Bool → Bool → Bool → Bool → Bool → Bool → ℕ
numbered shape fit header over good met live = cond shape (cond fit (cond header (cond over 4 (cond good (cond met 4 (cond live 0 2)) 2)) 2) 6) 1

-- when, and only then
pub record Numbers (shape fit header over good met live : Bool) (k : ℕ) : Type 0 where
  pub shape_fails : (k ≡ 1) ↔ (shape ≡ false)
  pub cursor : (k ≡ 6) ↔ ((shape ≡ true) × (fit ≡ false))
  pub damaged :
      (k ≡ 2)
      ↔ ((shape ≡ true) × (fit ≡ true)
      × ((header ≡ false) ⊎ ((header ≡ true) × (over ≡ false) × ((good ≡ false) ⊎ ((good ≡ true) × (met ≡ false) × (live ≡ false))))))
  pub absent : (k ≡ 4) ↔ ((shape ≡ true) × (fit ≡ true) × (header ≡ true) × ((over ≡ true) ⊎ ((over ≡ false) × (good ≡ true) × (met ≡ true))))
  pub gives : (k ≡ 0) ↔ ((shape ≡ true) × (fit ≡ true) × (header ≡ true) × (over ≡ false) × (good ≡ true) × (met ≡ false) × (live ≡ true))

decided : (shape fit header over good met live : Bool) → Numbers shape fit header over good met live (numbered shape fit header over good met live)
decided false fit header over good met live =
    record {
      shape_fails = ((λ e. refl), λ e. refl);
      cursor = ((λ e. absurd (omega arith)), λ e. absurd (true≢false (sym e.0)));
      damaged = ((λ e. absurd (omega arith)), λ e. absurd (true≢false (sym e.0)));
      absent = ((λ e. absurd (omega arith)), λ e. absurd (true≢false (sym e.0)));
      gives = ((λ e. absurd (omega arith)), λ e. absurd (true≢false (sym e.0)));
    }
decided true false header over good met live =
    record {
      shape_fails = ((λ e. absurd (omega arith)), λ e. absurd (true≢false e));
      cursor = ((λ e. (refl, refl)), λ e. refl);
      damaged = ((λ e. absurd (omega arith)), λ e. absurd (true≢false (sym e.1)));
      absent = ((λ e. absurd (omega arith)), λ e. absurd (true≢false (sym e.1)));
      gives = ((λ e. absurd (omega arith)), λ e. absurd (true≢false (sym e.1)));
    }
decided true true false over good met live =
    record {
      shape_fails = ((λ e. absurd (omega arith)), λ e. absurd (true≢false e));
      cursor = ((λ e. absurd (omega arith)), λ e. absurd (true≢false e.1));
      damaged = ((λ e. (refl, refl, inl refl)), λ e. refl);
      absent = ((λ e. absurd (omega arith)), λ e. absurd (true≢false (sym e.2)));
      gives = ((λ e. absurd (omega arith)), λ e. absurd (true≢false (sym e.2)));
    }
decided true true true true good met live =
    record {
      shape_fails = ((λ e. absurd (omega arith)), λ e. absurd (true≢false e));
      cursor = ((λ e. absurd (omega arith)), λ e. absurd (true≢false e.1));
      damaged = ((λ e. absurd (omega arith)), λ e. ⊎_elim (λ q. absurd (true≢false q)) (λ q. absurd (true≢false q.1)) e.2);
      absent = ((λ e. (refl, refl, refl, inl refl)), λ e. refl);
      gives = ((λ e. absurd (omega arith)), λ e. absurd (true≢false e.3));
    }
decided true true true false false met live =
    record {
      shape_fails = ((λ e. absurd (omega arith)), λ e. absurd (true≢false e));
      cursor = ((λ e. absurd (omega arith)), λ e. absurd (true≢false e.1));
      damaged = ((λ e. (refl, refl, inr (refl, refl, inl refl))), λ e. refl);
      absent = ((λ e. absurd (omega arith)), λ e. ⊎_elim (λ q. absurd (true≢false (sym q))) (λ q. absurd (true≢false (sym q.1))) e.3);
      gives = ((λ e. absurd (omega arith)), λ e. absurd (true≢false (sym e.4)));
    }
decided true true true false true true live =
    record {
      shape_fails = ((λ e. absurd (omega arith)), λ e. absurd (true≢false e));
      cursor = ((λ e. absurd (omega arith)), λ e. absurd (true≢false e.1));
      damaged = ((λ e. absurd (omega arith)), λ e. ⊎_elim (λ q. absurd (true≢false q)) (λ q. ⊎_elim (λ r. absurd (true≢false r)) (λ r. absurd (true≢false r.1)) q.2) e.2);
      absent = ((λ e. (refl, refl, refl, inr (refl, refl, refl))), λ e. refl);
      gives = ((λ e. absurd (omega arith)), λ e. absurd (true≢false e.5));
    }
decided true true true false true false true =
    record {
      shape_fails = ((λ e. absurd (omega arith)), λ e. absurd (true≢false e));
      cursor = ((λ e. absurd (omega arith)), λ e. absurd (true≢false e.1));
      damaged = ((λ e. absurd (omega arith)), λ e. ⊎_elim (λ q. absurd (true≢false q)) (λ q. ⊎_elim (λ r. absurd (true≢false r)) (λ r. absurd (true≢false r.2)) q.2) e.2);
      absent = ((λ e. absurd (omega arith)), λ e. ⊎_elim (λ q. absurd (true≢false (sym q))) (λ q. absurd (true≢false (sym q.2))) e.3);
      gives = ((λ e. (refl, refl, refl, refl, refl, refl, refl)), λ e. refl);
    }
decided true true true false true false false =
    record {
      shape_fails = ((λ e. absurd (omega arith)), λ e. absurd (true≢false e));
      cursor = ((λ e. absurd (omega arith)), λ e. absurd (true≢false e.1));
      damaged = ((λ e. (refl, refl, inr (refl, refl, inr (refl, refl, refl)))), λ e. refl);
      absent = ((λ e. absurd (omega arith)), λ e. ⊎_elim (λ q. absurd (true≢false (sym q))) (λ q. absurd (true≢false (sym q.2))) e.3);
      gives = ((λ e. absurd (omega arith)), λ e. absurd (true≢false (sym e.6)));
    }

-- a leaf came: every node that was popped or opened passes
abbrev pub leaf_came : Visited → Bool
leaf_came (visited.Leaf x) = true
leaf_came (visited.Inner x) = false
leaf_came visited.Damaged = false

-- the leaf names this value record
abbrev pub names_in : ℕ → Visited → Bool
names_in j (visited.Leaf x) = eqb x.value.0 j
names_in j (visited.Inner x) = false
names_in j visited.Damaged = false

-- the leaf's value record passes
abbrev pub lives_in : ℕ → List ℕ → ℕ → Visited → Bool
lives_in n ws leaf (visited.Leaf x) = live_value n ws leaf x.value.0
lives_in n ws leaf (visited.Inner x) = false
lives_in n ws leaf visited.Damaged = false

module _ (n : ℕ) (ws : List ℕ) (s : Stack) (far : ValueIndex) (o : Reached) where
  abbrev by_record : Node → Bool → Moved
  by_record x b = live_moved s o x (cond b (Some (value_record_of n ws x.value.0).value) None)

  leaf_number : (x : Node) (c d : Bool) (y : Moved) → answer_number y.entry ≡ 4 → answer_number (cond c y (by_record x d)).entry ≡ cond c 4 (cond d 0 2)
  unfolding live_moved answer_number refusal_number
  leaf_number x true d y e = e
  leaf_number x false true y e = refl
  leaf_number x false false y e = refl

  came_number : (v : Visited) → answer_number (came_moved n ws s far o v).entry ≡ cond (leaf_came v) (cond (names_in far.0 v) 4 (cond (lives_in n ws o.leaf.0 v) 0 2)) 2
  unfolding leaf_moved live_of answer_number refusal_number
  came_number (visited.Leaf x) = leaf_number x (eqb x.value.0 far.0) (live_value n ws o.leaf.0 x.value.0) _ refl
  came_number (visited.Inner x) = refl
  came_number visited.Damaged = refl

  leaf_lost : (x : Node) (c d : Bool) (y : Moved) → answer_number y.entry ≡ 4 → answer_number (cond c y (by_record x d)).entry ≡ 2 → cond c y (by_record x d) ≡ lost s
  unfolding live_moved answer_number refusal_number
  leaf_lost x true d y e q = absurd (omega arith)
  leaf_lost x false true y e q = absurd (omega arith)
  leaf_lost x false false y e q = refl

  came_lost : (v : Visited) → answer_number (came_moved n ws s far o v).entry ≡ 2 → came_moved n ws s far o v ≡ lost s
  unfolding leaf_moved live_of answer_number refusal_number
  came_lost (visited.Leaf x) e = leaf_lost x (eqb x.value.0 far.0) (live_value n ws o.leaf.0 x.value.0) _ refl e
  came_lost (visited.Inner x) e = refl
  came_lost visited.Damaged e = refl

module _ (back : Bool) (m n : ℕ) (ws : List ℕ) (p : Position) where
  -- both counts are at most 129
  abbrev pub fits : Bool
  fits = leb p.front.count most_places && leb p.back.count most_places

  -- the listing has ended, or the stack is empty
  abbrev pub ends : Bool
  ends = p.ended || eqb (near_end back p).count 0

  -- the popped node and those that were opened after it
  abbrev pub reached : Reached
  reached = pop_to back (header_of n ws) ws (near_end back p)

  -- all of them pass, and a leaf came
  abbrev pub good : Bool
  good = leaf_came reached.came

  -- the leaf names the value record that the other end gave last
  abbrev pub meets : Bool
  meets = names_in (far_end back p).last.0 reached.came

  abbrev pub lives : Bool
  lives = lives_in n ws reached.leaf.0 reached.came

  pick : (a : Bool) (x y : Moved) (k : ℕ) → answer_number x.entry ≡ 4 → answer_number y.entry ≡ k → answer_number (cond a x y).entry ≡ cond a 4 k
  pick true x y k e f = e
  pick false x y k e f = f

  moved_number : answer_number (moved_of back n (header_of n ws) ws p.ended (near_end back p) (far_end back p).last).entry
      ≡ cond ends 4 (cond good (cond meets 4 (cond lives 0 2)) 2)
  unfolding moved_of opened_moved answer_number refusal_number
  moved_number = pick ends _ _ _ refl (came_number n ws (near_end back p) (far_end back p).last reached reached.came)

  turn : (f : Bool) (x y : Stepped) (k : ℕ) → answer_number x.entry ≡ k → answer_number y.entry ≡ 6 → answer_number (cond f x y).entry ≡ cond f k 6
  turn true x y k e g = e
  turn false x y k e g = g

  step_number : answer_number (step_of back m n ws p).entry ≡ numbered (shape_ok m n (length ws)) fits (top_ok m n ws) ends good meets lives
  unfolding step_of opened_step answer_number refusal_number
  step_number = go (opens m n ws)
    where
      go : OpensAs m n ws
          → answer_number (cond (shape_ok m n (length ws)) (cond fits (opened_step back n ws p (open_of m n ws)) (refused_step p no.Cursor)) (refused_step p no.Shape)).entry
          ≡ numbered (shape_ok m n (length ws)) fits (top_ok m n ws) ends good meets lives
      go (misshapen e o) = rw e
      go (unsound e h o) = rw (e, h, o) (turn fits (refused_step p no.Damaged) (refused_step p no.Cursor) 2 refl refl)
      go (sound h e k o) =
          let same : open_of m n ws ≡ Ok (header_of n ws) = o ∙ ap Ok (sym (open_header m n ws h o)) in
          rw (e, k, same) (turn fits (opened_step back n ws p (Ok (header_of n ws))) (refused_step p no.Cursor) _ moved_number refl)

  -- the numbers of a step, at either end
  pub step_numbers : Numbers (shape_ok m n (length ws)) fits (top_ok m n ws) ends good meets lives (answer_number (step_of back m n ws p).entry)
  step_numbers = rw step_number (decided (shape_ok m n (length ws)) fits (top_ok m n ws) ends good meets lives)

  -- ---- what a refusal leaves

  pick_kept : (a : Bool) (x y : Moved) → answer_number x.entry ≡ 4 → (a ≡ false → answer_number y.entry ≡ 2 → with_near back p y ≡ p)
      → answer_number (cond a x y).entry ≡ 2 → with_near back p (cond a x y) ≡ p
  pick_kept true x y e f q = absurd (omega arith)
  pick_kept false x y e f q = f refl q

  -- an end that stays
  stays : (b t : Bool) (given : Result (Key × Value) Refusal) → p.ended ≡ t → with_near b p (record { near = near_end b p; ended = t; entry = given }) ≡ p
  stays true t given e = λ ι. record { front = p.front; back = p.back; ended = sym e ι }
  stays false t given e = λ ι. record { front = p.front; back = p.back; ended = sym e ι }

  not_ended : (a b : Bool) → a || b ≡ false → a ≡ false
  not_ended true b e = e
  not_ended false b e = refl

  moved_kept : answer_number (moved_of back n (header_of n ws) ws p.ended (near_end back p) (far_end back p).last).entry ≡ 2
      → with_near back p (moved_of back n (header_of n ws) ws p.ended (near_end back p) (far_end back p).last) ≡ p
  unfolding moved_of opened_moved answer_number refusal_number
  moved_kept =
      pick_kept ends _ _ refl
      (λ e q. ap (with_near back p) (came_lost n ws (near_end back p) (far_end back p).last reached reached.came q)
      ∙ stays back false (Err no.Damaged) (not_ended p.ended (eqb (near_end back p).count 0) e))

  -- a refusal other than 4 leaves every word of the position
  pub step_kept : answer_number (step_of back m n ws p).entry ≢ 0 → answer_number (step_of back m n ws p).entry ≢ 4 → (step_of back m n ws p).position ≡ p
  unfolding step_of opened_step answer_number refusal_number
  step_kept = go (opens m n ws)
    where
      few : (a b c d : Bool) → ◌≢◌ {A = ℕ} (cond a 4 (cond b (cond c 4 (cond d 0 2)) 2)) 0 → ◌≢◌ {A = ℕ} (cond a 4 (cond b (cond c 4 (cond d 0 2)) 2)) 4 → ◌≡◌ {A = ℕ} (cond a 4 (cond b (cond c 4 (cond d 0 2)) 2)) 2
      few true b c d f g = absurd (g refl)
      few false true true d f g = absurd (g refl)
      few false true false true f g = absurd (f refl)
      few false true false false f g = refl
      few false false c d f g = refl

      opened : (f : Bool) (x : Stepped) → (answer_number x.entry ≢ 0 → answer_number x.entry ≢ 4 → x.position ≡ p)
          → answer_number (cond f x (refused_step p no.Cursor)).entry ≢ 0 → answer_number (cond f x (refused_step p no.Cursor)).entry ≢ 4 → (cond f x (refused_step p no.Cursor)).position ≡ p
      opened true x h d e = h d e
      opened false x h d e = refl

      unmoved : answer_number (opened_step back n ws p (Ok (header_of n ws))).entry ≢ 0 → answer_number (opened_step back n ws p (Ok (header_of n ws))).entry ≢ 4
          → (opened_step back n ws p (Ok (header_of n ws))).position ≡ p
      unmoved d e =
          moved_kept (moved_number ∙ few ends good meets lives (λ q. d (moved_number ∙ q)) (λ q. e (moved_number ∙ q)))

      go : OpensAs m n ws
          → answer_number (cond (shape_ok m n (length ws)) (cond fits (opened_step back n ws p (open_of m n ws)) (refused_step p no.Cursor)) (refused_step p no.Shape)).entry ≢ 0
          → answer_number (cond (shape_ok m n (length ws)) (cond fits (opened_step back n ws p (open_of m n ws)) (refused_step p no.Cursor)) (refused_step p no.Shape)).entry ≢ 4
          → (cond (shape_ok m n (length ws)) (cond fits (opened_step back n ws p (open_of m n ws)) (refused_step p no.Cursor)) (refused_step p no.Shape)).position ≡ p
      go (misshapen e o) = rw e (λ f g. refl)
      go (unsound e h o) = rw (e, o) (opened fits (refused_step p no.Damaged) (λ f g. refl))
      go (sound h e k o) =
          let same : open_of m n ws ≡ Ok (header_of n ws) = o ∙ ap Ok (sym (open_header m n ws h o)) in
          rw (e, same) (opened fits (opened_step back n ws p (Ok (header_of n ws))) unmoved)

  -- and its results are zeros
  pub step_zeros : answer_number (step_of back m n ws p).entry ≢ 0 → (entry_key (step_of back m n ws p).entry ≡ zero_key) × (entry_value (step_of back m n ws p).entry ≡ zero_value)
  unfolding answer_number entry_key entry_value
  step_zeros = go (step_of back m n ws p).entry
    where
      go : (a : Result (Key × Value) Refusal) → answer_number a ≢ 0 → (entry_key a ≡ zero_key) × (entry_value a ≡ zero_value)
      go (Ok (k, v)) e = absurd (e refl)
      go (Err r) e = (refl, refl)

  -- no second outcome fits the contract
  pub step_once : (r q : Stepped) → r ≡ step_of back m n ws p → q ≡ step_of back m n ws p → r ≡ q
  step_once r q e f = e ∙ sym f
