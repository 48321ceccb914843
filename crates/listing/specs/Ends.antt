-- A step as the code takes it: one end's stack alone, and what refuses first; and that it is the position's step. The stack is written while its nodes are tested, and goes back as it came
-- where a test fails.
use Rattle.std.specs.Prelude.{◌≡◌, List, Bool, ◌&&◌, ◌||◌, ℕ, zero, suc, ◌≤◌, length, Err, None, Ok, Option, Result, Some}
use Rattle.std.proofs.Math.Path.{refl}
use Rattle.std.proofs.Common.{sym, ap, ◌∙◌, arith, leb-true}
use Rattle.std.proofs.Math.Bool.{true, false, cond}
use Rattle.std.proofs.lemmas.Bool.{false≢true}
use Rattle.std.proofs.Math.Dec.{eqb, leb}
use Rattle.records.specs.declared.Value.{Value}
use Rattle.words.specs.Tests.{and_l}
use Rattle.records.specs.declared.Header.{Header}
use Rattle.records.specs.declared.NodeIndex.{NodeIndex}
use Rattle.records.specs.declared.ValueIndex.{ValueIndex}
use Rattle.records.specs.declared.Refusal.{Refusal}
use Rattle.records.specs.declared.Refusal.TheVariants as no
use Rattle.records.specs.declared.Node.{Node}
use Rattle.inspection.specs.declared.Visited.{Visited}
use Rattle.inspection.specs.declared.Visited.TheVariants as visited
use Rattle.inspection.specs.Tests.{shape_ok}
use Rattle.inspection.specs.Visit.{live_of}
use Rattle.inspection.specs.Opening.{open_of}
use Rattle.listing.specs.declared.Stack.{Stack}
use Rattle.listing.specs.declared.Position.{Position}
use Rattle.listing.specs.declared.Reached.{Reached}
use Rattle.listing.specs.declared.Given.{Given}
use Rattle.listing.specs.declared.Moved.{Moved}
use Rattle.listing.specs.declared.Stepped.{Stepped}
use Rattle.listing.specs.Position.{most_places}
use Rattle.listing.specs.Step.{pop_to, live_moved, leaf_moved, came_moved, opened_moved, moved_of, near_end, far_end, with_near, refused_step, opened_step, step_of}

-- ---- what the leaf comes to, without the stack

abbrev pub stuck : ValueIndex → Given
stuck last = record { moves = false; ended = false; last = last; entry = Err no.Damaged }

unfoldable pub live_given : Node → ValueIndex → Option Value → Given
live_given x last (Some v) = record { moves = true; ended = false; last = x.value; entry = Ok (x.key, v) }
live_given x last None = stuck last

unfoldable pub given_of : ℕ → List ℕ → Visited → NodeIndex → ValueIndex → ValueIndex → Given
given_of n ws (visited.Leaf x) leaf last other =
    cond (eqb x.value.0 other.0)
    (record { moves = true; ended = true; last = last; entry = Err no.Absent })
    (live_given x last (live_of n ws leaf.0 x.value.0))
given_of n ws (visited.Inner x) leaf last other = stuck last
given_of n ws visited.Damaged leaf last other = stuck last

-- the stack as opened where it moves, as it came where it does not
abbrev pub given : Stack → Reached → Given → Moved
given s o g = record {
  near = record { places = cond g.moves o.places s.places; count = cond g.moves o.count s.count; last = g.last };
  ended = g.ended;
  entry = g.entry;
}

-- where it does not move, what was opened does not matter
pub given_moved : (n : ℕ) (ws : List ℕ) (s : Stack) (other : ValueIndex) (o : Reached)
    → opened_moved n ws s other o ≡ given s o (given_of n ws o.came o.leaf s.last other)
unfolding opened_moved leaf_moved live_moved given_of live_given
given_moved n ws s other o = go o.came
  where
    by_live : (x : Node) (l : Option Value) → live_moved s o x l ≡ given s o (live_given x s.last l)
    by_live x (Some v) = refl
    by_live x None = refl

    meet : (x : Node) (b : Bool) (l : Option Value)
        → cond b (record { near = record { places = o.places; count = o.count; last = s.last }; ended = true; entry = Err no.Absent }) (live_moved s o x l)
        ≡ given s o (cond b (record { moves = true; ended = true; last = s.last; entry = Err no.Absent }) (live_given x s.last l))
    meet x true l = refl
    meet x false l = by_live x l

    go : (came : Visited) → came_moved n ws s other o came ≡ given s o (given_of n ws came o.leaf s.last other)
    go (visited.Leaf x) = meet x (eqb x.value.0 other.0) (live_of n ws o.leaf.0 x.value.0)
    go (visited.Inner x) = refl
    go visited.Damaged = refl

-- ---- whether a step may pop a node

-- there is one to pop where the listing has not ended and the stack is not empty
unfoldable pub opened_admit : Bool → ℕ → Result Header Refusal → Result Header Refusal
opened_admit ended count (Ok h) = cond (ended || eqb count 0) (Err no.Absent) (Ok h)
opened_admit ended count (Err r) = Err r

-- the shape, then the position's counts, then the header
unfoldable pub admit_of : ℕ → ℕ → List ℕ → Bool → ℕ → ℕ → Result Header Refusal
admit_of m n ws ended count held =
    cond (shape_ok m n (length ws)) (cond (leb count most_places && leb held most_places) (opened_admit ended count (open_of m n ws)) (Err no.Cursor)) (Err no.Shape)

-- what is known where a node is popped
pub record Pops (m n : ℕ) (ws : List ℕ) (h : Header) (count : ℕ) : Type 0 where
  pub shape : shape_ok m n (length ws) ≡ true
  pub opened : open_of m n ws ≡ Ok h
  pub some : 1 ≤ count
  pub most : count ≤ 129

some_count : (ended : Bool) (count : ℕ) → ended || eqb count 0 ≡ false → 1 ≤ count
some_count true count e = absurd (false≢true (sym e))
some_count false zero e = absurd (false≢true (sym e))
some_count false (suc count) e = omega arith

pub admit_pops : (m n : ℕ) (ws : List ℕ) (ended : Bool) (count held : ℕ) (h : Header) → admit_of m n ws ended count held ≡ Ok h → Pops m n ws h count
unfolding admit_of opened_admit
admit_pops m n ws ended count held h e = go (shape_ok m n (length ws)) refl (leb count most_places && leb held most_places) refl (open_of m n ws) refl e
  where
    none : {A : Type 0} (r : Refusal) → Err r ≡ Ok h → A
    none r d = let z : ◌≡◌ {A = ℕ} 0 1 = cc in absurd (omega arith)

    go : (shape : Bool) → shape_ok m n (length ws) ≡ shape → (fit : Bool) → leb count most_places && leb held most_places ≡ fit → (o : Result Header Refusal) → open_of m n ws ≡ o
        → cond shape (cond fit (opened_admit ended count o) (Err no.Cursor)) (Err no.Shape) ≡ Ok h → Pops m n ws h count
    go false a fit b o f d = none no.Shape d
    go true a false b o f d = none no.Cursor d
    go true a true b (Err r) f d = none r d
    go true a true b (Ok k) f d = last (ended || eqb count 0) refl d
      where
        last : (x : Bool) → ended || eqb count 0 ≡ x → cond x (Err no.Absent) (Ok k) ≡ Ok h → Pops m n ws h count
        last true c q = none no.Absent q
        last false c q =
            let same : k ≡ h = cc in record { shape = a; opened = f ∙ ap Ok same; some = some_count ended count c; most = leb-true count 129 (and_l (leb count 129) (leb held 129) b) }

-- ---- an end's step

abbrev pub stayed : Stack → Bool → Refusal → Moved
stayed s ended r = record { near = s; ended = ended; entry = Err r }

abbrev pub admit_moved : Bool → ℕ → List ℕ → Bool → Stack → ValueIndex → Result Header Refusal → Moved
admit_moved back n ws ended s other (Ok h) = opened_moved n ws s other (pop_to back h ws s)
admit_moved back n ws ended s other (Err r) = stayed s ended r

unfoldable pub end_step : Bool → ℕ → ℕ → List ℕ → Bool → Stack → ℕ → ValueIndex → Moved
end_step back m n ws ended s held other = admit_moved back n ws ended s other (admit_of m n ws ended s.count held)

-- ---- the position's step is its near end's

abbrev pub assembled : Bool → Position → Moved → Stepped
assembled back p r = record { entry = r.entry; position = with_near back p r }

abbrev pub near_step : Bool → ℕ → ℕ → List ℕ → Position → Moved
near_step back m n ws p = end_step back m n ws p.ended (near_end back p) (far_end back p).count (far_end back p).last

module _ (n : ℕ) (ws : List ℕ) (p : Position) where
  end_refused : (b : Bool) (r : Refusal) → refused_step p r ≡ assembled b p (stayed (near_end b p) p.ended r)
  end_refused true r = refl
  end_refused false r = refl

  end_opened : (b : Bool) (o : Result Header Refusal)
      → opened_step b n ws p o ≡ assembled b p (admit_moved b n ws p.ended (near_end b p) (far_end b p).last (opened_admit p.ended (near_end b p).count o))
  unfolding opened_step moved_of opened_admit
  end_opened b (Ok h) = go (p.ended || eqb (near_end b p).count 0)
    where
      go : (none : Bool)
          → assembled b p (cond none (stayed (near_end b p) p.ended no.Absent) (opened_moved n ws (near_end b p) (far_end b p).last (pop_to b h ws (near_end b p))))
          ≡ assembled b p (admit_moved b n ws p.ended (near_end b p) (far_end b p).last (cond none (Err no.Absent) (Ok h)))
      go true = refl
      go false = refl
  end_opened b (Err r) = end_refused b r

  -- both counts fit, whichever is asked first
  fits : (b : Bool) → leb (near_end b p).count most_places && leb (far_end b p).count most_places ≡ leb p.front.count most_places && leb p.back.count most_places
  fits true = turn (leb p.back.count most_places) (leb p.front.count most_places)
    where
      turn : (x y : Bool) → x && y ≡ y && x
      turn true true = refl
      turn true false = refl
      turn false true = refl
      turn false false = refl
  fits false = refl

  pub end_step_lem : (b : Bool) (m : ℕ) → step_of b m n ws p ≡ assembled b p (near_step b m n ws p)
  unfolding step_of end_step admit_of
  end_step_lem b m = rw (fits b) (go (shape_ok m n (length ws)) (leb p.front.count most_places && leb p.back.count most_places))
    where
      go : (shape fit : Bool) → cond shape (cond fit (opened_step b n ws p (open_of m n ws)) (refused_step p no.Cursor)) (refused_step p no.Shape)
          ≡ assembled b p
          (admit_moved b n ws p.ended (near_end b p) (far_end b p).last
          (cond shape (cond fit (opened_admit p.ended (near_end b p).count (open_of m n ws)) (Err no.Cursor)) (Err no.Shape)))
      go true true = end_opened b (open_of m n ws)
      go true false = end_refused b no.Cursor
      go false fit = end_refused b no.Shape
