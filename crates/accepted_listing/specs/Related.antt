-- A position of a listing over the words against a position of the walk over the image's tree: what relates them is made by making a position, and every step at either end keeps it and
-- gives the same entry.
use Rattle.std.specs.Prelude.{◌≡◌, refl, ◌≢◌, Bool, cond, ℕ, ◌-◌, ◌≤◌, eqb, Err, Ok}
use Rattle.std.proofs.Math.Path.{sym}
use Rattle.std.proofs.Common.{ap, subst, ◌∙◌, arith}
use mathlib.Core.List.{List, [], ◌∷◌}
use Rattle.std.proofs.Math.Bool.{true, false}
use Rattle.std.proofs.Math.Option.{Option, none, some, map}
use Rattle.std.proofs.Math.ListN.{length, length-set, length-replicate}
use borrow.Author.Tests.{le-leb, eq-eqb, ne_eqb}
use Rattle.keys.specs.declared.Key.{Key}
use Rattle.records.specs.declared.ValueIndex.{ValueIndex}
use Rattle.records.specs.declared.Value.{Value}
use Rattle.records.specs.declared.Refusal.TheVariants as no
use Rattle.records.specs.Records.{header_of, value_record_of}
use Rattle.inspection.specs.Visit.{first_of, live_of}
use Rattle.listing.specs.declared.Stack.{Stack}
use Rattle.listing.specs.declared.Position.{Position}
use Rattle.listing.specs.declared.Reached.{Reached}
use Rattle.listing.specs.declared.Moved.{Moved}
use Rattle.listing.specs.Position.{no_nodes, empty_stack, root_stack, both_ends, opened_made, made_of}
use Rattle.listing.specs.Step.{pop_to, live_moved, leaf_moved, opened_moved, moved_of, near_end, far_end, with_near, opened_step, step_of}
use Rattle.lists.specs.Lists.{All, all_parts}
use Rattle.lists.specs.Answers.{entry_from}
use Rattle.trees.specs.Tree.{Tree, leaf, inner, entries}
use Rattle.trees.proofs.Paths.{depth_bound}
use Rattle.trees.specs.Map.{Map, OrderedMap}
use Rattle.trees.specs.Values.{Entry}
use Rattle.trees.specs.Walk.{End, start, popped, gives, meets, next, end_at, position, move, step}
use Rattle.trees.specs.Walk as walk
use Rattle.trees.specs.Stacks.{passed, passed_in, Small, Perched, perched_length, Within, start_within, popped_all}
use Rattle.trees.proofs.Stacks.{step_within, during_small}
use Rattle.accepted.specs.Rules.{Live}
use Rattle.accepted.specs.Accepted.{Accepted, HoldsMap, value_at_record}
use Rattle.accepted.specs.Held.{accepted_clean, form_passes}
use Rattle.accepted.proofs.Opens.{accepted_opens}
use Rattle.accepted.specs.Tests.{shape_passes, live_passes}
use Rattle.accepted_lookup.specs.Answers.{size_some}
use Rattle.accepted_lookup.specs.Descents.{at}
use Rattle.accepted_listing.specs.Parts.{PartOf, HeldPart, part_whole, map_children, map_entries, map_held, Named}
use Rattle.accepted_listing.specs.Opens.{Reaches, opens}

-- ---- one end, and both

-- An end over the words and an end of the walk: as many places count as the stack has trees, and from the bottom up they name their tops; the last value index given is the same; and each tree
-- is a part of the map's tree, so that an image that holds the map's tree holds it.
pub record SameEnd (tree : Map) (e : End) (s : Stack) : Type 0 where
  pub room : length s.places ≡ 129
  pub counted : s.count ≡ length e.stack
  pub named : Named s.places e.stack
  pub latest : s.last ≡ record { 0 = e.last }
  pub parts : All (PartOf tree) e.stack

-- Both ends and the mark; and the walk's stacks hang off paths of the tree, so that none passes 129.
pub record Related (tree : Map) (w : walk.Position) (p : Position) : Type 0 where
  pub front : SameEnd tree w.front p.front
  pub back : SameEnd tree w.back p.back
  pub mark : p.ended ≡ w.ended
  pub within : Within w

-- both counts of a related position are at most 129
pub counts_bound : (tree : Map) (w : walk.Position) (p : Position) → Related tree w p → (p.front.count ≤ 129) × (p.back.count ≤ 129)
counts_bound tree w p r = (
  omega (arith, r.front.counted, perched_length w.front.stack r.within.0),
  omega (arith, r.back.counted, perched_length w.back.stack r.within.1),
)

-- an entry with the value that its record holds
abbrev pub valued_entry : ℕ → List ℕ → Entry → Key × Value
valued_entry n ws e = (e.0, value_at_record n ws e.1)

-- what holds of every entry of a tree holds of the one that a pop gives
popped_entry : (P : Entry → Type 0) (b : Bool) (t : Tree) (s : List Tree) → All P (entries t) → P (popped b t s).0
popped_entry P b (leaf i key v) s h = h.0
popped_entry P false (inner i key p l r) s h = popped_entry P false l (r ∷ s) (all_parts P (entries l) (entries r) h).0
popped_entry P true (inner i key p l r) s h = popped_entry P true r (l ∷ s) (all_parts P (entries l) (entries r) h).1

module _ {m n : ℕ} {ws : List ℕ} (a : Accepted m n ws) where
  -- what a step's move must come to, where the walk's end comes to r
  abbrev Moves : Option Entry × End × Bool → Moved → Type 0
  Moves r mv = (mv.entry ≡ entry_from (map (valued_entry n ws) r.0)) × SameEnd a.tree r.1 mv.near × (mv.ended ≡ r.2)

  -- ---- popping

  -- the popped tree is held, and is opened until its leaf comes
  popped_to : (back : Bool) (t : Tree) (s : List Tree) (last : ℕ) (st : Stack) → SameEnd a.tree (record { stack = t ∷ s; last = last }) st → Perched (t ∷ s)
      → All Small (passed back t s) → Reaches (popped back t s) (pop_to back (header_of n ws) ws st)
  unfolding pop_to first_of
  popped_to back t s last st e q b =
      let one : st.count - 1 ≡ length s = omega (arith, e.counted) in
      let k : HeldPart (header_of n ws) ws t = map_held (header_of n ws) ws a.tree t e.parts.0 a.holds in
      rw (one, e.named.0, form_passes (header_of n ws) ws (accepted_clean a) k.parent k.low t k.held)
      (opens (header_of n ws) ws (accepted_clean a) back 129 st.places s t k.parent k.low e.room e.named.1 b (omega (arith, depth_bound t q.order)) k.held)

  -- ---- what the leaf comes to

  -- what a pop leaves on the stack are parts again
  parts_left : (back : Bool) (t : Tree) (s : List Tree) → All (PartOf a.tree) (t ∷ s) → All (PartOf a.tree) (popped back t s).1
  parts_left back t s h = popped_all (PartOf a.tree) (map_children a.tree) back t s h

  -- the ends meet, or the entry is given: its value record is live
  leaf_moved_lem : (x : Entry × List Tree) (last other : ℕ) (st : Stack) (far : ValueIndex) (o : Reached) → Reaches x o → st.last ≡ record { 0 = last } → far.0 ≡ other
      → Live (value_record_of n ws x.0.1) → All (PartOf a.tree) x.1 → Moves (cond (eqb x.0.1 other) (meets x last) (gives x)) (opened_moved n ws st far o)
  unfolding opened_moved leaf_moved live_moved live_of
  leaf_moved_lem x last other st far o g l f v parts =
      rw (g.came, f, live_passes n ws o.leaf.0 x.0.1 v) (go (eqb x.0.1 other))
    where
      go : (b : Bool)
          → Moves (cond b (meets x last) (gives x))
          (cond b (record { near = record { places = o.places; count = o.count; last = st.last }; ended = true; entry = Err no.Absent })
          (record {
            near = record { places = o.places; count = o.count; last = record { 0 = x.0.1 } };
            ended = false;
            entry = Ok (x.0.0, (value_record_of n ws x.0.1).value);
          }))
      go true = (refl, record { room = g.room; counted = g.counted; named = g.named; latest = l; parts = parts }, refl)
      go false = (refl, record { room = g.room; counted = g.counted; named = g.named; latest = refl; parts = parts }, refl)

  -- ---- a move of one end

  moved : (back : Bool) (s : List Tree) (last other : ℕ) (st : Stack) (far : ValueIndex) → SameEnd a.tree (record { stack = s; last = last }) st → Perched s
      → All Small (passed_in back s) → far.0 ≡ other → Moves (next back s last other) (moved_of back n (header_of n ws) ws false st far)
  unfolding moved_of
  moved back [] last other st far e q b f = rw (eq-eqb st.count 0 e.counted) (refl, e, refl)
  moved back (t ∷ s) last other st far e q b f =
      let some_left : st.count ≢ 0 = λ z. omega (arith, e.counted) in
      rw (ne_eqb st.count 0 some_left)
      (leaf_moved_lem (popped back t s) last other st far (pop_to back (header_of n ws) ws st) (popped_to back t s last st e q b) e.latest f
      (popped_entry (λ y. Live (value_record_of n ws y.1)) back t s (map_entries (λ y. Live (value_record_of n ws y.1)) a.tree t e.parts.0 a.live))
      (parts_left back t s e.parts))

  -- ---- a step

  -- on an accepted image a related position is never refused for the shape, the header or its counts
  stepped : (back : Bool) (w : walk.Position) (p : Position) → Related a.tree w p
      → step_of back m n ws p
      ≡ record {
        entry = (moved_of back n (header_of n ws) ws p.ended (near_end back p) (far_end back p).last).entry;
        position = with_near back p (moved_of back n (header_of n ws) ws p.ended (near_end back p) (far_end back p).last);
      }
  unfolding step_of opened_step
  stepped back w p r =
      let small = counts_bound a.tree w p r in
      rw (shape_passes a.shape, le-leb p.front.count 129 small.0, le-leb p.back.count 129 small.1, accepted_opens a)

  -- what a step must come to, where the walk's step comes to z
  abbrev Steps : Bool → Position → Option Entry × walk.Position → Moved → Type 0
  Steps back p z mv = (mv.entry ≡ entry_from (map (valued_entry n ws) z.0)) × Related a.tree z.1 (with_near back p mv)

  ended_stays : (back : Bool) (w : walk.Position) (p : Position) → Related a.tree w p → w.ended ≡ true
      → Steps back p (none, w) (moved_of back n (header_of n ws) ws true (near_end back p) (far_end back p).last)
  unfolding moved_of
  ended_stays false w p r e = (refl, record { front = r.front; back = r.back; mark = sym e; within = r.within })
  ended_stays true w p r e = (refl, record { front = r.front; back = r.back; mark = sym e; within = r.within })

  moves : (back : Bool) (w : walk.Position) (p : Position) → Related a.tree w p → All Small (passed_in back (end_at back w).stack) → Within (move back w).1
      → Steps back p (move back w) (moved_of back n (header_of n ws) ws false (near_end back p) (far_end back p).last)
  moves false w p r b i =
      let k = moved false w.front.stack w.front.last w.back.last p.front p.back.last r.front r.within.0 b (ap (λ (x : ValueIndex). x.0) r.back.latest) in
      (k.0, record { front = k.1; back = r.back; mark = k.2; within = i })
  moves true w p r b i =
      let k = moved true w.back.stack w.back.last w.front.last p.back p.front.last r.back r.within.1 b (ap (λ (x : ValueIndex). x.0) r.front.latest) in
      (k.0, record { front = r.front; back = k.1; mark = k.2; within = i })

  -- A step at either end gives the entry of the walk's step, with the value that its record holds now, or absent; and the position is related to the walk's after its step.
  pub step_agrees : (back : Bool) (w : walk.Position) (p : Position) → Related a.tree w p
      → ((step_of back m n ws p).entry ≡ entry_from (map (valued_entry n ws) (step back w).0)) × Related a.tree (step back w).1 (step_of back m n ws p).position
  step_agrees back w p r = rw (stepped back w p r, r.mark) (go w.ended refl)
    where
      go : (t : Bool) → w.ended ≡ t → Steps back p (cond t (none, w) (move back w)) (moved_of back n (header_of n ws) ws t (near_end back p) (far_end back p).last)
      go true e = ended_stays back w p r e
      go false e =
          moves back w p r
          (subst (λ (t : Bool). All Small (cond t [] (passed_in back (end_at back w).stack))) e (during_small back w r.within))
          (subst (λ (t : Bool). Within (cond t (none, w) (move back w)).1) e (step_within back w r.within))

  -- ---- making a position

  root_end : (t : Tree) → HoldsMap (header_of n ws) ws (some t) → SameEnd (some t) (record { stack = t ∷ []; last = 0 }) (root_stack (header_of n ws).root)
  unfolding HoldsMap
  root_end t k =
      record { room = length-set no_nodes 0 (header_of n ws).root ∙ length-replicate 129 (at 0); counted = refl; named = ((λ ι. at (sym k.at_root ι)), tt); latest = refl; parts = (part_whole t, tt) }

  empty_end : SameEnd none (record { stack = []; last = 0 }) empty_stack
  empty_end = record { room = length-replicate 129 (at 0); counted = refl; named = tt; latest = refl; parts = tt }

  begun : (t : Map) → HoldsMap (header_of n ws) ws t → OrderedMap t
      → Related t (start t) (both_ends (cond (eqb (header_of n ws).values.size 0) empty_stack (root_stack (header_of n ws).root)))
  unfolding HoldsMap
  begun none k o = rw (eq-eqb (header_of n ws).values.size 0 k) (record { front = empty_end; back = empty_end; mark = refl; within = start_within none o })
  begun (some t) k o =
      rw (ne_eqb (header_of n ws).values.size 0 (size_some a t k)) (record { front = root_end t k; back = root_end t k; mark = refl; within = start_within (some t) o })

  -- Making a position succeeds, and the position is related to the walk's start.
  pub made_agrees : ((made_of m n ws).answer ≡ Ok tt) × Related a.tree (start a.tree) (made_of m n ws).position
  unfolding made_of opened_made
  made_agrees = rw (accepted_opens a) (refl, begun a.tree a.holds a.ordered)
