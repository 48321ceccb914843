-- A listing in progress on an accepted image: what is left of the list lies between its two ends. A step takes from what is left, with the value that the list has now; a value write changes the
-- list and what is left of it alike.
use Rattle.std.specs.Prelude.{◌≡◌, refl, List, [], ◌∷◌, ◌≢◌, Bool, cond, ℕ, ◌≤◌, ◌<◌}
use Rattle.std.proofs.Common.{sym, ap, subst, ◌∙◌, arith, eq-eqb, ne_eqb}
use Rattle.std.proofs.Math.Option.{Option, some, map}
use Rattle.keys.specs.declared.Key.{Key}
use Rattle.keys.specs.Number.{number_of}
use Rattle.records.specs.declared.Value.{Value}
use Rattle.lookup.specs.Get.{write_image}
use Rattle.listing.specs.declared.Position.{Position}
use Rattle.listing.specs.Position.{made_of}
use Rattle.listing.specs.Step.{step_of}
use Rattle.lists.specs.Lists.{All, all_both}
use Rattle.lists.specs.Entries.{same, list_end, rest_of, Rising, find, update}
use Rattle.lists.specs.Answers.{entry_from}
use Rattle.lists.specs.Machine.{FitsValue}
use Rattle.trees.specs.Ends.{all_end}
use Rattle.trees.specs.Map.{Map, list_of}
use Rattle.trees.proofs.Map.{map_ascending}
use Rattle.trees.specs.Values.{Entry}
use Rattle.trees.specs.Walk.{start, step, Stands, start_stands}
use Rattle.trees.proofs.Walk.{step_stands}
use Rattle.trees.specs.Walk as walk
use Rattle.accepted.specs.Accepted.{Accepted}
use Rattle.accepted_lookup.specs.Answers.{valued, valued_rising, listed}
use Rattle.accepted_listing.specs.Related.{Related, counts_bound, valued_entry, step_agrees, made_agrees}
use Rattle.accepted_listing.specs.Once.{end_map, rest_map}
use Rattle.accepted_listing.specs.Segments.{Segment, segment_whole, segment_rest, segment_all, segment_map}
use Rattle.accepted_listing.specs.Written.{Kept, write_keeps, segment_written, list_written}

-- The image is accepted, its list is `list`, and from the position on `left` is left of it: the position is related to a walk over the tree that stands at those entries.
pub record Moment (m n : ℕ) (ws : List ℕ) (p : Position) (list left : List (Key × Value)) : Type 0 where
  pub image : Accepted m n ws
  pub same_list : listed image ≡ list
  pub place : walk.Position
  pub related : Related image.tree place p
  pub mid : List Entry
  pub stands : Stands place mid
  pub segment : Segment mid (list_of image.tree)
  pub same_left : valued n ws mid ≡ left

-- ---- a list in ascending order holds each of its entries

finds : {A : Type 0} (es : List (Key × A)) → Rising es → All (λ e. find e.0 es ≡ some e.1) es
finds [] o = tt
finds {A} (x ∷ es) o = (rw (eq-eqb (number_of x.0) (number_of x.0) refl), all_both later es o.0 (finds es o.1))
  where
    later : (y : Key × A) → number_of x.0 < number_of y.0 → find y.0 es ≡ some y.1 → cond (same y.0 x.0) (some x.1) (find y.0 es) ≡ some y.1
    later y l h = let off : number_of y.0 ≢ number_of x.0 = λ z. omega arith in rw (ne_eqb (number_of y.0) (number_of x.0) off) h

-- ---- making a position

pub moment_made : {m n : ℕ} {ws : List ℕ} (a : Accepted m n ws) → Moment m n ws (made_of m n ws).position (listed a) (listed a)
moment_made a =
    record {
      image = a;
      same_list = refl;
      place = start a.tree;
      related = (made_agrees a).1;
      mid = list_of a.tree;
      stands = start_stands a.tree a.different;
      segment = segment_whole (list_of a.tree);
      same_left = refl;
    }

module _ {m n : ℕ} {ws : List ℕ} {p : Position} {list left : List (Key × Value)} (x : Moment m n ws p list left) where
  -- ---- a step

  -- the entry at the side's end of what is left is given, or absent if nothing is left
  pub moment_gives : (back : Bool) → (step_of back m n ws p).entry ≡ entry_from (list_end back left)
  moment_gives back =
      (step_agrees x.image back x.place p x.related).0
      ∙ ap (λ (o : Option Entry). entry_from (map (valued_entry n ws) o)) (step_stands back x.place x.mid x.stands).0
      ∙ ap entry_from (sym (end_map (valued_entry n ws) back x.mid) ∙ ap (list_end back) x.same_left)

  pub moment_stepped : (back : Bool) → Moment m n ws (step_of back m n ws p).position list (rest_of back left)
  moment_stepped back =
      record {
        image = x.image;
        same_list = x.same_list;
        place = (step back x.place).1;
        related = (step_agrees x.image back x.place p x.related).1;
        mid = rest_of back x.mid;
        stands = (step_stands back x.place x.mid x.stands).1;
        segment = segment_rest back x.mid (list_of x.image.tree) x.segment;
        same_left = sym (rest_map (valued_entry n ws) back x.mid) ∙ ap (rest_of back) x.same_left;
      }

  -- ---- a value write

  pub moment_written : (key : Key) (v : Value) → FitsValue v → Moment m n (write_image m n ws key v) p (update key v list) (update key v left)
  moment_written key v fits =
      let k : Kept x.image key v (write_image m n ws key v) = write_keeps x.image key v fits in
      record {
        image = k.image;
        same_list = list_written x.image key v (write_image m n ws key v) k ∙ ap (update key v) x.same_list;
        place = x.place;
        related = subst (λ (t : Map). Related t x.place p) (sym k.same_tree) x.related;
        mid = x.mid;
        stands = x.stands;
        segment = subst (λ (t : Map). Segment x.mid (list_of t)) (sym k.same_tree) x.segment;
        same_left = segment_written x.image key v (write_image m n ws key v) k x.mid x.segment ∙ ap (update key v) x.same_left;
      }

  -- ---- the stacks, and the list at this moment

  -- no stack passes 129
  pub moment_small : (p.front.count ≤ 129) × (p.back.count ≤ 129)
  moment_small = counts_bound x.image.tree x.place p x.related

  -- what is left is a segment of the list
  pub moment_segment : Segment left list
  moment_segment =
      subst (λ (l : List (Key × Value)). Segment l list) x.same_left
      (subst (λ (l : List (Key × Value)). Segment (valued n ws x.mid) l) x.same_list (segment_map (valued_entry n ws) x.mid (list_of x.image.tree) x.segment))

  -- the value that is given is the one that the list holds for the key at this moment
  pub moment_value : (back : Bool) (key : Key) (v : Value) → list_end back left ≡ some (key, v) → find key list ≡ some v
  moment_value back key v e = all_end (λ y. find y.0 list ≡ some y.1) back left (segment_all (λ y. find y.0 list ≡ some y.1) left list moment_segment all) e
    where
      all : All (λ y. find y.0 list ≡ some y.1) list
      all =
          subst (λ (l : List (Key × Value)). All (λ y. find y.0 l ≡ some y.1) l) x.same_list
          (finds (listed x.image) (valued_rising n ws (list_of x.image.tree) (map_ascending x.image.tree x.image.ordered)))
