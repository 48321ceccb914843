-- Remove on an accepted image answers as the list does, refusals included, and leaves an accepted image whose list is
-- the list without the key.
use Rattle.std.specs.Prelude.{◌≡◌, List, ℕ, Ok, Some, Err, Result}
use Rattle.std.proofs.Math.Path.{refl, sym, ap}
use Rattle.std.proofs.Common.{◌∙◌, inl, inr}
use Rattle.std.proofs.Math.Option.{Option, none, some, map}
use Rattle.records.specs.declared.Refusal.{Refusal}
use Rattle.keys.specs.declared.Key.{Key}
use Rattle.records.specs.declared.Header.{Header}
use Rattle.records.specs.declared.Value.{Value}
use Rattle.records.specs.declared.Refusal.TheVariants as no
use Rattle.records.specs.Records.{header_of, node_of, leaf_node, value_record_of}
use Rattle.descent.specs.Found.{stop_leaf}
use Rattle.inspection.specs.Visit.{live_of}
use Rattle.descent.specs.Descent.{bits_turn}
use Rattle.remove.specs.declared.Plan.{Plan}
use Rattle.remove.specs.Plan.{leaf_plan, stop_plan, reached_plan}
use Rattle.remove.specs.Steps.{plan_image, value_gone, opened_plan, remove_of, removed_image}
use Rattle.lists.specs.Entries.{same, find, find_all, unfound, erase, erase_none}
use Rattle.lists.specs.Answers.{got_from}
use Rattle.trees.specs.Keys.{bit, Bit, testb}
use Rattle.trees.specs.Tree.{Tree}
use Rattle.trees.specs.Lookup.{reach, value_of}
use Rattle.trees.specs.Remove.{hit}
use Rattle.trees.specs.Map.{Map, list_of, reach_in}
use Rattle.trees.proofs.Map.{map_lookup}
use Rattle.accepted.specs.Rules.{Live}
use Rattle.accepted.specs.Accepted.{Accepted, value_at_record}
use Rattle.accepted.specs.Tests.{live_passes}
use Rattle.accepted.specs.Held.{accepted_clean}
use Rattle.accepted.proofs.Opens.{accepted_opens}
use Rattle.accepted_lookup.specs.Descents.{at, landed, reach_landed, landed_node, bits_sided}
use Rattle.accepted_lookup.specs.Answers.{listed, landed_in, sides_tree, find_valued}
use Rattle.accepted_remove.specs.Spot.{hit_leaf, cut_planned}
use Rattle.accepted_remove.specs.After.{removed_accepted, removed_listed, held_tree}
use Rattle.accepted_remove.specs.Cut.{place, cut_removed}
use Rattle.accepted_remove.specs.Lone.{lone_removed, lone_planned}

module _ {m n : ℕ} {ws : List ℕ} (a : Accepted m n ws) (key : Key) where
  abbrev h : Header
  h = header_of n ws

  -- what is to be shown of a plan
  abbrev Agrees : Result Plan Refusal → Type 0
  Agrees p = (value_gone p ≡ got_from (find key (listed a))) × ((b : Accepted m n (plan_image m n ws p)) × (listed b ≡ erase key (listed a)))

  -- what the key's bits lead to is what the list holds
  reached : (r : Option (ℕ × ℕ)) → reach_in key a.tree ≡ r → find key (list_of a.tree) ≡ value_of r
  reached r q = sym (map_lookup key a.tree a.ordered).1 ∙ ap value_of q

  listed_is : (r : Option (ℕ × ℕ)) → reach_in key a.tree ≡ r → find key (listed a) ≡ map (value_at_record n ws) (value_of r)
  listed_is r q = find_valued n ws key (list_of a.tree) ∙ ap (map (value_at_record n ws)) (reached r q)

  absent : reach_in key a.tree ≡ none → Agrees (Err no.Absent)
  unfolding value_gone plan_image
  absent q =
      let miss : find key (listed a) ≡ none = listed_is none q in
      (rw miss refl, (a, sym (erase_none key (listed a) (unfound key (listed a) miss))))

  -- the key's leaf i of the tree t, which names value record j
  module _ (t : Tree) (is : a.tree ≡ some t) (i j : ℕ) (e : reach key t ≡ some (i, j)) where
    found : reach_in key a.tree ≡ some (i, j)
    found = ap (λ (u : Map). reach_in key u) is ∙ e

    abbrev v : Value
    v = value_at_record n ws j

    answer : Ok v ≡ got_from (find key (listed a))
    answer = sym (ap got_from (listed_is (some (i, j)) found))

    pub alive : Live (value_record_of n ws j)
    alive = find_all (λ w. Live (value_record_of n ws w)) key (list_of a.tree) j a.live (reached (some (i, j)) found)

    present : Agrees (leaf_plan h ws key (at i) (node_of ws i) (Some v))
    unfolding value_gone plan_image
    present = go (testb (hit key t))
      where
        go : Bit (hit key t) → Agrees (leaf_plan h ws key (at i) (node_of ws i) (Some v))
        go (inl b) =
            let z = hit_leaf key t i j b e in
            let lone = is ∙ ap (λ (u : Tree). some u) z.1 in
            let r = lone_removed a key i z.0 j lone z.2 in
            rw (lone_planned a key i z.0 j lone z.2 v) (answer, (removed_accepted r, removed_listed r))
        go (inr b) =
            let r = cut_removed a key t is i j b e in
            rw (cut_planned (place a key t is i j b e) (accepted_clean a) v) (answer, (removed_accepted r, removed_listed r))

  -- where the key's bits lead
  stopped : (u : Map) → a.tree ≡ u → Agrees (stop_plan n h ws key (landed_in a (bit key) u))
  unfolding reached_plan stop_leaf live_of
  stopped none is = absent (ap (λ (u : Map). reach_in key u) is)
  stopped (some t) is = go (testb (same key own))
    where
      own : Key
      own = (landed (bit key) t).0

      i : ℕ
      i = (landed (bit key) t).1.0

      j : ℕ
      j = (landed (bit key) t).1.1

      above : ℕ
      above = (landed_node h ws (bit key) 0 0 t (held_tree a is)).0

      here : node_of ws i ≡ leaf_node above own j
      here = (landed_node h ws (bit key) 0 0 t (held_tree a is)).1

      go : Bit (same key own) → Agrees (stop_plan n h ws key (landed_in a (bit key) (some t)))
      go (inl e) =
          let got : reach key t ≡ some (i, j) = reach_landed key t ∙ rw e in
          rw (here, e, live_passes n ws i j (alive t is i j got)) (rw here at (present t is i j got))
      go (inr e) = rw (here, e) (absent (ap (λ (u : Map). reach_in key u) is ∙ reach_landed key t ∙ rw e))

  -- Remove answers the value of the key, or that it is absent; the image afterwards is accepted, and its list is the
  -- list without the key.
  pub remove_agrees : (remove_of m n ws key ≡ got_from (find key (listed a))) × ((b : Accepted m n (removed_image m n ws key)) × (listed b ≡ erase key (listed a)))
  unfolding remove_of removed_image opened_plan
  remove_agrees =
      rw (accepted_opens a, sides_tree a (bits_turn key) (bit key) (bits_sided key) a.tree a.holds a.ordered) (stopped a.tree refl)
