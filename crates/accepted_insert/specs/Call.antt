-- Insert on an accepted image answers as the list does: a full map is refused and its image left, else the answer is
-- where the key then stands, and the image is accepted with the list's next state.
use Rattle.std.specs.Prelude.{◌≡◌, List, ◌≢◌, ℕ, ◌≤◌, ◌<◌, length, Err, Ok, Result}
use Rattle.std.proofs.Math.Path.{refl, subst}
use Rattle.std.proofs.Common.{sym, ap, ◌∙◌}
use Rattle.std.proofs.Math.Option.{Option, none, some}
use native.Mathlib.Omega.{arith}
use Rattle.records.specs.declared.Refusal.{Refusal}
use Rattle.keys.specs.declared.Key.{Key}
use Rattle.keys.specs.Number.{Fits}
use Rattle.records.specs.declared.Header.{Header}
use Rattle.records.specs.declared.NodeIndex.{NodeIndex}
use Rattle.records.specs.declared.Value.{Value}
use Rattle.records.specs.declared.Refusal.TheVariants as no
use Rattle.records.specs.Records.{header_of, node_of, value_record_of}
use Rattle.records.specs.Writes.{live_record, set_value}
use Rattle.inspection.specs.Opening.{open_of}
use Rattle.insert.specs.declared.Plan.{Plan}
use Rattle.insert.specs.declared.Plan.TheVariants.{First, Replace, Split}
use Rattle.insert.specs.Steps.{plan_image, plan_place, opened_plan, insert_of, insert_image}
use Rattle.lookup.specs.Get.{addr_of}
use Rattle.lists.specs.Entries.{Rising, find, find_all, is_some, enter, enter_held}
use Rattle.lists.specs.Machine.{FitsValue}
use Rattle.trees.specs.Keys.{shared}
use Rattle.trees.specs.Tree.{Tree, top, key_of}
use Rattle.trees.specs.Lookup.{lookup, value_of}
use Rattle.trees.specs.Map.{Map, list_of, lookup_in, OrderedMap}
use Rattle.trees.proofs.Map.{map_ascending}
use Rattle.trees.specs.Changes.{target}
use Rattle.accepted.specs.Rules.{Live}
use Rattle.accepted.specs.Held.{list_used}
use Rattle.accepted.specs.Accepted.{Accepted, HoldsMap}
use Rattle.accepted_lookup.specs.Answers.{valued, listed, held_valued, valued_rising, value_found, place_from, addr_agrees}
use Rattle.accepted_write.specs.Write.{value_accepted, value_tree, value_listed}
use Rattle.accepted_insert.specs.Planned.{sized, plan_full, plan_first, plan_replace, plan_split}
use Rattle.accepted_insert.specs.First.{first_agrees}
use Rattle.accepted_insert.specs.Splitting.{split_agrees}

module _ {m n : ℕ} {ws : List ℕ} (a : Accepted m n ws) (key : Key) (fits : Fits key) (v : Value)
    (fits_value : FitsValue v) where
  abbrev h : Header
  h = header_of n ws

  -- ---- the full map

  pub insert_full : length (listed a) ≡ m
      → (insert_of m n ws key ≡ Err no.Full) × (insert_image m n ws key v ≡ ws)
  unfolding insert_of insert_image plan_place plan_image
  insert_full e = let q = plan_full a key (sized a ∙ e) in (rw q refl, rw q refl)

  -- ---- a plan that writes

  -- the answer, and what the image is afterwards
  abbrev Enters : Result NodeIndex Refusal → List ℕ → Type 0
  Enters p vs =
      (i : NodeIndex) × (p ≡ Ok i)
      × ((b : Accepted m n vs) × (listed b ≡ enter key v (listed a)) × (addr_of m n vs key ≡ Ok i))

  -- an image in whose tree the key stands at node i
  entered : (vs : List ℕ) (i j : ℕ) (b : Accepted m n vs) → listed b ≡ enter key v (listed a)
      → lookup_in key b.tree ≡ some (i, j) → Enters (Ok (record { 0 = i })) vs
  entered vs i j b l f = (record { 0 = i }, refl, (b, l, addr_agrees b key ∙ ap place_from f))

  -- the key's own leaf
  module _ (e : ℕ × ℕ) (hit : lookup_in key a.tree ≡ some e) where
    at_record : find key (list_of a.tree) ≡ some e.1
    at_record = sym (value_found a key) ∙ ap value_of hit

    inside : (1 ≤ e.1) × (e.1 < h.values.bump)
    inside =
        find_all (λ j. (1 ≤ j) × (j < h.values.bump)) key (list_of a.tree) e.1
        (list_used h ws a.tree a.holds) at_record

    alive : Live (value_record_of n ws e.1)
    alive = find_all (λ j. Live (value_record_of n ws j)) key (list_of a.tree) e.1 a.live at_record

    abbrev vs : List ℕ
    vs = set_value m n ws e.1 (live_record e.0 v)

    replaced : Accepted m n vs
    replaced = value_accepted a e.0 e.1 inside.0 inside.1 alive v fits_value

    tree_same : replaced.tree ≡ a.tree
    unfolding replaced
    tree_same = value_tree a e.0 e.1 inside.0 inside.1 alive v fits_value

    replaced_list : listed replaced ≡ enter key v (listed a)
    replaced_list =
        ap (λ (u : Map). valued n vs (list_of u)) tree_same
        ∙ value_listed a e.0 e.1 inside.0 inside.1 alive v fits_value key (list_of a.tree) a.different at_record
        ∙ sym (enter_held key v (listed a) rising (held_valued n ws key (list_of a.tree) ∙ ap is_some at_record))
      where
        rising : Rising (listed a)
        rising = valued_rising n ws (list_of a.tree) (map_ascending a.tree a.ordered)

    replace_enters : Enters (Ok (record { 0 = e.0 })) vs
    replace_enters = entered vs e.0 e.1 replaced replaced_list (ap (lookup_in key) tree_same ∙ hit)

  -- by its plan
  by_plan : (p : Result Plan Refusal) → opened_plan m n ws key (open_of m n ws) ≡ p → Enters (plan_place p) (plan_image m n ws key v p)
      → Enters (insert_of m n ws key) (insert_image m n ws key v)
  unfolding insert_of insert_image
  by_plan p q e = subst (λ (z : Result Plan Refusal). Enters (plan_place z) (plan_image m n ws key v z)) (sym q) e

  pub insert_enters : length (listed a) ≢ m → Enters (insert_of m n ws key) (insert_image m n ws key v)
  unfolding plan_place plan_image
  insert_enters d = on_tree a.tree refl
    where
      room : h.values.size < m
      room = let most = a.header.size_most in let off : h.values.size ≢ m = λ e. d (sym (sized a) ∙ e) in omega arith

      holds : (u : Map) → a.tree ≡ u → HoldsMap h ws u
      holds u is = subst (HoldsMap h ws) is a.holds

      ordered : (u : Map) → a.tree ≡ u → OrderedMap u
      ordered u is = subst OrderedMap is a.ordered

      on_lookup : (t : Tree) → a.tree ≡ some t → (r : Option (ℕ × ℕ)) → lookup key t ≡ r
          → Enters (insert_of m n ws key) (insert_image m n ws key v)
      on_lookup t is (some e) hit =
          let found : lookup_in key a.tree ≡ some e = ap (lookup_in key) is ∙ hit in
          by_plan (Ok (Replace (record { 0 = e.0 }) (record { 0 = e.1 })))
          (plan_replace a key room t (holds (some t) is) (ordered (some t) is) e hit (alive e found))
          (replace_enters e found)
      on_lookup t is none miss =
          let s = split_agrees a key fits v fits_value t is miss room in
          by_plan (Ok (Split h (record { 0 = top (target key t) }) (node_of ws (top (target key t))) (shared key (key_of (target key t)))))
          (plan_split a key room t (holds (some t) is) (ordered (some t) is) miss)
          (entered _ h.nodes.head h.values.head s.0 s.1 s.2)

      on_tree : (u : Map) → a.tree ≡ u → Enters (insert_of m n ws key) (insert_image m n ws key v)
      on_tree none is =
          let s = first_agrees a key fits v fits_value is in
          by_plan (Ok (First h)) (plan_first a key room (holds none is) (ordered none is))
          (entered _ h.nodes.head h.values.head s.0 s.1 s.2)
      on_tree (some t) is = on_lookup t is (lookup key t) refl

  -- ---- both

  pub insert_agrees :
      (length (listed a) ≡ m → (insert_of m n ws key ≡ Err no.Full) × (insert_image m n ws key v ≡ ws))
      × (length (listed a) ≢ m
      → (i : NodeIndex) × (insert_of m n ws key ≡ Ok i)
      × ((b : Accepted m n (insert_image m n ws key v)) × (listed b ≡ enter key v (listed a))
      × (addr_of m n (insert_image m n ws key v) key ≡ Ok i)))
  insert_agrees = (insert_full, insert_enters)
