-- A value write on an accepted image keeps the tree, and changes the value of its key in the whole list and in every segment of it alike.
use Rattle.std.specs.Prelude.{◌≡◌, refl, List, [], ◌∷◌, map, Bool, true, false, cond, ℕ, ◌≤◌, ◌<◌, Result}
use Rattle.std.proofs.Common.{sym, ap, ◌∙◌, arith, eqb-true, ne_eqb}
use Rattle.std.proofs.Math.Path.{subst}
use Rattle.std.proofs.Math.Option.{Option, none, some}
use Rattle.records.specs.declared.Refusal.{Refusal}
use Rattle.records.specs.declared.NodeIndex.{NodeIndex}
use Rattle.records.specs.declared.Node.{Node}
use Rattle.keys.specs.declared.Key.{Key}
use Rattle.keys.specs.Number.{number_of}
use Rattle.records.specs.declared.Value.{Value}
use Rattle.records.specs.Records.{header_of, value_record_of}
use Rattle.lookup.specs.Get.{target_image, write_image}
use Rattle.lists.specs.Lists.{All, all_map}
use Rattle.lists.specs.Entries.{same, Before, Rising, find, find_all, unfound, update}
use Rattle.lists.specs.Machine.{FitsValue}
use Rattle.trees.specs.Lookup.{value_of}
use Rattle.trees.specs.Map.{Map, list_of, lookup_in}
use Rattle.trees.proofs.Map.{map_ascending}
use Rattle.trees.specs.Values.{Entry}
use Rattle.accepted.specs.Rules.{Live}
use Rattle.accepted.specs.Held.{list_used}
use Rattle.accepted.specs.Accepted.{Accepted, value_at_record}
use Rattle.accepted_lookup.specs.Answers.{valued, listed, target_from, value_found, target_value, target_agrees}
use Rattle.accepted_write.specs.Write.{value_accepted, value_tree, value_listed}
use Rattle.accepted_listing.specs.Segments.{Segment, segment_whole, segment_all, segment_pairs}

-- ---- lists that agree at every element

together : {A B : Type 0} (f g : A → B) (xs : List A) → All (λ x. f x ≡ g x) xs → map f xs ≡ map g xs
together f g [] h = refl
together f g (x ∷ xs) h = let rest : map f xs ≡ map g xs = together f g xs h.1 in λ ι. h.0 ι ∷ rest ι

apart : {A B : Type 0} (f g : A → B) (xs : List A) → map f xs ≡ map g xs → All (λ x. f x ≡ g x) xs
apart f g [] e = tt
apart f g (x ∷ xs) e =
    let here : f x ≡ g x = cc in
    let rest : map f xs ≡ map g xs = cc in
    (here, apart f g xs rest)

-- ---- the list's value write, entry by entry

-- an entry after the write of v at the key
abbrev pub touched : ℕ → List ℕ → Key → Value → Entry → Key × Value
touched n ws key v e = (e.0, cond (same key e.0) v (value_at_record n ws e.1))

-- no other key is the key
others : (key : Key) (e : Entry) (es : List Entry) → same key e.0 ≡ true → All (Before e) es → All (λ y. same key y.0 ≡ false) es
others key e es s h =
    all_map (λ y l. ne_eqb (number_of key) (number_of y.0) (λ z. omega (arith, l, eqb-true (number_of key) (number_of e.0) s))) es h

untouched : (n : ℕ) (ws : List ℕ) (key : Key) (v : Value) (es : List Entry) → All (λ y. same key y.0 ≡ false) es → valued n ws es ≡ map (touched n ws key v) es
untouched n ws key v es h =
    together (λ e. (e.0, value_at_record n ws e.1)) (touched n ws key v) es
    (all_map (λ y s. ap (λ (b : Bool). (y.0, cond b v (value_at_record n ws y.1))) (sym s)) es h)

update_touched : (n : ℕ) (ws : List ℕ) (key : Key) (v : Value) (es : List Entry) → Rising es → update key v (valued n ws es) ≡ map (touched n ws key v) es
update_touched n ws key v [] o = refl
update_touched n ws key v (e ∷ es) o = go (same key e.0) refl (update_touched n ws key v es o.1)
  where
    go : (b : Bool) → same key e.0 ≡ b → update key v (valued n ws es) ≡ map (touched n ws key v) es
        → cond b ((e.0, v) ∷ valued n ws es) ((e.0, value_at_record n ws e.1) ∷ update key v (valued n ws es))
        ≡ (e.0, cond b v (value_at_record n ws e.1)) ∷ map (touched n ws key v) es
    go true s f = ap (λ (l : List (Key × Value)). (e.0, v) ∷ l) (untouched n ws key v es (others key e es s o.0))
    go false s f = ap (λ (l : List (Key × Value)). (e.0, value_at_record n ws e.1) ∷ l) f

-- ---- the value write over the words

-- an image vs with the same tree, in which every entry's value is the one after the write of v at the key
pub record Kept {m n : ℕ} {ws : List ℕ} (a : Accepted m n ws) (key : Key) (v : Value) (vs : List ℕ) : Type 0 where
  pub image : Accepted m n vs
  pub same_tree : image.tree ≡ a.tree
  pub values : All (λ e. ◌≡◌ {A = Key × Value} (e.0, value_at_record n vs e.1) (touched n ws key v e)) (list_of a.tree)

module _ {m n : ℕ} {ws : List ℕ} (a : Accepted m n ws) where
  pub write_keeps : (key : Key) (v : Value) → FitsValue v → Kept a key v (write_image m n ws key v)
  unfolding write_image target_image
  write_keeps key v fits = subst (λ (t : Result (NodeIndex × Node × Value) Refusal). Kept a key v (target_image m n ws v t)) (sym (target_agrees a key)) (go (lookup_in key a.tree) refl)
    where
      rising : Rising (list_of a.tree)
      rising = map_ascending a.tree a.ordered

      go : (r : Option (ℕ × ℕ)) → lookup_in key a.tree ≡ r → Kept a key v (target_image m n ws v (target_from a r))
      go none q =
          let miss : find key (list_of a.tree) ≡ none = sym (value_found a key) ∙ ap value_of q in
          record {
            image = a;
            same_tree = refl;
            values = apart _ _ (list_of a.tree) (untouched n ws key v (list_of a.tree) (unfound key (list_of a.tree) miss));
          }
      go (some e) q =
          let hit : find key (list_of a.tree) ≡ some e.1 = sym (value_found a key) ∙ ap value_of q in
          let inside = find_all (λ j. (1 ≤ j) × (j < (header_of n ws).values.bump)) key (list_of a.tree) e.1 (list_used (header_of n ws) ws a.tree a.holds) hit in
          let alive = find_all (λ j. Live (value_record_of n ws j)) key (list_of a.tree) e.1 a.live hit in
          rw (target_value a key e q)
          (record {
            image = value_accepted a e.0 e.1 inside.0 inside.1 alive v fits;
            same_tree = value_tree a e.0 e.1 inside.0 inside.1 alive v fits;
            values = apart _ _ (list_of a.tree)
                (value_listed a e.0 e.1 inside.0 inside.1 alive v fits key (list_of a.tree) a.different hit ∙ update_touched n ws key v (list_of a.tree) rising);
          })

  -- in the list, and in every segment of it, the key's entry gets the value
  pub segment_written : (key : Key) (v : Value) (vs : List ℕ) → Kept a key v vs → (es : List Entry) → Segment es (list_of a.tree) → valued n vs es ≡ update key v (valued n ws es)
  segment_written key v vs k es s =
      together (λ e. (e.0, value_at_record n vs e.1)) (touched n ws key v) es
      (segment_all (λ e. ◌≡◌ {A = Key × Value} (e.0, value_at_record n vs e.1) (touched n ws key v e)) es (list_of a.tree) s k.values)
      ∙ sym (update_touched n ws key v es (segment_pairs Before es (list_of a.tree) s (map_ascending a.tree a.ordered)))

  pub list_written : (key : Key) (v : Value) (vs : List ℕ) (k : Kept a key v vs) → listed k.image ≡ update key v (listed a)
  list_written key v vs k =
      ap (λ (t : Map). valued n vs (list_of t)) k.same_tree ∙ segment_written key v vs k (list_of a.tree) (segment_whole (list_of a.tree))
