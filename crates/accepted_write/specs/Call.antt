-- The value write on an accepted image answers as the list does, refusals included, and leaves an accepted image whose list is the list's next state.
use Rattle.std.specs.Prelude.{◌≡◌, List, [], ◌∷◌, true, false, ℕ, ◌≤◌, ◌<◌, Result}
use Rattle.std.proofs.Math.Path.{refl}
use Rattle.std.proofs.Common.{sym, ap, ◌∙◌}
use Rattle.std.proofs.Math.Option.{Option, none, some}
use Rattle.records.specs.declared.Refusal.{Refusal}
use Rattle.records.specs.declared.NodeIndex.{NodeIndex}
use Rattle.records.specs.declared.Node.{Node}
use Rattle.keys.specs.declared.Key.{Key}
use Rattle.records.specs.declared.Value.{Value}
use Rattle.records.specs.Records.{header_of, value_record_of}
use Rattle.records.specs.Writes.{live_record, set_value}
use Rattle.lookup.specs.Get.{target_of, target_done, write_of, target_image, write_image}
use Rattle.lists.specs.Lists.{All}
use Rattle.lists.specs.Entries.{find, held, is_some, find_all, Other, unheld, update}
use Rattle.lists.specs.Answers.{done_from}
use Rattle.lists.specs.Machine.{FitsValue}
use Rattle.trees.specs.Lookup.{value_of}
use Rattle.trees.specs.Map.{Map, list_of, lookup_in}
use Rattle.accepted.specs.Rules.{Live}
use Rattle.accepted.specs.Held.{list_used}
use Rattle.accepted.specs.Accepted.{Accepted}
use Rattle.accepted_lookup.specs.Answers.{valued, listed, value_found, held_listed, target_value, target_agrees}
use Rattle.accepted_write.specs.Write.{value_accepted, value_tree, value_listed}

-- ---- the list's value write where the key is not held

update_none : {A : Type 0} (key : Key) (v : A) (es : List (Key × A)) → All (λ e. Other key e.0) es → update key v es ≡ es
update_none key v [] h = refl
update_none key v (e ∷ es) h = rw (h.0, update_none key v es h.1)

module _ {m n : ℕ} {ws : List ℕ} (a : Accepted m n ws) (key : Key) (v : Value) (fits : FitsValue v) where
  pub write_agrees : (write_of m n ws key ≡ done_from (held key (listed a))) × ((b : Accepted m n (write_image m n ws key v)) × (listed b ≡ update key v (listed a)))
  unfolding write_of write_image target_done target_image
  write_agrees = go (lookup_in key a.tree) refl
    where
      Goal : Result (NodeIndex × Node × Value) Refusal → Type 0
      Goal t = (target_done t ≡ done_from (held key (listed a))) × ((b : Accepted m n (target_image m n ws v t)) × (listed b ≡ update key v (listed a)))

      go : (r : Option (ℕ × ℕ)) → lookup_in key a.tree ≡ r → Goal (target_of m n ws key)
      go none q =
          let gone : held key (listed a) ≡ false = held_listed a key ∙ ap (λ (r : Option (ℕ × ℕ)). is_some (value_of r)) q in
          rw (target_agrees a key, q) (rw gone refl, (a, sym (update_none key v (listed a) (unheld key (listed a) gone))))
      go (some e) q =
          let hit : find key (list_of a.tree) ≡ some e.1 = sym (value_found a key) ∙ ap value_of q in
          let inside = find_all (λ j. (1 ≤ j) × (j < (header_of n ws).values.bump)) key (list_of a.tree) e.1 (list_used (header_of n ws) ws a.tree a.holds) hit in
          let here : held key (listed a) ≡ true = held_listed a key ∙ ap (λ (r : Option (ℕ × ℕ)). is_some (value_of r)) q in
          let alive = find_all (λ j. Live (value_record_of n ws j)) key (list_of a.tree) e.1 a.live hit in
          rw (target_agrees a key, q, target_value a key e q)
          (rw here refl, (value_accepted a e.0 e.1 inside.0 inside.1 alive v fits, ap (λ (t : Map). valued n (set_value m n ws e.1 (live_record e.0 v)) (list_of t)) (value_tree a e.0 e.1 inside.0 inside.1 alive v fits) ∙ value_listed a e.0 e.1 inside.0 inside.1 alive v fits key (list_of a.tree) a.different hit))
