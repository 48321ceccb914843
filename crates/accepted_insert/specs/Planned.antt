-- Insert's plan on an accepted image: refused exactly where the map is full, else the first leaf, the key's own leaf, or
-- the split of the node where the key parts from the tree.
use Rattle.std.specs.Prelude.{◌≡◌, List, Bool, true, false, cond, ℕ, ◌+◌, ◌≤◌, ◌<◌, length, leb, Err, Ok}
use Rattle.std.proofs.Common.{sym, ◌∙◌, arith, eq-eqb, ne_eqb}
use Rattle.std.proofs.Math.Option.{none, some}
use Rattle.std.proofs.lemmas.List.{length-map}
use Rattle.keys.specs.declared.Key.{Key}
use Rattle.records.specs.declared.Header.{Header}
use Rattle.records.specs.declared.Value.{Value}
use Rattle.records.specs.declared.Refusal.TheVariants as no
use Rattle.records.specs.Records.{header_of, node_of, value_record_of}
use Rattle.inspection.specs.Opening.{open_of}
use Rattle.insert.specs.declared.Plan.TheVariants.{First, Replace, Split}
use Rattle.insert.specs.Plan.{stop_plan, insert_plan}
use Rattle.insert.specs.Steps.{opened_plan}
use Rattle.trees.specs.Keys.{shared, bit}
use Rattle.trees.specs.Tree.{Tree, leaf, inner, top, key_of}
use Rattle.trees.specs.Lookup.{lookup}
use Rattle.trees.specs.Map.{Map, list_of, OrderedMap}
use Rattle.trees.specs.Changes.{target}
use Rattle.accepted.specs.Rules.{Holds, Live}
use Rattle.accepted.specs.Accepted.{Accepted, HoldsMap, value_at_record}
use Rattle.accepted.specs.Tests.{live_passes}
use Rattle.accepted.specs.Held.{kids_pass, accepted_clean}
use Rattle.accepted.proofs.Opens.{accepted_opens}
use Rattle.accepted_lookup.specs.Descents.{at, stop_from, found_value}
use Rattle.accepted_lookup.specs.Answers as lookup_answers
use Rattle.accepted_lookup.specs.Answers.{listed, find_tree}
use Rattle.accepted_insert.specs.Taken.{new_leaf_passes, split_passes}

-- the subtree where the descent ends is held
pub target_held : (h : Header) (ws : List ℕ) (key : Key) (parent low : ℕ) (t : Tree) → Holds h ws parent low t
    → (above : ℕ) × (least : ℕ) × Holds h ws above least (target key t)
unfolding Holds
target_held h ws key parent low (leaf i a v) k = (parent, low, k)
target_held h ws key parent low (inner i a p l r) k =
    go (leb p (shared key a)) (bit key p) (target_held h ws key i (p + 1) l k.on_left)
    (target_held h ws key i (p + 1) r k.on_right)
  where
    go : (s b : Bool) → (above : ℕ) × (least : ℕ) × Holds h ws above least (target key l)
        → (above : ℕ) × (least : ℕ) × Holds h ws above least (target key r)
        → (above : ℕ) × (least : ℕ) × Holds h ws above least
        (cond s (cond b (target key r) (target key l)) (inner i a p l r))
    go true true x y = y
    go true false x y = x
    go false b x y = (parent, low, k)

module _ {m n : ℕ} {ws : List ℕ} (a : Accepted m n ws) where
  abbrev h : Header
  h = header_of n ws

  -- the size is the list's length
  pub sized : h.values.size ≡ length (listed a)
  sized =
      lookup_answers.sized a a.tree a.holds ∙ sym
      (length-map {B = Key × Value} (list_of a.tree) (λ e. (e.0, value_at_record n ws e.1)))

  -- a map that is not full has room for two nodes
  pub node_room : h.values.size < m → h.nodes.size + 2 ≤ n
  node_room l = omega (arith, a.header.node_size, a.shape.twice)

  module _ (key : Key) where
    planned : opened_plan m n ws key (open_of m n ws) ≡ insert_plan m n h ws key
    unfolding opened_plan
    planned = rw (accepted_opens a)

    pub plan_full : h.values.size ≡ m → opened_plan m n ws key (open_of m n ws) ≡ Err no.Full
    unfolding insert_plan
    plan_full e = planned ∙ rw (eq-eqb h.values.size m e)

    module _ (room : h.values.size < m) where
      descended : (t : Map) → HoldsMap h ws t → OrderedMap t
          → opened_plan m n ws key (open_of m n ws) ≡ stop_plan m n h ws (lookup_answers.stop_in a key t)
      unfolding insert_plan
      descended t k o = planned ∙ rw (ne_eqb h.values.size m (λ e. omega arith), find_tree a key t k o)

      pub plan_first : HoldsMap h ws none → OrderedMap none → opened_plan m n ws key (open_of m n ws) ≡ Ok (First h)
      unfolding stop_plan
      plan_first k o = descended none k o ∙ rw (new_leaf_passes a (omega (arith, node_room room)) room)

      module _ (t : Tree) (k : HoldsMap h ws (some t)) (o : OrderedMap (some t)) where
        held : Holds h ws 0 0 t
        unfolding HoldsMap
        held = k.held

        pub plan_replace : (e : ℕ × ℕ) → lookup key t ≡ some e → Live (value_record_of n ws e.1)
            → opened_plan m n ws key (open_of m n ws) ≡ Ok (Replace (at e.0) (record { 0 = e.1 }))
        unfolding stop_plan stop_from
        plan_replace e q live =
            let own : (node_of ws e.0).value.0 ≡ e.1 = found_value h ws key 0 0 t held e q in
            let same : (node_of ws e.0).value ≡ record { 0 = e.1 } = λ ι. record { 0 = own ι } in
            descended (some t) k o ∙ rw (q, same, live_passes n ws e.0 e.1 live)

        pub plan_split : lookup key t ≡ none
            → opened_plan m n ws key (open_of m n ws) ≡ Ok (Split h (at (top (target key t))) (node_of ws (top (target key t)))
            (shared key (key_of (target key t))))
        unfolding stop_plan stop_from
        plan_split q =
            let x = target_held h ws key 0 0 t held in
            descended (some t) k o ∙ rw (
              q,
              kids_pass h ws (accepted_clean a) x.0 x.1 (target key t) x.2,
              split_passes a (node_room room)
                  room,
            )
