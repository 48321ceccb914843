-- The value write on an accepted image: a live value record is stored anew, the image stays accepted, and its list has the new value at the key.
use Rattle.std.proofs.Math.Path.{◌≡◌, refl, sym, ap}
use Rattle.std.proofs.Common.{subst, ◌∙◌, arith, pos_of_ne-zero}
use mathlib.Core.List.{List, [], ◌∷◌}
use Rattle.std.specs.Prelude.{◌≢◌, Bool, ℕ, ◌≤◌, ◌<◌}
use Rattle.std.proofs.Math.Bool.{true, false, cond}
use Rattle.std.proofs.Math.Option.{none, some}
use Rattle.std.proofs.Math.Decide.{ℕ_discrete}
use Rattle.keys.specs.declared.Key.{Key}
use Rattle.records.specs.declared.Header.{Header}
use Rattle.records.specs.declared.Node.{Node}
use Rattle.records.specs.declared.Value.{Value}
use Rattle.records.specs.declared.ValueRecord.{ValueRecord}
use Rattle.records.specs.Records.{header_of, node_of, value_record_of}
use Rattle.records.specs.Writes.{live_record, set_value}
use Rattle.lists.specs.Lists.{all_map, all_both}
use Rattle.lists.specs.Entries.{same, find, find_all, update}
use Rattle.lists.specs.Machine.{FitsValue}
use Rattle.trees.specs.Map.{Map, list_of}
use Rattle.trees.specs.Values.{Numbered}
use Rattle.record_views.specs.Nodes.{changed, changed_there, changed_other}
use Rattle.record_views.specs.Small.{live_fits}
use Rattle.record_views.specs.Stored.{Stored, stays, store_value, front_after, spare_after, padding_after}
use Rattle.accepted.specs.Rules.{Live, live_record_lem, FreeValue}
use Rattle.accepted.specs.Accepted.{Accepted, HoldsMap, value_at_record}
use Rattle.accepted.specs.Held.{in_range}
use Rattle.accepted.specs.Frame.{holds_kept, chain_kept, chain_range, accepted_bounds, nodes_unused_after, values_unused_after}
use Rattle.accepted.specs.Apart.{live_not_free}
use Rattle.accepted_lookup.specs.Answers.{valued, valued_kept}

-- record j of leaf `leaf` is live, and v is its new value
module _ {m n : ℕ} {ws : List ℕ} (a : Accepted m n ws) (leaf j : ℕ) (low : 1 ≤ j) (used : j < (header_of n ws).values.bump) (alive : Live (value_record_of n ws j))
    (v : Value) (fits : FitsValue v) where
  abbrev h : Header
  h = header_of n ws

  abbrev after : List ℕ
  after = set_value m n ws j (live_record leaf v)

  stored : Stored m n h.nodes.bump h.values.bump ws after (λ y x. x) (changed j (λ r. live_record leaf v)) (λ g. g)
  stored = store_value (stays (accepted_bounds a) ws (omega (arith, a.shape.words))) j (live_record leaf v) used (live_fits leaf fits)

  node_kept : (x : ℕ) → 1 ≤ x → x < h.nodes.bump → node_of after x ≡ node_of ws x
  node_kept x l b = stored.node x l (omega (arith, a.header.nodes.bump_most))

  record_kept : (x : ℕ) → 1 ≤ x → x ≢ j → value_record_of n after x ≡ value_record_of n ws x
  record_kept x l d = stored.value x l ∙ changed_other j (λ r. live_record leaf v) x (value_record_of n ws x) d

  record_there : value_record_of n after j ≡ live_record leaf v
  record_there = stored.value j low ∙ changed_there j (λ r. live_record leaf v) (value_record_of n ws j)

  -- every rule is kept
  pub value_accepted : Accepted m n (set_value m n ws j (live_record leaf v))
  unfolding HoldsMap
  value_accepted =
      record {
        shape = rw stored.kept.as_many a.shape;
        words = stored.small a.words;
        front = front_after stored ∙ a.front;
        spare = spare_after stored ∙ a.spare;
        padding = λ i l b. padding_after stored i l b ∙ a.padding i l b;
        header = rw stored.header a.header;
        tree = a.tree;
        holds = rw stored.header (map_kept a.tree a.holds);
        ordered = a.ordered;
        different = a.different;
        live = all_both (λ e z l. live_kept e.1 (pos_of_ne-zero z) l (ℕ_discrete e.1 j)) (list_of a.tree) a.different.nonzero a.live;
        free_nodes = a.free_nodes;
        node_chain = rw stored.header (chain_kept _ _ _ _ _ _ a.free_nodes (all_map (λ x k. ((λ f. rw (node_kept x k.0 k.1) f), ap (λ (y : Node). y.left.0) (node_kept x k.0 k.1))) a.free_nodes (chain_range _ _ _ _ a.free_nodes a.node_chain)) a.node_chain);
        node_count = rw stored.header a.node_count;
        free_values = a.free_values;
        value_chain = rw stored.header (chain_kept _ _ _ _ _ _ a.free_values (all_map (λ x k. free_kept x k.0 k.2) a.free_values (chain_range _ _ _ _ a.free_values a.value_chain)) a.value_chain);
        value_count = rw stored.header a.value_count;
        nodes_unused = rw stored.header (nodes_unused_after stored (omega arith) a.nodes_unused);
        values_unused = rw stored.header (values_unused_after stored (omega arith) a.values_unused);
      }
    where
      map_kept : (t : Map) → HoldsMap h ws t → HoldsMap h after t
      map_kept none k = k
      map_kept (some t) k =
          record {
            at_root = k.at_root;
            counted = k.counted;
            held = holds_kept h h ws after (omega arith) (omega arith) 0 0 t (λ x q. let r = in_range h ws 0 0 t x k.held q in node_kept x r.0 r.1) k.held;
          }

      live_kept : (x : ℕ) → 1 ≤ x → Live (value_record_of n ws x) → Dec (x ≡ j) → Live (value_record_of n after x)
      live_kept x l f (yes e) = rw (e, record_there) (live_record_lem leaf v)
      live_kept x l f (no d) = rw (record_kept x l d) f

      -- a free record is another one
      free_kept : (x : ℕ) → 1 ≤ x → FreeValue h x (value_record_of n ws x)
          → (FreeValue h x (value_record_of n ws x) → FreeValue h x (value_record_of n after x)) × ((value_record_of n after x).register0 ≡ (value_record_of n ws x).register0)
      free_kept x l f =
          let same : value_record_of n after x ≡ value_record_of n ws x =
          record_kept x l (λ e. live_not_free h x (value_record_of n ws x) (subst (λ y. Live (value_record_of n ws y)) (sym e) alive) f) in
          ((λ g. rw same g), ap (λ (r : ValueRecord). r.register0) same)

  -- its tree is the same
  pub value_tree : value_accepted.tree ≡ a.tree
  unfolding value_accepted
  value_tree = refl

  -- the list has the new value where the entries name record j
  pub value_listed : (key : Key) (es : List (Key × ℕ)) → Numbered es → find key es ≡ some j
      → valued n (set_value m n ws j (live_record leaf v)) es ≡ update key v (valued n ws es)
  unfolding live_record
  value_listed key [] u e = let z : ◌≡◌ {A = ℕ} 0 1 = cc in absurd (omega arith)
  value_listed key (x ∷ es) u e =
      go (same key x.0) e (value_listed key es (record { nonzero = u.nonzero.1; different = u.different.1 }))
    where
      go : (b : Bool) → cond b (some x.1) (find key es) ≡ some j → (find key es ≡ some j → valued n after es ≡ update key v (valued n ws es))
          → valued n after (x ∷ es) ≡ cond b ((x.0, v) ∷ valued n ws es) ((x.0, value_at_record n ws x.1) ∷ update key v (valued n ws es))
      go true q f =
          let here : x.1 ≡ j = cc in
          let there : (value_record_of n after x.1).value ≡ v = ap (λ (k : ℕ). (value_record_of n after k).value) here ∙ ap (λ (r : ValueRecord). r.value) record_there in
          let rest : valued n after es ≡ valued n ws es =
          valued_kept n ws after es (all_both (λ y z d. record_kept y.1 (pos_of_ne-zero z) (λ w. d (here ∙ sym w))) es u.nonzero.1 u.different.0) in
          λ ι. (x.0, there ι) ∷ rest ι
      go false q f =
          let off : x.1 ≢ j = find_all (λ w. x.1 ≢ w) key es j u.different.0 q in
          let here : value_record_of n after x.1 ≡ value_record_of n ws x.1 = record_kept x.1 (pos_of_ne-zero u.nonzero.0) off in
          λ ι. (x.0, (here ι).value) ∷ f q ι
