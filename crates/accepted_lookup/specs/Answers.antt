-- On an accepted image get, contains, get_addr, smallest, largest, length and capacity answer as its ascending list of keys and values does, refusals included. Refusal 2 does not arise.
use Rattle.std.specs.Prelude.{◌≡◌, List, [], ◌∷◌, map, ◌≢◌, Bool, true, false, length, Err, Ok, Result, Some}
use Rattle.std.proofs.Math.Path.{refl, sym, ap}
use Rattle.std.proofs.Common.{◌∙◌, arith, length-append, ne_eqb, eq-eqb}
use Rattle.std.proofs.Math.Option
use Rattle.std.proofs.Math.Option.{Option, none, some}
use Prim.Native.Nat.{ℕ, ◌+◌, ◌*◌, ◌≤◌}
use Rattle.std.proofs.Math.ListN.{length-map}
use Rattle.records.specs.declared.Refusal.{Refusal}
use Rattle.keys.specs.declared.Key.{Key}
use Rattle.records.specs.declared.Header.{Header}
use Rattle.records.specs.declared.NodeIndex.{NodeIndex}
use Rattle.records.specs.declared.Node.{Node}
use Rattle.records.specs.declared.Value.{Value}
use Rattle.records.specs.declared.Refusal.TheVariants as no
use Rattle.records.specs.Records.{header_of, node_of, value_record_of}
use Rattle.descent.specs.Found.{stop_leaf}
use Rattle.inspection.specs.Visit.{live_of}
use Rattle.descent.specs.declared.Stop.{Stop}
use Rattle.descent.specs.declared.Stop.TheVariants as stop
use Rattle.descent.specs.Descent.{Turn, lookup_turn, end_turn, descend, from_root, find_of}
use Rattle.lookup.specs.Start.{length_of, opened_length, capacity_reply, opened_capacity}
use Rattle.lookup.specs.Get.{live_target, stop_target, opened_target, target_of, target_got, get_of, stop_done, opened_done, contains_of, stop_place, opened_place, addr_of, leaf_place, leaf_done, leaf_target}
use Rattle.lookup.specs.Ends.{target_entry, opened_entry, end_entry}
use Rattle.lists.specs.Lists.{All, pairs_mapped}
use Rattle.lists.specs.Entries.{list_end, Before, Rising, find, held, is_some, held_found, find_all, find_map}
use Rattle.lists.specs.Answers.{got_from, done_from, entry_from}
use Rattle.trees.specs.Ends.{all_end}
use Rattle.trees.specs.Tree.{Tree, leaf, inner, top, entries, Ordered}
use Rattle.trees.specs.Lookup.{lookup, value_of, outermost, outermost_entry}
use Rattle.trees.specs.Map.{Map, list_of, lookup_in, OrderedMap}
use Rattle.trees.proofs.Map.{map_lookup}
use Rattle.trees.specs.Paths.{depth}
use Rattle.trees.proofs.Paths.{depth_bound}
use Rattle.trees.specs.Changes.{target}
use Rattle.accepted.specs.Rules.{Holds, Live}
use Rattle.accepted.specs.Accepted.{Accepted, HoldsMap, nodes_in, value_at_record}
use Rattle.accepted.specs.Tests.{live_passes}
use Rattle.accepted.specs.Held.{root_passes, accepted_clean}
use Rattle.accepted.proofs.Opens.{accepted_opens}
use Rattle.accepted_lookup.specs.Descents.{at, found_value, stop_from, landed, outermost_landed, landed_node, Sided, end_sided, find_held, sides_held}

-- ---- the ascending list of keys and values

-- each key with the value that its record holds
abbrev pub valued : ℕ → List ℕ → List (Key × ℕ) → List (Key × Value)
valued n ws es = map (λ e. (e.0, value_at_record n ws e.1)) es

abbrev pub listed : {m n : ℕ} {ws : List ℕ} → Accepted m n ws → List (Key × Value)
listed {m} {n} {ws} a = valued n ws (list_of a.tree)

-- the value of a key's record
pub find_valued : (n : ℕ) (ws : List ℕ) (key : Key) (es : List (Key × ℕ)) → find key (valued n ws es) ≡ Option.map (value_at_record n ws) (find key es)
find_valued n ws key es = find_map key (value_at_record n ws) es

-- the list holds the keys of its entries
pub held_valued : (n : ℕ) (ws : List ℕ) (key : Key) (es : List (Key × ℕ)) → held key (valued n ws es) ≡ is_some (find key es)
held_valued n ws key es = held_found key (valued n ws es) ∙ ap is_some (find_valued n ws key es) ∙ go (find key es)
  where
    go : (r : Option ℕ) → is_some (Option.map (value_at_record n ws) r) ≡ is_some r
    go none = refl
    go (some j) = refl

-- and rises as they do
pub valued_rising : (n : ℕ) (ws : List ℕ) (es : List (Key × ℕ)) → Rising es → Rising (valued n ws es)
valued_rising n ws es h = pairs_mapped Before (λ e. (e.0, value_at_record n ws e.1)) es h

-- where the entries' records stay, the list does
pub valued_kept : (n : ℕ) (ws vs : List ℕ) (es : List (Key × ℕ)) → All (λ e. value_record_of n vs e.1 ≡ value_record_of n ws e.1) es → valued n vs es ≡ valued n ws es
valued_kept n ws vs [] h = refl
valued_kept n ws vs (e ∷ es) h =
    let rest : valued n vs es ≡ valued n ws es = valued_kept n ws vs es h.1 in
    λ ι. (e.0, (h.0 ι).value) ∷ rest ι

end_valued : (n : ℕ) (ws : List ℕ) (b : Bool) (es : List (Key × ℕ)) → list_end b (valued n ws es) ≡ Option.map (λ e. (e.0, value_at_record n ws e.1)) (list_end b es)
end_valued n ws b [] = refl
end_valued n ws false (e ∷ es) = refl
end_valued n ws true (e ∷ []) = refl
end_valued n ws true (e ∷ f ∷ es) = end_valued n ws true (f ∷ es)

-- a tree of so many leaves has one node less than twice as many
pub nodes_entries : (t : Tree) → nodes_in t + 1 ≡ 2 * length (entries t)
unfolding nodes_in
nodes_entries (leaf i key v) = refl
nodes_entries (inner i key p l r) = rw length-append (omega (arith, nodes_entries l, nodes_entries r))

-- ---- the answer of a leaf's node

abbrev pub place_from : Option (ℕ × ℕ) → Result NodeIndex Refusal
place_from none = Err no.Absent
place_from (some e) = Ok (record { 0 = e.0 })

-- ---- the descents from the root

module _ {m n : ℕ} {ws : List ℕ} (a : Accepted m n ws) where
  abbrev header : Header
  header = header_of n ws

  -- a map with a tree is not empty
  pub size_some : (t : Tree) → HoldsMap (header_of n ws) ws (some t) → (header_of n ws).values.size ≢ 0
  unfolding HoldsMap nodes_in
  size_some t k z = go t k.counted
    where
      go : (u : Tree) → nodes_in u ≡ (header_of n ws).nodes.size → ⊥
      go (leaf i key v) e = omega (arith, a.header.node_size)
      go (inner i key p l r) e = omega (arith, a.header.node_size)

  held_of : (t : Tree) → HoldsMap (header_of n ws) ws (some t) → Holds (header_of n ws) ws 0 0 t
  unfolding HoldsMap
  held_of t k = k.held

  -- any descent from the root is the descent at the tree's top, by the root's rule
  pub from_root_lem : (turn : NodeIndex → Node → Turn) (t : Tree) → HoldsMap (header_of n ws) ws (some t)
      → from_root turn (header_of n ws) ws ≡ descend turn 129 (header_of n ws) ws (at (top t)) (at 0) 0
  unfolding from_root HoldsMap
  from_root_lem turn t k =
      let root : (header_of n ws).root ≡ at (top t) = λ ι. record { 0 = sym k.at_root ι } in
      rw (ne_eqb (header_of n ws).values.size 0 (size_some t k), root_passes m n (header_of n ws) ws t a.header k.at_root k.counted k.held, root)

  from_none : (turn : NodeIndex → Node → Turn) → HoldsMap (header_of n ws) ws none → from_root turn (header_of n ws) ws ≡ stop.Empty
  unfolding from_root HoldsMap
  from_none turn z = rw (eq-eqb (header_of n ws).values.size 0 z)

  short : (t : Tree) → Ordered t → depth t ≤ 129
  short t o = omega (arith, depth_bound t o)

  -- where lookup stops in the map
  abbrev pub stop_in : Key → Map → Stop
  stop_in key none = stop.Empty
  stop_in key (some t) = stop_from ws key (target key t) (lookup key t)

  pub find_tree : (key : Key) (t : Map) → HoldsMap (header_of n ws) ws t → OrderedMap t → find_of (header_of n ws) ws key ≡ stop_in key t
  find_tree key none k o = from_none (lookup_turn key) k
  find_tree key (some t) k o =
      from_root_lem (lookup_turn key) t k ∙ find_held (header_of n ws) ws (accepted_clean a) key 129 0 0 t (short t o) (held_of t k)

  -- what is made of a lookup's stop: at its leaf, or where the key is absent
  pub at_stop : {B : Type 0} (key : Key) (F : Stop → B) (G : Option (ℕ × ℕ) → B) → F stop.Empty ≡ G none
      → ((i : NodeIndex) (x : Node) (shared : ℕ) → F (stop.Parted i x shared) ≡ G none)
      → ((e : ℕ × ℕ) → lookup_in key a.tree ≡ some e → F (stop.Leaf (at e.0) (node_of ws e.0)) ≡ G (some e))
      → F (find_of (header_of n ws) ws key) ≡ G (lookup_in key a.tree)
  unfolding stop_from
  at_stop key F G empty parted leaf_at = rw (find_tree key a.tree a.holds a.ordered) (in_map a.tree leaf_at)
    where
      in_map : (t : Map) → ((e : ℕ × ℕ) → lookup_in key t ≡ some e → F (stop.Leaf (at e.0) (node_of ws e.0)) ≡ G (some e)) → F (stop_in key t) ≡ G (lookup_in key t)
      in_map none f = empty
      in_map (some t) f = go (lookup key t) refl
        where
          go : (r : Option (ℕ × ℕ)) → lookup key t ≡ r → F (stop_from ws key (target key t) r) ≡ G r
          go none q = parted (at (top (target key t))) (node_of ws (top (target key t))) _
          go (some e) q = f e q

  -- where a descent by sides stops
  abbrev pub landed_in : (ℕ → Bool) → Map → Stop
  landed_in side none = stop.Empty
  landed_in side (some t) = stop.Leaf (at (landed side t).1.0) (node_of ws (landed side t).1.0)

  pub sides_tree : (turn : NodeIndex → Node → Turn) (side : ℕ → Bool) → Sided side turn → (t : Map) → HoldsMap (header_of n ws) ws t → OrderedMap t
      → from_root turn (header_of n ws) ws ≡ landed_in side t
  sides_tree turn side s none k o = from_none turn k
  sides_tree turn side s (some t) k o =
      from_root_lem turn t k ∙ sides_held (header_of n ws) ws (accepted_clean a) turn side s 129 0 0 t (short t o) (held_of t k)

  -- ---- get and the value write's target

  -- the target of a key is its leaf and its value, or it is absent
  abbrev pub target_from : Option (ℕ × ℕ) → Result (NodeIndex × Node × Value) Refusal
  target_from none = Err no.Absent
  target_from (some e) = Ok ((at e.0), (node_of ws e.0), (value_at_record n ws e.1))

  pub value_found : (key : Key) → value_of (lookup_in key a.tree) ≡ find key (list_of a.tree)
  value_found key = (map_lookup key a.tree a.ordered).0

  -- the list holds a key exactly if it has a leaf
  pub held_listed : (key : Key) → held key (listed a) ≡ is_some (value_of (lookup_in key a.tree))
  held_listed key = held_valued n ws key (list_of a.tree) ∙ ap is_some (sym (value_found key))

  alive : (key : Key) (e : ℕ × ℕ) → lookup_in key a.tree ≡ some e → Live (value_record_of n ws e.1)
  alive key e q = find_all (λ v. Live (value_record_of n ws v)) key (list_of a.tree) e.1 a.live (sym (value_found key) ∙ ap value_of q)

  -- the node of a key's leaf names its value record
  pub target_value : (key : Key) (e : ℕ × ℕ) → lookup_in key a.tree ≡ some e → (node_of ws e.0).value.0 ≡ e.1
  target_value key e q = in_map a.tree a.holds q
    where
      in_map : (t : Map) → HoldsMap (header_of n ws) ws t → lookup_in key t ≡ some e → (node_of ws e.0).value.0 ≡ e.1
      in_map none k q = let z : ◌≡◌ {A = ℕ} 0 1 = cc in absurd (omega arith)
      in_map (some t) k q = found_value (header_of n ws) ws key 0 0 t (held_of t k) e q

  -- a live value record holds its value
  live_held : (i j : ℕ) → Live (value_record_of n ws j) → live_of n ws i j ≡ Some (value_at_record n ws j)
  unfolding live_of
  live_held i j l = rw (live_passes n ws i j l)

  pub target_agrees : (key : Key) → target_of m n ws key ≡ target_from (lookup_in key a.tree)
  unfolding target_of opened_target leaf_target stop_leaf live_target
  target_agrees key =
      rw (accepted_opens a)
      (at_stop key (stop_target n ws) target_from refl (λ i x s. refl) (λ e q. rw (target_value key e q, live_held e.0 e.1 (alive key e q))))

  pub get_agrees : (key : Key) → get_of m n ws key ≡ got_from (find key (listed a))
  unfolding get_of target_got
  get_agrees key =
      ap target_got (target_agrees key)
      ∙ go (lookup_in key a.tree)
      ∙ ap got_from (ap (Option.map (value_at_record n ws)) (value_found key) ∙ sym (find_valued n ws key (list_of a.tree)))
    where
      go : (r : Option (ℕ × ℕ)) → target_got (target_from r) ≡ got_from (Option.map (value_at_record n ws) (value_of r))
      go none = refl
      go (some e) = refl

  -- ---- contains and get_addr

  pub contains_agrees : (key : Key) → contains_of m n ws key ≡ done_from (held key (listed a))
  unfolding contains_of opened_done leaf_done stop_leaf
  contains_agrees key =
      rw (accepted_opens a) (at_stop key stop_done (λ r. done_from (is_some (value_of r))) refl (λ i x s. refl) (λ e q. refl)) ∙ ap done_from (sym (held_listed key))

  -- the node index of a held key is its leaf's
  pub addr_agrees : (key : Key) → addr_of m n ws key ≡ place_from (lookup_in key a.tree)
  unfolding addr_of opened_place leaf_place stop_leaf
  addr_agrees key = rw (accepted_opens a) (at_stop key stop_place place_from refl (λ i x s. refl) (λ e q. refl))

  -- ---- smallest and largest

  end_all : (P : ℕ → Type 0) (b : Bool) (t : Tree) → All (λ e. P e.1) (entries t) → P (outermost b t).1.1
  end_all P b t l = all_end (λ e. P e.1) b (entries t) l (outermost_entry b t)

  end_stop : (right : Bool) (t : Map) → HoldsMap (header_of n ws) ws t → OrderedMap t → All (λ e. Live (value_record_of n ws e.1)) (list_of t)
      → target_entry (stop_target n ws (landed_in (λ p. right) t)) ≡ entry_from (Option.map (λ e. (e.0, value_at_record n ws e.1)) (list_end right (list_of t)))
  unfolding target_entry leaf_target stop_leaf live_target
  end_stop right none k o l = refl
  end_stop right (some t) k o l =
      let e = rw (outermost_landed right t) at (landed_node (header_of n ws) ws (λ p. right) 0 0 t (held_of t k)) in
      rw (
        outermost_landed right t,
        e.1,
        live_held (outermost right t).1.0 (outermost right t).1.1 (end_all (λ v. Live (value_record_of n ws v)) right t l),
        outermost_entry right t,
      )

  pub end_agrees : (right : Bool) → end_entry m n ws right ≡ entry_from (list_end right (listed a))
  unfolding end_entry opened_entry
  end_agrees right =
      rw (accepted_opens a, sides_tree (end_turn right) (λ p. right) (end_sided right) a.tree a.holds a.ordered)
      (end_stop right a.tree a.holds a.ordered a.live) ∙ ap entry_from (sym (end_valued n ws right (list_of a.tree)))

  -- ---- length and capacity

  -- n is the list's length
  pub sized : (t : Map) → HoldsMap (header_of n ws) ws t → (header_of n ws).values.size ≡ length (list_of t)
  unfolding HoldsMap
  sized none k = k
  sized (some t) k = omega (arith, nodes_entries t, k.counted, a.header.node_size)

  pub length_agrees : length_of m n ws ≡ Ok (length (listed a))
  unfolding length_of opened_length
  length_agrees = rw (accepted_opens a, sized a.tree a.holds, length-map {B = Key × Value} (list_of a.tree) (λ e. (e.0, value_at_record n ws e.1)))

  pub capacity_agrees : capacity_reply m n ws ≡ Ok m
  unfolding capacity_reply opened_capacity
  capacity_agrees = rw (accepted_opens a)
