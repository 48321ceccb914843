-- What is left of the rules once the tree and the free nodes are known: an image after a remove is accepted, and its
-- list is the list without the key.
use Rattle.std.specs.Prelude.{◌≡◌, refl, ◌≢◌, Bool, true, false, cond, ℕ, suc, ◌+◌, ◌-◌, ◌%◌, ◌^◌, ◌≤◌, ◌<◌, length}
use Rattle.std.proofs.Math.Path.{sym, ap}
use Rattle.std.proofs.Common.{subst, ◌∙◌, arith, pos_of_ne-zero}
use mathlib.Core.List.{List, [], ◌∷◌}
use Rattle.std.proofs.Math.Option.{some}
use Rattle.keys.specs.declared.Key.{Key}
use Rattle.node_allocator.specs.declared.Arena.{Arena}
use Rattle.node_allocator.specs.declared.Counts.{Counts}
use Rattle.node_allocator.specs.declared.Register.TheVariants.{Left}
use Rattle.node_allocator.specs.Layout.{capacity_of}
use Rattle.node_allocator.specs.Steps.{remove_counts}
use Rattle.arena_laws.specs.Taken.{remove_is}
use Rattle.records.specs.declared.Header.{Header}
use Rattle.records.specs.declared.Node.{Node}
use Rattle.records.specs.declared.ValueRecord.{ValueRecord}
use Rattle.records.specs.Layout.{most_nodes}
use Rattle.records.specs.Records.{header_of, node_of, bare_node, value_record_of}
use Rattle.lists.specs.Lists.{All, Pairs, all_map, all_both}
use Rattle.lists.specs.Entries.{same, find, find_all, held, is_some, held_found, erase, length_erase}
use Rattle.trees.specs.Tree.{Tree, top, entries}
use Rattle.trees.specs.Map.{Map, list_of, remove_from, map_remove_ordered}
use Rattle.trees.proofs.Map.{map_remove}
use Rattle.trees.specs.Values.{Unlike, numbered_erase, all_erase}
use Rattle.record_views.specs.Nodes.{changed, changed_there, changed_other, with_register}
use Rattle.record_views.specs.Values.{with_link}
use Rattle.record_views.specs.Stored.{Stored, front_after, spare_after, padding_after}
use Rattle.accepted.specs.Rules.{ArenaRules, HeaderRules, Holds, Live, FreeNode, FreeValue, Chain, NodeChain, ValueChain}
use Rattle.accepted.specs.Accepted.{Accepted, HoldsMap, nodes_in, value_at_record}
use Rattle.accepted.specs.Held.{list_used}
use Rattle.accepted.specs.Frame.{chain_kept, chain_range, nodes_unused_after, values_unused_after}
use Rattle.accepted.specs.Apart.{live_not_free}
use Rattle.accepted_lookup.specs.Answers.{valued, listed, valued_kept, sized}

-- ---- an arena after a record is freed

-- record i, which was not free, goes to the front; every other record of the chain stays as it was
module _ (Free Free' : ℕ → Type 0) (next next' : ℕ → ℕ) (bump i : ℕ) where
  head_other : (head : ℕ) (xs : List ℕ) → Chain Free next bump head xs → i < bump → (Free i → ⊥) → head ≢ i
  unfolding Chain
  head_other head [] c u f e = omega (arith, c)
  head_other head (x ∷ xs) c u f e = f (subst Free (sym c.here ∙ e) c.free)

  pub chain_freed : (head : ℕ) (xs : List ℕ) → Chain Free next bump head xs → 1 ≤ i → i < bump → (Free i → ⊥) → (head ≢ i → Free' i) → next' i ≡ head
      → ((x : ℕ) → 1 ≤ x → x < bump → Free x → x ≢ i → Free' x × (next' x ≡ next x)) → Chain Free' next' bump i (i ∷ xs)
  unfolding Chain
  chain_freed head xs c l u f own e kept =
      record {
        here = refl;
        some = l;
        used = u;
        free = own (head_other head xs c u f);
        rest = rw e (chain_kept Free Free' next next' bump head xs (all_map (λ x k. one x k.0 k.1 k.2) xs (chain_range Free next bump head xs c)) c);
      }
    where
      one : (x : ℕ) → 1 ≤ x → x < bump → Free x → (Free x → Free' x) × (next' x ≡ next x)
      one x a b g = let k = kept x a b g (λ q. f (subst Free q g)) in ((λ z. k.0), k.1)

-- one record less, which is the head
pub counts_less : (a : Arena) (ws : List ℕ) (c : Counts) (i : ℕ) → c.bump ≤ capacity_of a + 1 → 1 ≤ i → i < c.bump → 1 ≤ c.size → c.size ≤ most_nodes
    → remove_counts a c i ≡ record { size = c.size - 1; bump = c.bump; head = i }
counts_less a ws c i fits l u least most =
    let less : (c.size + 18446744073709551615) % 2 ^ 64 ≡ c.size - 1 = omega arith in
    remove_is a ws i c (record { low = l; high = omega arith }) ∙ (λ ι. record { size = less ι; bump = c.bump; head = i })

pub arena_freed : (c : Counts) (limit i size : ℕ) → ArenaRules c limit → 1 ≤ i → i < c.bump → size < c.size → ArenaRules (record { size = size; bump = c.bump; head = i }) limit
arena_freed c limit i size r l u less =
    record {
      bump_some = r.bump_some;
      bump_most = r.bump_most;
      head_some = l;
      head_most = omega arith;
      size_most = omega (arith, r.size_most);
      chain_empty = ((λ e. absurd (omega arith)), λ e. absurd (omega (arith, r.size_most)));
    }

-- a free record is free under a header of the same bump
free_below : (h g : Header) → g.nodes.bump ≡ h.nodes.bump → (x : ℕ) (y : Node) → FreeNode h x y → FreeNode g x y
free_below h g e x y f =
    record {
      no_value = f.no_value;
      no_right = f.no_right;
      link = record { some = f.link.some; most = rw e f.link.most; other = f.link.other };
      parent_used = rw e f.parent_used;
      first_parent = f.first_parent;
      prefix_most = f.prefix_most;
    }

-- ---- the entries that are left

-- no entry that is left names the record of the one that is gone
others_left : (key : Key) (es : List (Key × ℕ)) (j : ℕ) → Pairs Unlike es → find key es ≡ some j → All (λ e. e.1 ≢ j) (erase key es)
others_left key [] j u e = tt
others_left key (x ∷ es) j u e = go (same key x.0) e (others_left key es j u.1)
  where
    go : (b : Bool) → cond b (some x.1) (find key es) ≡ some j → (find key es ≡ some j → All (λ e. e.1 ≢ j) (erase key es)) → All (λ e. e.1 ≢ j) (cond b es (x ∷ erase key es))
    go true q f = let here : x.1 ≡ j = cc in all_map (λ y d w. d (here ∙ sym w)) es u.0
    go false q f = (find_all (λ w. x.1 ≢ w) key es j u.0 q, f q)

-- the list of keys and values without the key
erase_valued : (n : ℕ) (ws : List ℕ) (key : Key) (es : List (Key × ℕ)) → erase key (valued n ws es) ≡ valued n ws (erase key es)
erase_valued n ws key [] = refl
erase_valued n ws key (e ∷ es) = go (same key e.0) (erase_valued n ws key es)
  where
    go : (b : Bool) → erase key (valued n ws es) ≡ valued n ws (erase key es)
        → cond b (valued n ws es) ((e.0, value_at_record n ws e.1) ∷ erase key (valued n ws es)) ≡ valued n ws (cond b es (e ∷ erase key es))
    go true r = refl
    go false r = ap (λ l. (e.0, value_at_record n ws e.1) ∷ l) r

-- one entry less
pub erase_length : (key : Key) (es : List (Key × ℕ)) (j : ℕ) → find key es ≡ some j → length es ≡ suc (length (erase key es))
erase_length key es j e =
    let here : held key es ≡ true = held_found key es ∙ ap is_some e in
    length_erase key es ∙ rw here

-- ---- the tree that is there

module _ {m n : ℕ} {ws : List ℕ} (a : Accepted m n ws) {t : Tree} (is : a.tree ≡ some t) where
  holds_tree : HoldsMap (header_of n ws) ws (some t)
  holds_tree = subst (λ (u : Map). HoldsMap (header_of n ws) ws u) is a.holds

  pub held_tree : Holds (header_of n ws) ws 0 0 t
  unfolding HoldsMap
  held_tree = holds_tree.held

  pub at_root : top t ≡ (header_of n ws).root.0
  unfolding HoldsMap
  at_root = holds_tree.at_root

  pub counted : nodes_in t ≡ (header_of n ws).nodes.size
  unfolding HoldsMap
  counted = holds_tree.counted

  pub size_is : (header_of n ws).values.size ≡ length (entries t)
  size_is = sized a (some t) holds_tree

-- ---- the free nodes once leaf i is freed

module _ {m n : ℕ} {ws : List ℕ} (a : Accepted m n ws) (g : Header) (vs : List ℕ) (i : ℕ) (x : Node) where
  pub leaf_chain : g.nodes.bump ≡ (header_of n ws).nodes.bump → 1 ≤ i → i < (header_of n ws).nodes.bump → (FreeNode (header_of n ws) i (node_of ws i) → ⊥) → x.prefix ≤ 128
      → node_of vs i ≡ with_register Left (header_of n ws).nodes.head (bare_node 0 x)
      → ((y : ℕ) → 1 ≤ y → y < (header_of n ws).nodes.bump → FreeNode (header_of n ws) y (node_of ws y) → y ≢ i → node_of vs y ≡ node_of ws y)
      → Chain (λ y. FreeNode g y (node_of vs y)) (λ y. (node_of vs y).left.0) (header_of n ws).nodes.bump i (i ∷ a.free_nodes)
  leaf_chain e l u f short here kept =
      chain_freed _ _ _ _ (header_of n ws).nodes.bump i (header_of n ws).nodes.head a.free_nodes a.node_chain l u f
      (λ d. rw here (record {
        no_value = refl;
        no_right = refl;
        link = record { some = a.header.nodes.head_some; most = rw e a.header.nodes.head_most; other = d };
        parent_used = omega arith;
        first_parent = λ q. refl;
        prefix_most = short;
      }))
      (ap (λ (w : Node). w.left.0) here)
      (λ y a b k d. let same = kept y a b k d in (rw same (free_below (header_of n ws) g e y (node_of ws y) k), ap (λ (w : Node). w.left.0) same))

-- ---- an image after a remove

-- the key's entry named value record j, which is freed; the header keeps its rules, and the tree without the key and
-- the free nodes are there
pub record Removed {m n : ℕ} {ws : List ℕ} (a : Accepted m n ws) (key : Key) (j : ℕ) (vs : List ℕ) : Type 0 where
  pub found : find key (list_of a.tree) ≡ some j
  pub change : ℕ → Node → Node
  pub top : Header → Header
  pub stored : Stored m n (header_of n ws).nodes.bump (header_of n ws).values.bump ws vs change (changed j (with_link (header_of n ws).values.head)) top
  pub rules : HeaderRules m n (header_of n vs)
  pub node_bump : (header_of n vs).nodes.bump ≡ (header_of n ws).nodes.bump
  pub value_counts : (header_of n vs).values ≡ record { size = (header_of n ws).values.size - 1; bump = (header_of n ws).values.bump; head = j }
  pub holds : HoldsMap (header_of n vs) vs (remove_from key a.tree)
  pub free_nodes : List ℕ
  pub node_chain : NodeChain (header_of n vs) vs free_nodes
  pub node_count : length free_nodes ≡ (header_of n vs).nodes.bump - 1 - (header_of n vs).nodes.size

module _ {m n : ℕ} {ws : List ℕ} {a : Accepted m n ws} {key : Key} {j : ℕ} {vs : List ℕ} (r : Removed a key j vs) where
  abbrev h : Header
  h = header_of n ws

  abbrev g : Header
  g = header_of n vs

  abbrev left : List (Key × ℕ)
  left = erase key (list_of a.tree)

  range : (1 ≤ j) × (j < h.values.bump)
  range = find_all (λ v. (1 ≤ v) × (v < h.values.bump)) key (list_of a.tree) j (list_used h ws a.tree a.holds) r.found

  same_bump : g.values.bump ≡ h.values.bump
  same_bump = ap (λ (x : Counts). x.bump) r.value_counts

  record_kept : (y : ℕ) → 1 ≤ y → y ≢ j → value_record_of n vs y ≡ value_record_of n ws y
  record_kept y l d = r.stored.value y l ∙ changed_other j (with_link h.values.head) y (value_record_of n ws y) d

  record_freed : value_record_of n vs j ≡ with_link h.values.head (value_record_of n ws j)
  record_freed = r.stored.value j range.0 ∙ changed_there j (with_link h.values.head) (value_record_of n ws j)

  alive : Live (value_record_of n ws j)
  alive = find_all (λ v. Live (value_record_of n ws v)) key (list_of a.tree) j a.live r.found

  -- the records of the entries that are left
  entries_kept : All (λ e. value_record_of n vs e.1 ≡ value_record_of n ws e.1) left
  entries_kept =
      all_both (λ e z d. record_kept e.1 (pos_of_ne-zero z) d) left (numbered_erase key (list_of a.tree) a.different).nonzero
      (others_left key (list_of a.tree) j a.different.different r.found)

  list_left : list_of (remove_from key a.tree) ≡ left
  list_left = map_remove key a.tree a.ordered

  -- a free value record is free under the new header
  still_free : (x : ℕ) (y : ValueRecord) → FreeValue h x y → FreeValue g x y
  still_free x y f =
      record {
        link = record { some = f.link.some; most = rw same_bump f.link.most; other = f.link.other };
        zero1 = f.zero1;
        zero2 = f.zero2;
        zero3 = f.zero3;
      }

  chain_left : ValueChain n g vs (j ∷ a.free_values)
  chain_left =
      subst (λ (x : Counts). Chain (λ y. FreeValue g y (value_record_of n vs y)) (λ y. (value_record_of n vs y).register0) x.bump x.head (j ∷ a.free_values)) (sym r.value_counts)
      (chain_freed _ _ _ _ h.values.bump j h.values.head a.free_values a.value_chain range.0 range.1 (live_not_free h j (value_record_of n ws j) alive)
      (λ d. rw record_freed (record {
        link = record { some = a.header.values.head_some; most = rw same_bump a.header.values.head_most; other = d };
        zero1 = alive.zero1;
        zero2 = alive.zero2;
        zero3 = alive.zero3;
      }))
      (ap (λ (x : ValueRecord). x.register0) record_freed)
      (λ y l u f d. let same = record_kept y l d in (rw same (still_free y (value_record_of n ws y) f), ap (λ (x : ValueRecord). x.register0) same)))

  pub removed_accepted : Accepted m n vs
  removed_accepted =
      record {
        shape = rw r.stored.kept.as_many a.shape;
        words = r.stored.small a.words;
        front = front_after r.stored ∙ a.front;
        spare = spare_after r.stored ∙ a.spare;
        padding = λ i low high. padding_after r.stored i low high ∙ a.padding i low high;
        header = r.rules;
        tree = remove_from key a.tree;
        holds = r.holds;
        ordered = map_remove_ordered key a.tree a.ordered;
        different = rw list_left (numbered_erase key (list_of a.tree) a.different);
        live = rw list_left (all_both (λ e k l. rw k l) left entries_kept (all_erase _ key (list_of a.tree) a.live));
        free_nodes = r.free_nodes;
        node_chain = r.node_chain;
        node_count = r.node_count;
        free_values = j ∷ a.free_values;
        value_chain = chain_left;
        value_count = rw r.value_counts
            (omega (arith, a.value_count, sized a a.tree a.holds, erase_length key (list_of a.tree) j r.found, a.header.values.size_most));
        nodes_unused = rw r.node_bump (nodes_unused_after r.stored (omega arith) a.nodes_unused);
        values_unused = rw same_bump (values_unused_after r.stored (omega arith) a.values_unused);
      }

  -- its list is the list without the key
  pub removed_listed : listed removed_accepted ≡ erase key (listed a)
  unfolding removed_accepted
  removed_listed = ap (valued n vs) list_left ∙ valued_kept n ws vs left entries_kept ∙ sym (erase_valued n ws key (list_of a.tree))
