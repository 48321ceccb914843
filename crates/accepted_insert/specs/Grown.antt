-- The rules of the image after an insert, put together: the padding and the unused words by what the stores keep, the
-- chains by the arenas that are left,
-- the header by its counts, and the tree as it is found.
use Rattle.std.specs.Prelude.{◌≡◌, List, ℕ, ◌-◌, ◌*◌, ◌≤◌}
use Rattle.std.proofs.Math.Path.{refl}
use Rattle.std.proofs.Common.{ap, ◌∙◌, arith}
use Rattle.std.proofs.Math.Option.{some}
use Rattle.node_allocator.specs.declared.Counts.{Counts}
use Rattle.records.specs.declared.Header.{Header}
use Rattle.records.specs.declared.Node.{Node}
use Rattle.records.specs.declared.ValueRecord.{ValueRecord}
use Rattle.records.specs.Records.{header_of, node_of, value_record_of}
use Rattle.lists.specs.Lists.{All, all_map}
use Rattle.trees.specs.Tree.{Tree, entries, Ordered}
use Rattle.trees.specs.Values.{Numbered}
use Rattle.record_views.specs.Stored.{Stored, front_after, spare_after, padding_after}
use Rattle.accepted.specs.Rules.{HeaderRules, Live, Link, FreeNode, FreeValue}
use Rattle.accepted.specs.Accepted.{Accepted, HoldsMap}
use Rattle.accepted.specs.Frame.{chain_kept, nodes_unused_after, values_unused_after}
use Rattle.accepted_insert.specs.Arenas.{Part, FreeNodeOf, next_node_of, FreeValueOf, next_value_of}

-- what is free below a bump is free below a higher one
link_higher : {bump higher i next : ℕ} → bump ≤ higher → Link bump i next → Link higher i next
link_higher l k = record { some = k.some; most = omega (arith, k.most); other = k.other }

free_node_higher : (h g : Header) (i : ℕ) (x : Node) → h.nodes.bump ≤ g.nodes.bump → FreeNode h i x → FreeNode g i x
free_node_higher h g i x l f =
    record {
      no_value = f.no_value;
      no_right = f.no_right;
      link = link_higher l f.link;
      parent_used = omega (arith, f.parent_used);
      first_parent = f.first_parent;
      prefix_most = f.prefix_most;
    }

free_value_higher : (h g : Header) (j : ℕ) (r : ValueRecord) → h.values.bump ≤ g.values.bump → FreeValue h j r
    → FreeValue g j r
free_value_higher h g j r l f =
    record { link = link_higher l f.link; zero1 = f.zero1; zero2 = f.zero2; zero3 = f.zero3 }

-- the header of a map that is not empty
abbrev pub topped : Counts → Counts → Header
topped nodes values = record { root = record { 0 = 1 }; nodes = nodes; values = values }

module _ {m n : ℕ} {ws vs xs ys : List ℕ} {c d : Counts} {f : ℕ → Node → Node} {g : ℕ → ValueRecord → ValueRecord}
    {top : Header → Header} (a : Accepted m n ws)
    (s : Stored m n c.bump d.bump ws vs f g top) (header : header_of n vs ≡ topped c d)
    (nodes : Part c n (FreeNodeOf n ws) (next_node_of ws) xs) (nodes_same : All (λ y. node_of vs y ≡ node_of ws y) xs)
    (more : (header_of n ws).nodes.bump ≤ c.bump)
    (values : Part d m (FreeValueOf n ws) (next_value_of n ws) ys)
    (values_same : All (λ y. value_record_of n vs y ≡ value_record_of n ws y) ys)
    (more_values : (header_of n ws).values.bump ≤ d.bump)
    (some_size : 1 ≤ d.size) (size_most : d.size ≤ m) (node_size : c.size ≡ 2 * d.size - 1) (t : Tree)
    (held : HoldsMap (topped c d) vs (some t)) (ordered : Ordered t)
    (different : Numbered (entries t)) (live : All (λ e. Live (value_record_of n vs e.1)) (entries t)) where
  rules : HeaderRules m n (topped c d)
  rules =
      record {
        size_most = size_most;
        node_size = node_size;
        root_none = λ e. absurd (omega arith);
        root_one = λ e. refl;
        empty_head = λ e. absurd (omega arith);
        nodes = nodes.rules;
        values = values.rules;
      }

  nodes_free : All (λ y. (FreeNodeOf n ws y → FreeNode (topped c d) y (node_of vs y)) × (next_node_of vs y ≡ next_node_of ws y)) xs
  nodes_free =
      all_map (λ y q. (
        λ z. free_node_higher (header_of n ws) (topped c d) y (node_of vs y) more (rw q z),
        ap (λ (x : Node). x.left.0) q,
      )) xs nodes_same

  values_free : All (λ y. (FreeValueOf n ws y → FreeValue (topped c d) y (value_record_of n vs y)) × (next_value_of n vs y ≡ next_value_of n ws y)) ys
  values_free =
      all_map (λ y q. (
        λ z. free_value_higher (header_of n ws) (topped c d) y (value_record_of n vs y) more_values (rw q z),
        ap (λ (r : ValueRecord). r.register0) q,
      )) ys values_same

  pub assembled : Accepted m n vs
  assembled =
      record {
        shape = rw s.kept.as_many a.shape;
        words = s.small a.words;
        front = front_after s ∙ a.front;
        spare = spare_after s ∙ a.spare;
        padding = λ i l b. padding_after s i l b ∙ a.padding i l b;
        header = rw header rules;
        tree = some t;
        holds = rw header held;
        ordered = ordered;
        different = different;
        live = live;
        free_nodes = xs;
        node_chain = rw header (chain_kept (FreeNodeOf n ws) _ (next_node_of ws) _ _ _ xs nodes_free nodes.chain);
        node_count = rw header nodes.count;
        free_values = ys;
        value_chain = rw header (chain_kept (FreeValueOf n ws) _ (next_value_of n ws) _ _ _ ys values_free values.chain);
        value_count = rw header values.count;
        nodes_unused = rw header (nodes_unused_after s more a.nodes_unused);
        values_unused = rw header (values_unused_after s more_values a.values_unused);
      }

  pub assembled_tree : assembled.tree ≡ some t
  unfolding assembled
  assembled_tree = refl
