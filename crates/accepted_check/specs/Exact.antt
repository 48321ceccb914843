-- The full check is exact (rule T15): its answer is Yes exactly if the image keeps the rules; an image of the right shape that
-- does not keep them is refused as damaged.
use Rattle.std.specs.Prelude.{◌≡◌, List, ◌≢◌, ◌↔◌, Option, Some, None, Bool, true, cond, ◌&&◌, ℕ, ◌+◌, ◌-◌, ◌*◌, ◌≤◌, length, eqb, Err, Ok}
use Rattle.std.proofs.Math.Path.{refl}
use Rattle.std.proofs.Common.{sym, ap, ◌∙◌, arith, eqb-true, eq-eqb, ne_eqb, le-leb}
use Rattle.std.proofs.Math.Bool.{false}
use Rattle.std.proofs.lemmas.Bool.{false≢true}
use Rattle.std.specs.Option.{is_some}
use Rattle.std.proofs.Math.Option.{none, some}
use Rattle.std.proofs.Math.Nat.{pos_of_ne-zero}
use Rattle.std.proofs.lemmas.List.{length-replicate}
use Rattle.words.specs.Tests.{and_l, and_r}
use Rattle.words.specs.Zeros.{Zeros, zeros_exact}
use Rattle.node_allocator.specs.Layout.{node_at, value_at}
use Rattle.records.specs.declared.Header.{Header}
use Rattle.records.specs.declared.Refusal.TheVariants as no
use Rattle.records.specs.Records.{header_of, front_of, spare_of, node_of, padding_of}
use Rattle.records.specs.Numbers.{zero_key, refusal_number, answer_number}
use Rattle.inspection.specs.Tests.{shape_ok, top_ok, root_ok}
use Rattle.inspection.specs.Opening.{open_of, open_shaped}
use Rattle.inspection.specs.Room.{shaped}
use Rattle.full_check.specs.Walk.{Walk, walk_of}
use Rattle.full_check.specs.Chains.{nodes_unused, values_unused}
use Rattle.full_check.specs.Check.{unmarked, root_walk, all_reached, tree_ok, records_ok, opened_check, check_shape, check_of}
use Rattle.full_check.specs.Promises.{numbers}
use Rattle.lists.specs.Lists.{all_map}
use Rattle.trees.specs.Tree.{top, entries}
use Rattle.trees.proofs.Paths.{depth_bound}
use Rattle.trees.specs.Map.{Map, list_of, OrderedMap}
use Rattle.trees.specs.Values.{Numbered}
use Rattle.record_views.specs.Small.{Small}
use Rattle.accepted.specs.Rules.{HeaderRules}
use Rattle.accepted.specs.Accepted.{Accepted, HoldsMap, nodes_in}
use Rattle.accepted.specs.Tests.{shape_passes, header_rules, free_node_clean}
use Rattle.accepted.specs.Held.{Clean, accepted_clean, root_passes, some_nodes, entries_used}
use Rattle.accepted.proofs.Opens.{accepted_opens}
use Rattle.accepted_check.specs.Marks.{Fresh, Placed, fresh_different, different_fresh}
use Rattle.accepted_check.specs.Chains.{node_chain_found, node_chain_passes, value_chain_found, value_chain_passes}
use Rattle.accepted_check.specs.Passes.{ends, LiveAll, walk_passes}
use Rattle.accepted_check.specs.Reached.{Reached, walk_reaches}
use Rattle.accepted_check.specs.Places.{InMap, padding_zero}

-- ---- the tree

reached_all : (rest : Option ℕ) → all_reached rest ≡ true → rest ≡ Some 0
reached_all None e = absurd (false≢true e)
reached_all (Some k) e = ap Some (eqb-true k 0 e)

-- the rules on the tree
pub record TreeRules (n : ℕ) (h : Header) (ws : List ℕ) : Type 0 where
  pub tree : Map
  pub holds : HoldsMap h ws tree
  pub clean : (x : ℕ) → InMap x tree → padding_of ws x ≡ 0
  pub ordered : OrderedMap tree
  pub different : Numbered (list_of tree)
  pub live : LiveAll n ws (list_of tree)

module _ (m n : ℕ) (h : Header) (ws : List ℕ) (rules : HeaderRules m n h) where
  pub tree_rules : Small ws → tree_ok n h ws (unmarked m) ≡ true → TreeRules n h ws
  unfolding tree_ok root_walk HoldsMap
  tree_rules small = go (eqb h.values.size 0) refl
    where
      w : Walk
      w = walk_of 129 n h ws h.nodes.size (unmarked m) h.root.0 0 0 zero_key false

      found : w.rest ≡ Some 0 → Reached n h ws h.nodes.size (unmarked m) h.root.0 0 0 zero_key false w
          → TreeRules n h ws
      found e r =
          record {
            tree = some r.tree;
            holds = record { at_root = r.at_top; counted = let none_left : r.left ≡ 0 = cc in omega (arith, r.counted); held = r.held };
            clean = r.clean;
            ordered = r.ordered;
            different =
                record {
                  nonzero = all_map (λ e u z. omega (arith, u.0)) (entries r.tree) placed;
                  different = fresh_different (unmarked m) (entries r.tree) (rw (length-replicate) placed) r.fresh;
                };
            live = r.live;
          }
        where
          placed : Placed m (entries r.tree)
          placed =
              all_map (λ e u. (u.0, omega (arith, u.1, rules.values.bump_most))) (entries r.tree)
              (entries_used h ws 0 0 r.tree r.held)

      go : (b : Bool) → eqb h.values.size 0 ≡ b → cond b true (root_ok h ws && all_reached w.rest) ≡ true
          → TreeRules n h ws
      go true e f =
          record {
            tree = none;
            holds = eqb-true h.values.size 0 e;
            clean = λ x q. absurd q;
            ordered = tt;
            different = record { nonzero = tt; different = tt };
            live = tt;
          }
      go false e f =
          let none_left : w.rest ≡ Some 0 = reached_all w.rest (and_r (root_ok h ws) _ f) in
          found none_left
          (walk_reaches n h ws small 129 h.nodes.size (unmarked m) h.root.0 0 0 zero_key false (ap is_some none_left))

  pub tree_passes : Clean h ws → (t : Map) → HoldsMap h ws t → OrderedMap t → Numbered (list_of t) → LiveAll n ws (list_of t)
      → tree_ok n h ws (unmarked m) ≡ true
  unfolding tree_ok root_walk HoldsMap
  tree_passes clean none k o d l = rw (eq-eqb h.values.size 0 k)
  tree_passes clean (some t) k o d l =
      go (walk_of 129 n h ws h.nodes.size (unmarked m) h.root.0 0 0 zero_key false)
      (ap (λ (i : ℕ). walk_of 129 n h ws h.nodes.size (unmarked m) i 0 0 zero_key false) (sym k.at_root) ∙ walks)
    where
      fresh : Fresh (unmarked m) (entries t)
      fresh = different_fresh m (entries t) (all_map (λ e u. pos_of_ne-zero u) (entries t) d.nonzero) d.different

      walks : walk_of 129 n h ws h.nodes.size (unmarked m) (top t) 0 0 zero_key false
          ≡ ends h.nodes.size (unmarked m) (nodes_in t) (entries t)
      walks =
          walk_passes n h ws clean 129 h.nodes.size (unmarked m) 0 0 zero_key false t
          (omega (arith, depth_bound t o)) (omega (arith, k.counted)) k.held o (λ p z. absurd (omega arith)) fresh l

      many : h.values.size ≢ 0
      many z = omega (arith, k.counted, rules.node_size, some_nodes t)

      go : (w : Walk) → w ≡ ends h.nodes.size (unmarked m) (nodes_in t) (entries t)
          → cond (eqb h.values.size 0) true (root_ok h ws && all_reached w.rest) ≡ true
      go w e =
          rw (ne_eqb h.values.size 0 many, root_passes m n h ws t rules k.at_root k.counted k.held, e)
          (eq-eqb (h.nodes.size - nodes_in t) 0 (omega (arith, k.counted)))

-- ---- all records

-- the tests of an image's header and records are the rules
pub records_rules : (m n : ℕ) (ws : List ℕ) → Small ws → shape_ok m n (length ws) ≡ true → top_ok m n ws ≡ true
    → records_ok m n (header_of n ws) ws ≡ true → Accepted m n ws
unfolding top_ok records_ok nodes_unused values_unused
records_rules m n ws small s e r =
    let h = header_of n ws in
    let rules = header_rules m n h (search (and_l, and_r)) in
    let t = tree_rules m n h ws rules small (search (and_l, and_r) depth 8) in
    let a = node_chain_found h ws (search (and_l, and_r) depth 8) in
    let b = value_chain_found n h ws (search (and_l, and_r) depth 8) in
    let unused : Zeros ws (node_at h.nodes.bump) (12 * (n + 1 - h.nodes.bump)) =
    (zeros_exact ws _ _).0 (search (and_l, and_r) depth 8)
    in
    record {
      shape = shaped m n (length ws) s;
      words = small;
      front = eqb-true (front_of ws) 0 (search (and_l, and_r) depth 8);
      spare = eqb-true (spare_of ws) 0 (search (and_l, and_r) depth 8);
      padding =
          padding_zero ws rules t.tree a.records t.holds a.chain a.many_are t.clean
          (all_map (λ i p. free_node_clean h ws i (node_of ws i) p) a.records a.pass) unused;
      header = rules;
      tree = t.tree;
      holds = t.holds;
      ordered = t.ordered;
      different = t.different;
      live = t.live;
      free_nodes = a.records;
      node_chain = a.chain;
      node_count = a.many_are;
      free_values = b.records;
      value_chain = b.chain;
      value_count = b.many_are;
      nodes_unused = unused;
      values_unused = (zeros_exact ws _ _).0 (search (and_l, and_r) depth 8);
    }

pub records_pass : (m n : ℕ) (ws : List ℕ) → Accepted m n ws → records_ok m n (header_of n ws) ws ≡ true
unfolding records_ok nodes_unused values_unused
records_pass m n ws a =
    let h = header_of n ws in
    rw (
      tree_passes m n h ws a.header (accepted_clean a) a.tree a.holds a.ordered a.different a.live,
      node_chain_passes h ws (accepted_clean a) a.free_nodes a.node_count a.node_chain,
      value_chain_passes n h ws a.free_values a.value_count a.value_chain,
      (zeros_exact ws (node_at h.nodes.bump) (12 * (n + 1 - h.nodes.bump))).1 a.nodes_unused,
      (zeros_exact ws (value_at n h.values.bump) (8 * (m + 1 - h.values.bump))).1 a.values_unused,
    )

-- ---- the check

-- It accepts every image that keeps the rules, where the scratch has a word for each value record.
pub check_complete : (m n : ℕ) (ws scratch : List ℕ) → Accepted m n ws → m ≤ length scratch → check_of m n ws scratch ≡ Ok tt
unfolding check_of check_shape opened_check
check_complete m n ws scratch a l =
    rw (shape_passes a.shape, le-leb m (length scratch) l, accepted_opens a, records_pass m n ws a)

-- It accepts no other image.
pub check_sound : (m n : ℕ) (ws scratch : List ℕ) → Small ws → check_of m n ws scratch ≡ Ok tt → Accepted m n ws
unfolding answer_number
check_sound m n ws scratch small e =
    let passed = (numbers m n ws scratch).accepted.0 (ap answer_number e) in
    records_rules m n ws small passed.0 passed.2 passed.3

-- On an image of the right shape, with enough scratch: Yes exactly if the rules are kept, and Damaged exactly if they are not.
pub record Exact (m n : ℕ) (ws scratch : List ℕ) : Type 0 where
  pub yes_exactly : (check_of m n ws scratch ≡ Ok tt) ↔ Accepted m n ws
  pub damaged_exactly : (check_of m n ws scratch ≡ Err no.Damaged) ↔ (Accepted m n ws → ⊥)

pub check_exact : (m n : ℕ) (ws scratch : List ℕ) → Small ws → shape_ok m n (length ws) ≡ true → m ≤ length scratch
    → Exact m n ws scratch
unfolding answer_number refusal_number check_of check_shape open_of open_shaped opened_check
check_exact m n ws scratch small s l =
    record {
      yes_exactly = (check_sound m n ws scratch small, λ a. check_complete m n ws scratch a l);
      damaged_exactly = (
        (λ e a. let z : ◌≡◌ {A = ℕ} 2 0 = sym (ap answer_number e) ∙ ap answer_number (check_complete m n ws scratch a l) in omega arith),
        λ never. refuses never (top_ok m n ws) (records_ok m n (header_of n ws) ws) refl refl,
      );
    }
  where
    refuses : (Accepted m n ws → ⊥) → (a b : Bool) → top_ok m n ws ≡ a → records_ok m n (header_of n ws) ws ≡ b
        → check_of m n ws scratch ≡ Err no.Damaged
    refuses never true true p q = absurd (never (records_rules m n ws small s p q))
    refuses never true false p q = simp (s, le-leb m (length scratch) l, p, q)
    refuses never false b p q = simp (s, le-leb m (length scratch) l, p)
