-- A walk that passes has gone over a tree that the image holds: what a visited node that passes is, and, node by node, the
-- tree.
use Rattle.std.specs.Prelude.{◌≡◌, ◌≢◌, ◌⊎◌, Option, Some, None, Bool, cond, ◌&&◌, get_or, set}
use Rattle.std.specs.Option.{is_some}
use Rattle.std.proofs.Math.Path.{refl, sym, ap}
use Rattle.std.proofs.Common.{◌∙◌, inl, inr, arith}
use mathlib.Core.List.{List}
use Rattle.std.proofs.Math.Logic.{⊎_elim}
use Rattle.std.proofs.Math.Bool.{true, false}
use Rattle.std.proofs.lemmas.Bool.{false≢true}
use Prim.Native.Nat.{ℕ, zero, suc, ◌+◌, ◌-◌, ◌≤◌, ◌<◌}
use Rattle.std.proofs.Math.Dec.{eqb}
use borrow.Author.Tests.{leb-true, ltb-true, eqb-true, eqb-false}
use Rattle.words.specs.Tests.{and_l, and_r, or_cases, not-true}
use Rattle.keys.specs.declared.Key.{Key}
use Rattle.records.specs.declared.Header.{Header}
use Rattle.records.specs.declared.Node.{Node}
use Rattle.records.specs.Records.{node_of, padding_of, value_record_of}
use Rattle.inspection.specs.Tests.{is_leaf, is_fork, form_ok, node_ok, live_value}
use Rattle.inspection.specs.Visit as visit
use Rattle.full_check.specs.Walk.{Walk, failed, passed, visit_ok, leaf_walk, go_on, joined, walk_of}
use Rattle.lists.specs.Lists.{all_append}
use Rattle.trees.specs.Tree.{Tree, leaf, inner, top, key_of, prefix_of, entries, Each, Side, Ordered}
use Rattle.trees.specs.Nodes.{In}
use Rattle.trees.specs.Values.{Entry}
use Rattle.record_views.specs.Small.{Small, node_fits}
use Rattle.accepted.specs.Rules.{Holds, Live}
use Rattle.accepted.specs.Accepted.{nodes_in}
use Rattle.accepted.specs.Tests.{padding_rule, live_rules}
use Rattle.accepted_check.specs.Sides.{OnSide, side_rules, side_down}
use Rattle.accepted_check.specs.Marks.{marked, Fresh, marked_append, fresh_append}
use Rattle.accepted_check.specs.Passes.{LiveAll, top_rises}

-- ---- a visited node that passes

module _ (h : Header) (ws : List ℕ) (i above low : ℕ) (ok : node_ok h ws i above low ≡ true) where
  abbrev x : Node
  x = node_of ws i

  form : form_ok h ws i ≡ true
  unfolding node_ok
  form = search (and_l, and_r)

  parent_is : (node_of ws i).parent.0 ≡ above
  unfolding node_ok
  parent_is = eqb-true x.parent.0 above (search (and_l, and_r))

  used : (1 ≤ i) × (i < h.nodes.bump)
  unfolding form_ok
  used =
      let f : form_ok h ws i ≡ true = form in
      (leb-true 1 i (search (and_l, and_r) depth 8), ltb-true i h.nodes.bump (search (and_l, and_r) depth 8))

  pub node_clean : padding_of ws i ≡ 0
  unfolding form_ok
  node_clean = let f : form_ok h ws i ≡ true = form in padding_rule ws i (search (and_l, and_r) depth 8)

  kinds : (is_leaf h (node_of ws i) ≡ true) ⊎ (is_fork (node_of ws i) ≡ true)
  unfolding form_ok
  kinds = let f : form_ok h ws i ≡ true = form in or_cases (is_leaf h x) (is_fork x) (search (and_l, and_r) depth 8)

  -- one with a value is a leaf that the image holds
  pub leaf_held : (node_of ws i).value.0 ≢ 0 → Holds h ws above low (leaf i (node_of ws i).key (node_of ws i).value.0)
  unfolding Holds
  leaf_held d = ⊎_elim held (λ (f : is_fork x ≡ true). absurd (d (eqb-true x.value.0 0 (search and_l)))) kinds
    where
      held : is_leaf h x ≡ true → Holds h ws above low (leaf i (node_of ws i).key (node_of ws i).value.0)
      held f =
          let no_left : x.left.0 ≡ 0 = eqb-true x.left.0 0 (search (and_l, and_r) depth 8) in
          let no_right : x.right.0 ≡ 0 = eqb-true x.right.0 0 (search (and_l, and_r) depth 8) in
          let long : x.prefix ≡ 128 = eqb-true x.prefix 128 (search (and_l, and_r) depth 8) in
          record {
            index_some = used.0;
            index_used = used.1;
            here =
                λ ι. record {
                  left = record { 0 = no_left ι };
                  right = record { 0 = no_right ι };
                  parent = record { 0 = parent_is ι };
                  value = x.value;
                  key = x.key;
                  prefix = long ι;
                };
            rises = omega (arith, (visit.passed h ws i above low ok).rises);
            value_some = leb-true 1 x.value.0 (search (and_l, and_r) depth 8);
            value_used = ltb-true x.value.0 h.values.bump (search (and_l, and_r) depth 8);
          }

  -- one without is an inner node, over the trees at its children
  module _ (z : (node_of ws i).value.0 ≡ 0) (l r : Tree)
      (at_left : top l ≡ (node_of ws i).left.0) (at_right : top r ≡ (node_of ws i).right.0) where
    pub inner_held : Holds h ws i ((node_of ws i).prefix + 1) l → Holds h ws i ((node_of ws i).prefix + 1) r
        → Holds h ws above low (inner i (node_of ws i).key (node_of ws i).prefix l r)
    unfolding Holds
    inner_held a b =
        ⊎_elim (λ (f : is_leaf h x ≡ true). absurd (omega (arith, leb-true 1 x.value.0 (search (and_l, and_r) depth 8)))) held kinds
      where
        held : is_fork x ≡ true → Holds h ws above low (inner i (node_of ws i).key (node_of ws i).prefix l r)
        held f =
            let two : eqb x.left.0 x.right.0 ≡ false = not-true _ (search (and_l, and_r) depth 8) in
            record {
              index_some = used.0;
              index_used = used.1;
              here =
                  λ ι. record {
                    left = record { 0 = sym at_left ι };
                    right = record { 0 = sym at_right ι };
                    parent = record { 0 = parent_is ι };
                    value = record { 0 = z ι };
                    key = x.key;
                    prefix = x.prefix;
                  };
              rises = (visit.passed h ws i above low ok).rises;
              short = ltb-true x.prefix 128 (search (and_l, and_r) depth 8);
              two = λ e. eqb-false x.left.0 x.right.0 two (sym at_left ∙ e ∙ at_right);
              on_left = a;
              on_right = b;
            }

-- ---- the tree of a walk that passed

-- the walk began at node i with so many nodes to reach and these marks, and came to w
pub record Reached (n : ℕ) (h : Header) (ws : List ℕ) (rest : ℕ) (marks : List ℕ) (i above low : ℕ) (key : Key) (right : Bool)
    (w : Walk) : Type 0 where
  pub tree : Tree
  pub at_top : top tree ≡ i
  pub held : Holds h ws above low tree
  pub clean : (x : ℕ) → In x tree → padding_of ws x ≡ 0
  pub ordered : Ordered tree
  pub on_side : OnSide low key right (key_of tree)
  pub left : ℕ
  pub left_are : w.rest ≡ Some left
  pub counted : nodes_in tree + left ≡ rest
  pub fresh : Fresh marks (entries tree)
  pub live : LiveAll n ws (entries tree)
  pub marks_are : w.marks ≡ marked marks (entries tree)

module _ (n : ℕ) (h : Header) (ws : List ℕ) (small : Small ws) where
  -- below node i, on one side
  abbrev below : ℕ → Bool → ℕ
  below i right = cond right (node_of ws i).right.0 (node_of ws i).left.0

  abbrev walk_below : ℕ → ℕ → List ℕ → ℕ → Bool → Walk
  walk_below fuel rest marks i right = walk_of fuel n h ws rest marks (below i right) i ((node_of ws i).prefix + 1) (node_of ws i).key right

  abbrev ReachedBelow : ℕ → List ℕ → ℕ → Bool → Walk → Type 0
  ReachedBelow rest marks i right w = Reached n h ws rest marks (below i right) i ((node_of ws i).prefix + 1) (node_of ws i).key right w

  -- leaf i names a live value record that none named before, and marks it
  abbrev leaf_passes : List ℕ → ℕ → Bool
  leaf_passes marks i = live_value n ws i (node_of ws i).value.0 && eqb (get_or marks ((node_of ws i).value.0 - 1) 0) 0

  abbrev leaf_end : ℕ → List ℕ → ℕ → Walk
  leaf_end rest marks i = record { rest = Some (rest - 1); marks = set marks ((node_of ws i).value.0 - 1) 1 }

  module _ (rest : ℕ) (marks : List ℕ) (i above low : ℕ) (key : Key) (right : Bool) where
    abbrev To : Walk → Type 0
    To w = Reached n h ws rest marks i above low key right w

    module _ (ok : visit_ok h ws rest i above low key right ≡ true) where
      node_accepted : node_ok h ws i above low ≡ true
      unfolding visit_ok
      node_accepted = search and_l

      side_accepted : OnSide low key right (node_of ws i).key
      unfolding visit_ok
      side_accepted = side_rules low key right (node_of ws i) (search (and_l, and_r))

      rest_some : 0 < rest
      unfolding visit_ok
      rest_some = ltb-true 0 rest (search (and_l, and_r))

      leaf_reached : (node_of ws i).value.0 ≢ 0 → leaf_passes marks i ≡ true → To (leaf_end rest marks i)
      unfolding nodes_in
      leaf_reached d e =
          record {
            tree = leaf i (node_of ws i).key (node_of ws i).value.0;
            at_top = refl;
            held = leaf_held h ws i above low node_accepted d;
            clean = λ y q. rw q (node_clean h ws i above low node_accepted);
            ordered = (node_fits ws i small).key_fits;
            on_side = side_accepted;
            left = rest - 1;
            left_are = refl;
            counted = omega (arith, rest_some);
            fresh = (eqb-true (get_or marks ((node_of ws i).value.0 - 1) 0) 0 (search and_r), tt);
            live = (live_rules n ws i (node_of ws i).value.0 (search and_l), tt);
            marks_are = refl;
          }

      inner_reached : (node_of ws i).value.0 ≡ 0 → (l r : Walk) (more : ℕ) → l.rest ≡ Some more → ReachedBelow (rest - 1) marks i false l
          → ReachedBelow more l.marks i true r → To r
      unfolding Holds nodes_in
      inner_reached z l r more on a b =
          record {
            tree = inner i (node_of ws i).key (node_of ws i).prefix a.tree b.tree;
            at_top = refl;
            held = held;
            clean = clean;
            ordered =
                record {
                  fits = (node_fits ws i small).key_fits;
                  low = held.short;
                  left = side false a.tree a.held a.ordered a.on_side;
                  right = side true b.tree b.held b.ordered b.on_side;
                  on_left = a.ordered;
                  on_right = b.ordered;
                };
            on_side = side_accepted;
            left = b.left;
            left_are = b.left_are;
            counted = let same : more ≡ a.left = cc in omega (arith, rest_some, a.counted, b.counted);
            fresh = fresh_append marks (entries a.tree) (entries b.tree) a.fresh (rw a.marks_are at b.fresh);
            live = all_append (λ (e : Entry). Live (value_record_of n ws e.1)) (entries a.tree) (entries b.tree) a.live b.live;
            marks_are =
                b.marks_are
                ∙ ap (λ (ms : List ℕ). marked ms (entries b.tree)) a.marks_are
                ∙ sym (marked_append marks (entries a.tree) (entries b.tree));
          }
        where
          held : Holds h ws above low (inner i (node_of ws i).key (node_of ws i).prefix a.tree b.tree)
          held = inner_held h ws i above low node_accepted z a.tree b.tree a.at_top b.at_top a.held b.held

          clean : (x : ℕ) → In x (inner i (node_of ws i).key (node_of ws i).prefix a.tree b.tree) → padding_of ws x ≡ 0
          clean x (inl e) = rw e (node_clean h ws i above low node_accepted)
          clean x (inr (inl q)) = a.clean x q
          clean x (inr (inr q)) = b.clean x q

          side : (b : Bool) (t : Tree) → Holds h ws i ((node_of ws i).prefix + 1) t → Ordered t
              → OnSide ((node_of ws i).prefix + 1) (node_of ws i).key b (key_of t) → Each (Side (node_of ws i).key (node_of ws i).prefix b) t
          side b t k o s =
              let over : (node_of ws i).prefix < prefix_of t = omega (arith, top_rises h ws i ((node_of ws i).prefix + 1) t k) in
              side_down (node_of ws i).key (node_of ws i).prefix b t over o (s (node_of ws i).prefix refl)

  -- A walk that passes has reached a tree.
  pub walk_reaches : (fuel rest : ℕ) (marks : List ℕ) (i above low : ℕ) (key : Key) (right : Bool)
      → passed (walk_of fuel n h ws rest marks i above low key right) ≡ true
      → Reached n h ws rest marks i above low key right (walk_of fuel n h ws rest marks i above low key right)
  unfolding walk_of joined leaf_walk
  walk_reaches zero rest marks i above low key right = λ f. absurd (false≢true f)
  walk_reaches (suc fuel) rest marks i above low key right =
      go (visit_ok h ws rest i above low key right) (eqb (node_of ws i).value.0 0) left.rest (leaf_passes marks i)
      refl refl refl refl
      (walk_reaches fuel (rest - 1) marks (below i false) i ((node_of ws i).prefix + 1) (node_of ws i).key false)
      (λ more. walk_reaches fuel more left.marks (below i true) i ((node_of ws i).prefix + 1) (node_of ws i).key true)
    where
      left : Walk
      left = walk_below fuel (rest - 1) marks i false

      behind : ℕ → Walk
      behind more = walk_below fuel more left.marks i true

      goal : Walk → Type 0
      goal w = passed w ≡ true → To rest marks i above low key right w

      go : (visited forks : Bool) (on : Option ℕ) (live : Bool) → visit_ok h ws rest i above low key right ≡ visited
          → eqb (node_of ws i).value.0 0 ≡ forks → left.rest ≡ on → leaf_passes marks i ≡ live
          → (passed left ≡ true → ReachedBelow (rest - 1) marks i false left)
          → ((more : ℕ) → passed (behind more) ≡ true → ReachedBelow more left.marks i true (behind more))
          → goal (cond visited (cond forks (go_on on left behind) (cond live (leaf_end rest marks i) (failed marks))) (failed marks))
      go false forks on live p q r s a b f = absurd (false≢true f)
      go true true None live p q r s a b f = absurd (false≢true (sym (ap is_some r) ∙ f))
      go true true (Some more) live p q r s a b f =
          inner_reached rest marks i above low key right p (eqb-true (node_of ws i).value.0 0 q) left (behind more) more r (a (ap is_some r)) (b more f)
      go true false on false p q r s a b f = absurd (false≢true f)
      go true false on true p q r s a b f = leaf_reached rest marks i above low key right p (eqb-false (node_of ws i).value.0 0 q) s
