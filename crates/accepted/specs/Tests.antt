-- The tests are the rules: each test, as the calls make it, passes exactly where its rule holds.
use Rattle.std.specs.Prelude.{◌≡◌, refl, List, Bool, true, false, cond, ◌&&◌, ◌||◌, not, ℕ, ◌+◌, ◌-◌, ◌*◌, ◌≤◌, eqb}
use Rattle.std.proofs.Common.{sym, ap, ◌∙◌, ⊎_elim, arith}
use Rattle.std.specs.Bool.{beq}
use Rattle.std.proofs.Math.Decide.{ℕ_discrete}
use borrow.Author.Tests.{leb-true, le-leb, ltb-true, lt-ltb, eqb-true, eqb-false, eq-eqb, ne_eqb}
use Rattle.words.specs.Tests.{and_l, and_r, or_cases, not-true, beq_equal}
use Rattle.node_allocator.specs.declared.Counts.{Counts}
use Rattle.node_allocator.specs.Steps.{link_ok}
use Rattle.records.specs.declared.Header.{Header}
use Rattle.records.specs.declared.Node.{Node}
use Rattle.records.specs.declared.ValueRecord.{ValueRecord}
use Rattle.records.specs.Layout.{image_length, most_values, most_nodes}
use Rattle.records.specs.Records.{padding_of, value_record_of}
use Rattle.inspection.specs.Tests.{shape_ok, arena_ok, counts_ok, header_ok, padding_ok, live_value, free_node, free_value}
use Rattle.inspection.specs.Room.{Shaped}
use Rattle.accepted.specs.Rules.{ArenaRules, HeaderRules, Live, Link, FreeNode, FreeValue}

-- ---- two tests agree exactly if their facts do

beq_fact : (a b : Bool) → beq a b ≡ true → (a ≡ true → b ≡ true) × (b ≡ true → a ≡ true)
beq_fact a b e = let same = beq_equal a b e in ((λ x. sym same ∙ x), λ x. same ∙ x)

fact_beq : (a b : Bool) → (a ≡ true → b ≡ true) → (b ≡ true → a ≡ true) → beq a b ≡ true
fact_beq true true f g = refl
fact_beq true false f g = f refl
fact_beq false true f g = g refl
fact_beq false false f g = refl

pub shape_passes : {m n count : ℕ} → Shaped m n count → shape_ok m n count ≡ true
shape_passes {m} {n} {count} s =
    rw (le-leb 1 m s.some, le-leb m most_values s.most, le-leb (2 * m) n s.twice, le-leb n most_nodes s.nodes_most, eq-eqb count (image_length m n) s.words)

-- ---- Header

arena_rules : (c : Counts) (limit : ℕ) → arena_ok c limit ≡ true → ArenaRules c limit
unfolding arena_ok
arena_rules c limit e =
    let same : beq (eqb c.head c.bump) (eqb c.size (c.bump - 1)) ≡ true = search (and_l, and_r) depth 8 in
    let both = beq_fact (eqb c.head c.bump) (eqb c.size (c.bump - 1)) same in
    record {
      bump_some = leb-true 1 c.bump (search (and_l, and_r) depth 8);
      bump_most = leb-true c.bump (limit + 1) (search (and_l, and_r) depth 8);
      head_some = leb-true 1 c.head (search (and_l, and_r) depth 8);
      head_most = leb-true c.head c.bump (search (and_l, and_r) depth 8);
      size_most = leb-true c.size (c.bump - 1) (search (and_l, and_r) depth 8);
      chain_empty = (
        λ x. eqb-true c.size (c.bump - 1) (both.0 (eq-eqb c.head c.bump x)),
        λ x. eqb-true c.head c.bump (both.1 (eq-eqb c.size (c.bump - 1) x)),
      );
    }

arena_passes : (c : Counts) (limit : ℕ) → ArenaRules c limit → arena_ok c limit ≡ true
unfolding arena_ok
arena_passes c limit r =
    rw (
      le-leb 1 c.bump r.bump_some,
      le-leb c.bump (limit + 1) r.bump_most,
      le-leb 1 c.head r.head_some,
      le-leb c.head c.bump r.head_most,
      le-leb c.size (c.bump - 1) r.size_most,
    )
    (fact_beq (eqb c.head c.bump) (eqb c.size (c.bump - 1))
    (λ x. eq-eqb c.size (c.bump - 1) (r.chain_empty.0 (eqb-true c.head c.bump x)))
    (λ x. eq-eqb c.head c.bump (r.chain_empty.1 (eqb-true c.size (c.bump - 1) x))))

pub header_rules : (m n : ℕ) (h : Header) → header_ok m n h ≡ true → HeaderRules m n h
unfolding header_ok counts_ok
header_rules m n h e =
    let counts : counts_ok m h ≡ true = search (and_l, and_r) depth 8 in
    let root : h.root.0 ≡ cond (eqb h.values.size 0) 0 1 = eqb-true h.root.0 (cond (eqb h.values.size 0) 0 1) (search (and_l, and_r) depth 8) in
    let empty : not (eqb h.values.size 0) || eqb h.nodes.head 1 ≡ true = search (and_l, and_r) depth 8 in
    record {
      size_most = leb-true h.values.size m (search (and_l, and_r) depth 8);
      node_size = eqb-true h.nodes.size (2 * h.values.size - 1) (search (and_l, and_r) depth 8);
      root_none = λ z. root ∙ ap (λ (b : Bool). cond b 0 1) (eq-eqb h.values.size 0 z);
      root_one = λ z. root ∙ ap (λ (b : Bool). cond b 0 1) (ne_eqb h.values.size 0 z);
      empty_head = λ z. let tested : h.nodes.head ≡ 1 = ⊎_elim
          (λ (x : not (eqb h.values.size 0) ≡ true). absurd (eqb-false h.values.size 0 (not-true _ x) z))
          (λ (x : eqb h.nodes.head 1 ≡ true). eqb-true h.nodes.head 1 x)
          (or_cases (not (eqb h.values.size 0)) (eqb h.nodes.head 1) empty) in omega arith;
      nodes = arena_rules h.nodes n (search (and_l, and_r) depth 8);
      values = arena_rules h.values m (search (and_l, and_r) depth 8);
    }

pub header_passes : (m n : ℕ) (h : Header) → HeaderRules m n h → header_ok m n h ≡ true
unfolding header_ok counts_ok
header_passes m n h r =
    rw (
      le-leb h.values.size m r.size_most,
      eq-eqb h.nodes.size (2 * h.values.size - 1) r.node_size,
    )
    (go (ℕ_discrete h.values.size 0))
  where
    go : Dec (h.values.size ≡ 0)
        → (eqb h.root.0 (cond (eqb h.values.size 0) 0 1) && (not (eqb h.values.size 0) || eqb h.nodes.head 1)) && arena_ok h.nodes n && arena_ok h.values m ≡ true
    go (yes z) =
        rw (eq-eqb h.values.size 0 z, eq-eqb h.root.0 0 (r.root_none z), eq-eqb h.nodes.head 1 (r.empty_head z), arena_passes h.nodes n r.nodes, arena_passes h.values m r.values)
    go (no d) =
        rw (ne_eqb h.values.size 0 d, eq-eqb h.root.0 1 (r.root_one d), arena_passes h.nodes n r.nodes, arena_passes h.values m r.values)

-- ---- padding, value records, links and free records

pub padding_rule : (ws : List ℕ) (i : ℕ) → padding_ok ws i ≡ true → padding_of ws i ≡ 0
unfolding padding_ok
padding_rule ws i e = eqb-true (padding_of ws i) 0 e

pub padding_passes : (ws : List ℕ) (i : ℕ) → padding_of ws i ≡ 0 → padding_ok ws i ≡ true
unfolding padding_ok
padding_passes ws i e = eq-eqb (padding_of ws i) 0 e

module _ (n : ℕ) (ws : List ℕ) (leaf j : ℕ) where
  abbrev r : ValueRecord
  r = value_record_of n ws j

  pub live_rules : live_value n ws leaf j ≡ true → Live (value_record_of n ws j)
  unfolding live_value
  live_rules e =
      record {
        zero0 = eqb-true r.register0 0 (search (and_l, and_r) depth 8);
        zero1 = eqb-true r.register1 0 (search (and_l, and_r) depth 8);
        zero2 = eqb-true r.register2 0 (search (and_l, and_r) depth 8);
        zero3 = eqb-true r.register3 0 (search (and_l, and_r) depth 8);
      }

  pub live_passes : Live (value_record_of n ws j) → live_value n ws leaf j ≡ true
  unfolding live_value
  live_passes l =
      rw (eq-eqb r.register0 0 l.zero0, eq-eqb r.register1 0 l.zero1, eq-eqb r.register2 0 l.zero2, eq-eqb r.register3 0 l.zero3)

link_rules : (bump i next : ℕ) → link_ok bump i next ≡ true → Link bump i next
link_rules bump i next e =
    record {
      some = leb-true 1 next (search (and_l, and_r) depth 8);
      most = leb-true next bump (search (and_l, and_r) depth 8);
      other = eqb-false next i (not-true (eqb next i) (search (and_l, and_r) depth 8));
    }

link_passes : (bump i next : ℕ) → Link bump i next → link_ok bump i next ≡ true
link_passes bump i next l = rw (le-leb 1 next l.some, le-leb next bump l.most, ne_eqb next i l.other)

pub free_node_clean : (h : Header) (ws : List ℕ) (i : ℕ) (x : Node) → free_node h ws i x ≡ true → padding_of ws i ≡ 0
unfolding free_node
free_node_clean h ws i x e = padding_rule ws i (search and_l)

pub free_node_rules : (h : Header) (ws : List ℕ) (i : ℕ) (x : Node) → free_node h ws i x ≡ true → FreeNode h i x
unfolding free_node
free_node_rules h ws i x e =
    let first : not (eqb i 1) || eqb x.parent.0 0 ≡ true = search (and_l, and_r) depth 10 in
    let linked : link_ok h.nodes.bump i x.left.0 ≡ true = search (and_l, and_r) depth 10 in
    record {
      no_value = eqb-true x.value.0 0 (search (and_l, and_r) depth 10);
      no_right = eqb-true x.right.0 0 (search (and_l, and_r) depth 10);
      link = link_rules h.nodes.bump i x.left.0 linked;
      parent_used = ltb-true x.parent.0 h.nodes.bump (search (and_l, and_r) depth 10);
      first_parent = λ z. ⊎_elim
          (λ (y : not (eqb i 1) ≡ true). absurd (eqb-false i 1 (not-true _ y) z))
          (λ (y : eqb x.parent.0 0 ≡ true). eqb-true x.parent.0 0 y)
          (or_cases (not (eqb i 1)) (eqb x.parent.0 0) first);
      prefix_most = let tested : x.prefix ≤ 128 = leb-true x.prefix 128 (search (and_l, and_r) depth 10) in omega arith;
    }

pub free_node_passes : (h : Header) (ws : List ℕ) (i : ℕ) (x : Node) → padding_of ws i ≡ 0 → FreeNode h i x → free_node h ws i x ≡ true
unfolding free_node
free_node_passes h ws i x clean f =
    rw (
      padding_passes ws i clean,
      eq-eqb x.value.0 0 f.no_value,
      eq-eqb x.right.0 0 f.no_right,
      link_passes h.nodes.bump i x.left.0 f.link,
      lt-ltb x.parent.0 h.nodes.bump f.parent_used,
      le-leb x.prefix 128 f.prefix_most,
    )
    (go (ℕ_discrete i 1))
  where
    go : Dec (i ≡ 1) → (not (eqb i 1) || eqb x.parent.0 0) && true ≡ true
    go (yes z) = rw (eq-eqb i 1 z, eq-eqb x.parent.0 0 (f.first_parent z))
    go (no d) = rw (ne_eqb i 1 d)

pub free_value_rules : (h : Header) (j : ℕ) (r : ValueRecord) → free_value h j r ≡ true → FreeValue h j r
unfolding free_value
free_value_rules h j r e =
    let linked : link_ok h.values.bump j r.register0 ≡ true = search (and_l, and_r) depth 8 in
    record {
      link = link_rules h.values.bump j r.register0 linked;
      zero1 = eqb-true r.register1 0 (search (and_l, and_r) depth 8);
      zero2 = eqb-true r.register2 0 (search (and_l, and_r) depth 8);
      zero3 = eqb-true r.register3 0 (search (and_l, and_r) depth 8);
    }

pub free_value_passes : (h : Header) (j : ℕ) (r : ValueRecord) → FreeValue h j r → free_value h j r ≡ true
unfolding free_value
free_value_passes h j r f =
    rw (link_passes h.values.bump j r.register0 f.link, eq-eqb r.register1 0 f.zero1, eq-eqb r.register2 0 f.zero2, eq-eqb r.register3 0 f.zero3)
