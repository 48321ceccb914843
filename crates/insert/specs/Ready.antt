-- What insert's tests and steps rely on: an opened image has room for every record, the node at the head is one, and so is the node after it where the
-- head's passes; and a plan that writes is made in an opened image.
use Rattle.std.specs.Prelude.{◌≡◌, List, Bool, true, false, cond, ℕ, ◌+◌, ◌*◌, ◌≤◌, ◌<◌, length, eqb, Err, None, Ok, Option, Result, Some}
use Rattle.std.proofs.Math.Path.{refl}
use Rattle.std.proofs.Common.{sym, ap, subst, arith, leb-true, lt-ltb}
use Rattle.std.proofs.lemmas.Bool.{eqb-false}
use Rattle.records.specs.declared.Value.{Value}
use Rattle.records.specs.declared.Refusal.{Refusal}
use Rattle.words.specs.Tests.{and_l, and_r}
use Rattle.keys.specs.declared.Key.{Key}
use Rattle.keys.specs.Number.{number_of}
use Rattle.keys.specs.Common.{bit_of}
use Rattle.records.specs.declared.Header.{Header}
use Rattle.records.specs.declared.Node.{Node}
use Rattle.records.specs.declared.NodeIndex.{NodeIndex}
use Rattle.records.specs.Layout.{most_nodes, image_of, image_length}
use Rattle.records.specs.Records.{node_of, value_record_of, inner_node}
use Rattle.inspection.specs.Tests.{arena_ok, header_ok, live_value, free_node}
use Rattle.inspection.specs.Visit.{live_of}
use Rattle.inspection.specs.Opening.{open_of}
use Rattle.inspection.specs.Room.{Room, room, node_bump, open_shaped_lem, open_passed, opened_bytes}
use Rattle.insert.specs.declared.Plan.{Plan}
use Rattle.insert.specs.declared.Plan.TheVariants.{First, Replace, Split}
use Rattle.insert.specs.Plan.{taken_node, next_node, behind_head}
use Rattle.insert.specs.Steps.{fork_node, opened_plan}

-- ---- the records to take

pub record Ready (m n : ℕ) (h : Header) (count : ℕ) : Type 0 where
  pub room : Room h count
  pub words : count ≡ image_length m n
  pub some : 1 ≤ h.nodes.head
  pub most : h.nodes.head ≤ h.nodes.bump
  pub small : h.nodes.bump ≤ most_nodes + 1

pub ready : (m n : ℕ) (ws : List ℕ) (h : Header) → open_of m n ws ≡ Ok h → Ready m n h (length ws)
unfolding header_ok arena_ok
ready m n ws h e =
    let passed = open_passed m n ws h e in
    let a : arena_ok h.nodes n ≡ true = search (and_l, and_r) in
    record {
      room = room m n ws h e;
      words = (open_shaped_lem m n ws h e).words;
      some = leb-true 1 h.nodes.head (search (and_l, and_r) depth 8);
      most = leb-true h.nodes.head h.nodes.bump (search (and_l, and_r) depth 8);
      small = omega (arith, node_bump m n h passed, (open_shaped_lem m n ws h e).nodes_most);
    }

-- the node that is taken after one that passes is never index 0
pub next_some : (n : ℕ) (h : Header) (ws : List ℕ) (i : ℕ) → i ≤ h.nodes.bump → taken_node n h ws i ≡ true
    → 1 ≤ next_node h ws i
unfolding taken_node next_node free_node
next_some n h ws i l e = go (eqb i h.nodes.bump) refl
  where
    go : (b : Bool) → eqb i h.nodes.bump ≡ b → 1 ≤ cond b (i + 1) (node_of ws i).left.0
    go true t = omega arith
    go false t =
        let d = eqb-false i h.nodes.bump t in
        let below : i < h.nodes.bump = omega arith in
        let f : free_node h ws i (node_of ws i) ≡ true = simp (lt-ltb i h.nodes.bump below) at e in
        leb-true 1 (node_of ws i).left.0 (search (and_l, and_r) depth 8)

-- what the node at the head comes to tells whether it may be taken
pub behind_some : (n : ℕ) (h : Header) (ws : List ℕ) (i : NodeIndex) → behind_head n h ws ≡ Some i
    → (taken_node n h ws h.nodes.head ≡ true) × (i.0 ≡ next_node h ws h.nodes.head)
unfolding behind_head
behind_some n h ws i e = go (taken_node n h ws h.nodes.head) e
  where
    next : NodeIndex
    next = record { 0 = next_node h ws h.nodes.head }

    go : (b : Bool) → cond b (Some next) None ≡ Some i → (b ≡ true) × (i.0 ≡ next_node h ws h.nodes.head)
    go true t = let same : next ≡ i = cc in (refl, ap (λ (k : NodeIndex). k.0) (sym same))
    go false t = let z : ◌≡◌ {A = ℕ} 0 1 = cc in absurd (omega arith)

pub behind_none : (n : ℕ) (h : Header) (ws : List ℕ) → behind_head n h ws ≡ None → taken_node n h ws h.nodes.head ≡ false
unfolding behind_head
behind_none n h ws e = go (taken_node n h ws h.nodes.head) e
  where
    next : NodeIndex
    next = record { 0 = next_node h ws h.nodes.head }

    go : (b : Bool) → cond b (Some next) None ≡ None → b ≡ false
    go true t = let z : ◌≡◌ {A = ℕ} 0 1 = cc in absurd (omega arith)
    go false t = refl

-- ---- the equal leaf's value record, by what its reading came to

unfoldable pub live_plan : Result Plan Refusal → Result Plan Refusal → Option Value → Result Plan Refusal
live_plan p q (Some v) = p
live_plan p q None = q

pub by_live : (n : ℕ) (ws : List ℕ) (leaf j : ℕ) (p q : Result Plan Refusal)
    → cond (live_value n ws leaf j) p q ≡ live_plan p q (live_of n ws leaf j)
unfolding live_plan live_of
by_live n ws leaf j p q = go (live_value n ws leaf j)
  where
    go : (b : Bool) → cond b p q ≡ live_plan p q (cond b (Some (value_record_of n ws j).value) None)
    go true = refl
    go false = refl

-- ---- the forked node, each child chosen by itself

pub fork_picked : (key : Key) (shared leaf copy : ℕ) (x : Node) → fork_node key shared leaf copy x
    ≡ inner_node x.parent.0 key shared (cond (bit_of (number_of key) shared) copy leaf) (cond (bit_of (number_of key) shared) leaf copy)
unfolding fork_node
fork_picked key shared leaf copy x = go (bit_of (number_of key) shared)
  where
    go : (b : Bool) → cond b (inner_node x.parent.0 key shared copy leaf) (inner_node x.parent.0 key shared leaf copy)
        ≡ inner_node x.parent.0 key shared (cond b copy leaf) (cond b leaf copy)
    go true = refl
    go false = refl

-- ---- a plan that writes is made in an opened image

abbrev pub Writes : Result Plan Refusal → Type 0
Writes (Ok (First h)) = Unit {0}
Writes (Ok (Replace i j)) = Unit {0}
Writes (Ok (Split h i x shared)) = Unit {0}
Writes (Err r) = ⊥

module _ (m n : ℕ) (key : Key) (p : Result Plan Refusal) (w : Writes p) where
  pub plan_opened : (ws : List ℕ) → opened_plan m n ws key (open_of m n ws) ≡ p → (h : Header) × (open_of m n ws ≡ Ok h)
  unfolding opened_plan
  plan_opened ws e = go (open_of m n ws) refl e
    where
      go : (o : Result Header Refusal) → open_of m n ws ≡ o → opened_plan m n ws key o ≡ p → (h : Header) × (open_of m n ws ≡ Ok h)
      go (Ok h) q t = (h, q)
      go (Err r) q t = absurd (subst Writes (sym t) w)

  -- so there is room for every store
  pub plan_room : (bytes : List ℕ) → opened_plan m n (image_of bytes) key (open_of m n (image_of bytes)) ≡ p
      → 48 * n + 32 * m + 48 ≤ length bytes
  plan_room bytes e = let o = plan_opened (image_of bytes) e in omega (arith, opened_bytes m n bytes o.0 o.1)
