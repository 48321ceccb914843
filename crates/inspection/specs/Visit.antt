-- A node tested as a visited node, with what it then is: an inner node, a leaf, or damaged. This is the one test of a visited node; the code tests
-- first what both kinds share and then asks for the node's kind, and `visit_kind` and `first_kind` say that this is the same.
use Rattle.std.proofs.Math.Path.{◌≡◌, refl}
use Rattle.std.proofs.Common.{sym, ◌∙◌, inl, inr, ⊎_elim, eq-zero-or-pos}
use Rattle.std.specs.Prelude.{List, ◌⊎◌, Bool, is_some, ◌&&◌, ◌||◌, ℕ, ◌≤◌, ◌<◌, ltb, None, Option, Some}
use Rattle.std.proofs.Math.Bool.{true, false, cond}
use native.Mathlib.Omega.{arith}
use Rattle.std.proofs.Math.Dec.{eqb, leb}
use borrow.Author.Tests.{leb-true, ltb-true, eqb-true, eq-eqb, le-leb}
use Rattle.records.specs.declared.Value.{Value}
use Rattle.words.specs.Tests.{and_l, and_r, or_cases}
use Rattle.records.specs.declared.Header.{Header}
use Rattle.records.specs.declared.Node.{Node}
use Rattle.records.specs.Records.{node_of, value_record_of}
use Rattle.inspection.specs.declared.Visited.{Visited}
use Rattle.inspection.specs.declared.Visited.TheVariants.{Inner, Leaf, Damaged}
use Rattle.inspection.specs.Tests.{used_node, padding_ok, leaf_form, is_leaf, inner_form, is_fork, form_ok, node_ok, live_value}

-- a node that passes, by its kind
abbrev pub kind_of : Node → Visited
kind_of x = cond (eqb x.value.0 0) (Inner x) (Leaf x)

unfoldable pub visit_of : Header → List ℕ → ℕ → ℕ → ℕ → Visited
visit_of h ws i above low = cond (node_ok h ws i above low) (kind_of (node_of ws i)) Damaged

-- the first node that a listing's step pops, which has no known parent
unfoldable pub first_of : Header → List ℕ → ℕ → Visited
first_of h ws i = cond (form_ok h ws i) (kind_of (node_of ws i)) Damaged

-- the value that a leaf's record holds, where the record passes
unfoldable pub live_of : ℕ → List ℕ → ℕ → ℕ → Option Value
live_of n ws leaf j = cond (live_value n ws leaf j) (Some (value_record_of n ws j).value) None

pub live_tested : (n : ℕ) (ws : List ℕ) (leaf j : ℕ) → is_some (live_of n ws leaf j) ≡ live_value n ws leaf j
unfolding live_of
live_tested n ws leaf j = go (live_value n ws leaf j)
  where
    go : (b : Bool) → is_some (cond b (Some (value_record_of n ws j).value) None) ≡ b
    go true = refl
    go false = refl

-- ---- by kind

-- what both kinds are tested for, whether the padding is clean
abbrev pub joined : Bool → ℕ → ℕ → Node → Bool
joined clean above low x = clean && eqb x.parent.0 above && leb low x.prefix

-- a node that has passed that, by its kind
unfoldable pub of_kind : Header → Node → Visited
of_kind h x =
    cond (eqb x.value.0 0)
    (cond (inner_form x) (Inner x) Damaged)
    (cond (ltb x.value.0 h.values.bump && leaf_form x) (Leaf x) Damaged)

-- a node of a used index
unfoldable pub by_kind : Header → Bool → ℕ → ℕ → Node → Visited
by_kind h clean above low x = cond (joined clean above low x) (of_kind h x) Damaged

some : (a : ℕ) → (a ≡ 0 → ⊥) → 1 ≤ a
some a n = ⊎_elim (λ e. absurd (n e)) (λ l. omega arith) (eq-zero-or-pos a)

-- both test the same things in another order
order : (c j l f : Bool) → (c && f) && j && l ≡ (c && j && l) && f
order true true true true = refl
order true true true false = refl
order true true false true = refl
order true true false false = refl
order true false l true = refl
order true false l false = refl
order false j l f = refl

-- one test after the other, or both at once
nested : (a b : Bool) (v w : Visited) → cond (a && b) v w ≡ cond a (cond b v w) w
nested true b v w = refl
nested false b v w = refl

or_false : (a : Bool) → (a || false) ≡ a
or_false true = refl
or_false false = refl

module _ (h : Header) (ws : List ℕ) (i : ℕ) (u : used_node h i ≡ true) where
  abbrev x : Node
  x = node_of ws i

  pub visit_kind : (above low : ℕ) → by_kind h (padding_ok ws i) above low (node_of ws i) ≡ visit_of h ws i above low
  unfolding by_kind of_kind visit_of node_ok form_ok
  visit_kind above low = go (eqb x.value.0 0) refl
    where
      go : (b : Bool) → eqb x.value.0 0 ≡ b → by_kind h (padding_ok ws i) above low x ≡ visit_of h ws i above low
      go true e =
          let none : leb 1 x.value.0 ≡ false = rw (eqb-true x.value.0 0 e) in
          simp (u, e, none, order (padding_ok ws i) (eqb x.parent.0 above) (leb low x.prefix) (inner_form x), nested)
      go false e =
          let one : leb 1 x.value.0 ≡ true = le-leb 1 x.value.0 (some x.value.0 (λ z. unequal (sym (eq-eqb x.value.0 0 z) ∙ e))) in
          simp (u, e, one, or_false, order (padding_ok ws i) (eqb x.parent.0 above) (leb low x.prefix) (ltb x.value.0 h.values.bump && leaf_form x), nested)
        where
          unequal : true ≡ false → ⊥
          unequal q = let z : ◌≡◌ {A = ℕ} 0 1 = cc in omega arith

  own_parent : node_ok h ws i (node_of ws i).parent.0 0 ≡ form_ok h ws i
  unfolding node_ok
  own_parent = rw (eq-eqb (node_of ws i).parent.0 (node_of ws i).parent.0 refl, le-leb 0 (node_of ws i).prefix (omega arith)) (and_true (form_ok h ws i))
    where
      and_true : (a : Bool) → a && true && true ≡ a
      and_true true = refl
      and_true false = refl

  pub first_kind : by_kind h (padding_ok ws i) (node_of ws i).parent.0 0 (node_of ws i) ≡ first_of h ws i
  unfolding visit_of first_of
  first_kind = visit_kind (node_of ws i).parent.0 0 ∙ rw own_parent

-- an index that was never used is damaged
module _ (h : Header) (ws : List ℕ) (i : ℕ) (u : used_node h i ≡ false) where
  pub visit_unused : (above low : ℕ) → visit_of h ws i above low ≡ Damaged
  unfolding visit_of node_ok form_ok
  visit_unused above low = simp u

  pub first_unused : first_of h ws i ≡ Damaged
  unfolding first_of form_ok
  first_unused = simp u

-- ---- from what a visit came to, whether the node passes

module _ (h : Header) (ws : List ℕ) (i above low : ℕ) where
  pub came_through : (x : Node) → (visit_of h ws i above low ≡ Inner x) ⊎ (visit_of h ws i above low ≡ Leaf x) → node_ok h ws i above low ≡ true
  unfolding visit_of
  came_through x e = go (node_ok h ws i above low) (eqb (node_of ws i).value.0 0) e
    where
      go : (a b : Bool) → (cond a (cond b (Inner (node_of ws i)) (Leaf (node_of ws i))) Damaged ≡ Inner x) ⊎ (cond a (cond b (Inner (node_of ws i)) (Leaf (node_of ws i))) Damaged ≡ Leaf x) → a ≡ true
      go true b e = refl
      go false b (inl e) = let z : ◌≡◌ {A = ℕ} 0 1 = cc in absurd (omega arith)
      go false b (inr e) = let z : ◌≡◌ {A = ℕ} 0 1 = cc in absurd (omega arith)

  pub came_node : (x : Node) → (visit_of h ws i above low ≡ Inner x) ⊎ (visit_of h ws i above low ≡ Leaf x) → x ≡ node_of ws i
  unfolding visit_of
  came_node x e = go (node_ok h ws i above low) (eqb (node_of ws i).value.0 0) e
    where
      go : (a b : Bool) → (cond a (cond b (Inner (node_of ws i)) (Leaf (node_of ws i))) Damaged ≡ Inner x) ⊎ (cond a (cond b (Inner (node_of ws i)) (Leaf (node_of ws i))) Damaged ≡ Leaf x) → x ≡ node_of ws i
      go true true (inl e) = cc
      go true true (inr e) = let z : ◌≡◌ {A = ℕ} 0 1 = cc in absurd (omega arith)
      go true false (inl e) = let z : ◌≡◌ {A = ℕ} 0 1 = cc in absurd (omega arith)
      go true false (inr e) = cc
      go false b (inl e) = let z : ◌≡◌ {A = ℕ} 0 1 = cc in absurd (omega arith)
      go false b (inr e) = let z : ◌≡◌ {A = ℕ} 0 1 = cc in absurd (omega arith)

  pub came_inner : (x : Node) → visit_of h ws i above low ≡ Inner x → eqb x.value.0 0 ≡ true
  unfolding visit_of
  came_inner x e = go (node_ok h ws i above low) (eqb (node_of ws i).value.0 0) refl e
    where
      go : (a b : Bool) → eqb (node_of ws i).value.0 0 ≡ b → cond a (cond b (Inner (node_of ws i)) (Leaf (node_of ws i))) Damaged ≡ Inner x → eqb x.value.0 0 ≡ true
      go true true q e = let same : node_of ws i ≡ x = cc in rw (sym same) q
      go true false q e = let z : ◌≡◌ {A = ℕ} 0 1 = cc in absurd (omega arith)
      go false b q e = let z : ◌≡◌ {A = ℕ} 0 1 = cc in absurd (omega arith)

  pub came_leaf : (x : Node) → visit_of h ws i above low ≡ Leaf x → eqb x.value.0 0 ≡ false
  unfolding visit_of
  came_leaf x e = go (node_ok h ws i above low) (eqb (node_of ws i).value.0 0) refl e
    where
      go : (a b : Bool) → eqb (node_of ws i).value.0 0 ≡ b → cond a (cond b (Inner (node_of ws i)) (Leaf (node_of ws i))) Damaged ≡ Leaf x → eqb x.value.0 0 ≡ false
      go true false q e = let same : node_of ws i ≡ x = cc in rw (sym same) q
      go true true q e = let z : ◌≡◌ {A = ℕ} 0 1 = cc in absurd (omega arith)
      go false b q e = let z : ◌≡◌ {A = ℕ} 0 1 = cc in absurd (omega arith)

  pub came_damaged : visit_of h ws i above low ≡ Damaged → node_ok h ws i above low ≡ false
  unfolding visit_of
  came_damaged e = go (node_ok h ws i above low) (eqb (node_of ws i).value.0 0) e
    where
      go : (a b : Bool) → cond a (cond b (Inner (node_of ws i)) (Leaf (node_of ws i))) Damaged ≡ Damaged → a ≡ false
      go false b e = refl
      go true true e = let z : ◌≡◌ {A = ℕ} 0 1 = cc in absurd (omega arith)
      go true false e = let z : ◌≡◌ {A = ℕ} 0 1 = cc in absurd (omega arith)

-- ---- what a passed visited-node test tells of the prefix length

pub record Passed (low : ℕ) (x : Node) : Type 0 where
  pub rises : low ≤ x.prefix
  pub small : x.prefix ≤ 128
  pub inner : x.value.0 ≡ 0 → x.prefix < 128

leaf_passed : (h : Header) (low : ℕ) (x : Node) → low ≤ x.prefix → is_leaf h x ≡ true → Passed low x
leaf_passed h low x l e =
    let p : x.prefix ≡ 128 = eqb-true x.prefix 128 (search (and_l, and_r) depth 8) in
    let v : 1 ≤ x.value.0 = leb-true 1 x.value.0 (search (and_l, and_r) depth 8) in
    record { rises = l; small = omega arith; inner = λ z. omega arith }

fork_passed : (low : ℕ) (x : Node) → low ≤ x.prefix → is_fork x ≡ true → Passed low x
fork_passed low x l e =
    let p : x.prefix < 128 = ltb-true x.prefix 128 (search (and_l, and_r) depth 8) in
    record { rises = l; small = omega arith; inner = λ z. p }

pub passed : (h : Header) (ws : List ℕ) (i above low : ℕ) → node_ok h ws i above low ≡ true → Passed low (node_of ws i)
unfolding node_ok form_ok
passed h ws i above low e =
    let l : low ≤ (node_of ws i).prefix = leb-true low (node_of ws i).prefix (search (and_l, and_r)) in
    ⊎_elim (leaf_passed h low (node_of ws i) l) (fork_passed low (node_of ws i) l) (or_cases (is_leaf h (node_of ws i)) (is_fork (node_of ws i)) (search (and_l, and_r) depth 8))

-- an inner node that a visit gives has a next bit, and one that a listing pops too
pub visit_passed : (h : Header) (ws : List ℕ) (i above low : ℕ) (x : Node) → visit_of h ws i above low ≡ Inner x → (low ≤ x.prefix) × (x.prefix < 128)
visit_passed h ws i above low x e =
    let same = came_node h ws i above low x (inl e) in
    let p = passed h ws i above low (came_through h ws i above low x (inl e)) in
    (rw same p.rises, rw same (p.inner (eqb-true (node_of ws i).value.0 0 (rw (sym same) (came_inner h ws i above low x e)))))

own_ok : (h : Header) (ws : List ℕ) (i : ℕ) → form_ok h ws i ≡ true → node_ok h ws i (node_of ws i).parent.0 0 ≡ true
unfolding node_ok
own_ok h ws i e = rw (e, eq-eqb (node_of ws i).parent.0 (node_of ws i).parent.0 refl) (le-leb 0 (node_of ws i).prefix (omega arith))

pub first_passed : (h : Header) (ws : List ℕ) (i : ℕ) (x : Node) → first_of h ws i ≡ Inner x → x.prefix < 128
unfolding first_of
first_passed h ws i x e = go (form_ok h ws i) (eqb (node_of ws i).value.0 0) refl refl e
  where
    go : (a b : Bool) → form_ok h ws i ≡ a → eqb (node_of ws i).value.0 0 ≡ b → cond a (cond b (Inner (node_of ws i)) (Leaf (node_of ws i))) Damaged ≡ Inner x → x.prefix < 128
    go false b t q d = let z : ◌≡◌ {A = ℕ} 0 1 = cc in absurd (omega arith)
    go true false t q d = let z : ◌≡◌ {A = ℕ} 0 1 = cc in absurd (omega arith)
    go true true t q d =
        let same : node_of ws i ≡ x = cc in
        rw (sym same) ((passed h ws i (node_of ws i).parent.0 0 (own_ok h ws i t)).inner (eqb-true (node_of ws i).value.0 0 q))
