-- What the loops go by: a step down raises the least prefix length, so that a descent ends within 129 nodes, and what is left of a descent after a step is what was left before it.
-- One proof for every turn.
use Rattle.std.specs.Prelude.{◌≡◌, List, Bool, ◌⊎◌, ltb}
use Rattle.std.proofs.Math.Path.{refl, sym}
use Rattle.std.proofs.Common.{ap, subst, ◌∙◌, inl, inr, arith, eqb-true}
use Rattle.std.proofs.Math.Bool.{true, false, cond}
use Prim.Native.Nat.{ℕ, zero, suc, ◌+◌, ◌≤◌, ◌<◌}
use Rattle.keys.specs.declared.Key.{Key}
use Rattle.keys.specs.Number.{number_of}
use Rattle.keys.specs.declared.Way.TheVariants.{Parts}
use Rattle.keys.specs.Ways.{way_to, way_of, way_parts, way_side}
use Rattle.records.specs.declared.Header.{Header}
use Rattle.records.specs.declared.Node.{Node}
use Rattle.records.specs.declared.NodeIndex.{NodeIndex}
use Rattle.records.specs.Records.{node_of}
use Rattle.inspection.specs.Tests.{node_ok}
use Rattle.inspection.specs.declared.Visited.TheVariants.{Inner}
use Rattle.inspection.specs.declared.Visited.TheVariants as visited
use Rattle.inspection.specs.Visit.{visit_of, came_through, came_node, came_inner, came_leaf, came_damaged, passed}
use Rattle.descent.specs.declared.Stop.{Stop}
use Rattle.descent.specs.declared.Stop.TheVariants.{Parted, Damaged}
use Rattle.std.specs.declared.ops.ControlFlow.TheVariants.{Break}
use Rattle.descent.specs.Descent.{Turn, down, is_inner, child_of, side_of, shared_with, lookup_turn, turn_at, follow, descend}

-- ---- a turn goes down from an inner node alone, and to the next longer prefix

abbrev pub Turns : (NodeIndex → Node → Turn) → Type 0
Turns turn = (i : NodeIndex) (x : Node) (c : NodeIndex) (p : ℕ) → turn i x ≡ down c p → (x.value.0 ≡ 0) × (x.prefix + 1 ≡ p)

never_down : {s : Stop} {c : NodeIndex} {p : ℕ} → Break s ≡ down c p → ⊥
never_down e = let z : ◌≡◌ {A = ℕ} 0 1 = cc in omega arith

pub went_down : (inner : Bool) (c₀ c : NodeIndex) (p₀ p : ℕ) (s : Stop) → cond inner (down c₀ p₀) (Break s) ≡ down c p → (inner ≡ true) × (p₀ ≡ p)
went_down true c₀ c p₀ p s e = let same : ◌≡◌ {A = NodeIndex × ℕ} (c₀, p₀) (c, p) = cc in (refl, ap (λ (q : NodeIndex × ℕ). q.1) same)
went_down false c₀ c p₀ p s e = absurd (never_down e)

past_test : (b : Bool) (s : Stop) (t : Turn) (c : NodeIndex) (p : ℕ) → cond b (Break s) t ≡ down c p → t ≡ down c p
past_test true s t c p e = absurd (never_down e)
past_test false s t c p e = e

pub lookup_turns : (key : Key) → Turns (lookup_turn key)
unfolding lookup_turn
lookup_turns key i x c p e =
    let d = went_down (is_inner x) _ _ _ _ _ (past_test (ltb (shared_with key x) x.prefix) _ _ c p e) in
    (eqb-true x.value.0 0 d.0, d.1)

-- ---- a step of any descent

module _ (turn : NodeIndex → Node → Turn) (turns : Turns turn) (h : Header) (ws : List ℕ) (i above : NodeIndex) (low : ℕ) where
  -- it goes to a longer prefix, at most 128
  pub rises : (c : NodeIndex) (p : ℕ) → turn_at turn h ws i above low ≡ down c p → (low < p) × (p ≤ 128)
  unfolding turn_at
  rises c p e = go (node_ok h ws i.0 above.0 low) refl e
    where
      go : (b : Bool) → node_ok h ws i.0 above.0 low ≡ b → cond b (turn i (node_of ws i.0)) (Break Damaged) ≡ down c p → (low < p) × (p ≤ 128)
      go false t d = absurd (never_down d)
      go true t d =
          let k = passed h ws i.0 above.0 low t in
          let q = turns i (node_of ws i.0) c p d in
          omega (arith, k.rises, k.inner q.0, q.1)

  module _ (whole : Stop) (fuel : ℕ) (enough : 129 ≤ fuel + low) (small : low ≤ 128) (rest : descend turn fuel h ws i above low ≡ whole) where
    pub again : (c : NodeIndex) (p : ℕ) → turn_at turn h ws i above low ≡ down c p
        → (f : ℕ) × (129 ≤ f + p) × (descend turn f h ws c i p ≡ whole)
    unfolding descend
    again c p e = go fuel enough rest
      where
        go : (f : ℕ) → 129 ≤ f + low → descend turn f h ws i above low ≡ whole → (g : ℕ) × (129 ≤ g + p) × (descend turn g h ws c i p ≡ whole)
        go zero n r = absurd (omega arith)
        go (suc g) n r = (g, omega (arith, rises c p e), sym (ap (follow (λ d next. descend turn g h ws d i next)) e) ∙ r)

    pub halts : (s : Stop) → turn_at turn h ws i above low ≡ Break s → s ≡ whole
    unfolding descend
    halts s e = go fuel enough rest
      where
        go : (f : ℕ) → 129 ≤ f + low → descend turn f h ws i above low ≡ whole → s ≡ whole
        go zero n r = absurd (omega arith)
        go (suc g) n r = sym (ap (follow (λ d next. descend turn g h ws d i next)) e) ∙ r

-- ---- a turn by what a visit came to

module _ (turn : NodeIndex → Node → Turn) (h : Header) (ws : List ℕ) (i above : NodeIndex) (low : ℕ) where
  at_node : (x : Node) → (visit_of h ws i.0 above.0 low ≡ Inner x) ⊎ (visit_of h ws i.0 above.0 low ≡ visited.Leaf x) → turn_at turn h ws i above low ≡ turn i x
  unfolding turn_at
  at_node x e = rw (came_through h ws i.0 above.0 low x e, came_node h ws i.0 above.0 low x e)

  pub turn_inner : (x : Node) → visit_of h ws i.0 above.0 low ≡ Inner x → (turn_at turn h ws i above low ≡ turn i x) × (is_inner x ≡ true) × (x.prefix < 128)
  turn_inner x e =
      let kind = came_inner h ws i.0 above.0 low x e in
      let same = came_node h ws i.0 above.0 low x (inl e) in
      let short = (passed h ws i.0 above.0 low (came_through h ws i.0 above.0 low x (inl e))).inner in
      (at_node x (inl e), kind, subst (λ (y : Node). y.value.0 ≡ 0 → y.prefix < 128) (sym same) short (eqb-true x.value.0 0 kind))

  pub turn_leaf : (x : Node) → visit_of h ws i.0 above.0 low ≡ visited.Leaf x → (turn_at turn h ws i above low ≡ turn i x) × (is_inner x ≡ false)
  turn_leaf x e = (at_node x (inr e), came_leaf h ws i.0 above.0 low x e)

  pub turn_damaged : visit_of h ws i.0 above.0 low ≡ visited.Damaged → turn_at turn h ws i above low ≡ Break Damaged
  unfolding turn_at
  turn_damaged e = rw (came_damaged h ws i.0 above.0 low e)

-- A lookup's turn at an inner node, by the way that the key goes at its prefix.
module _ (key : Key) (h : Header) (ws : List ℕ) (i above : NodeIndex) (low : ℕ) (x : Node) (e : visit_of h ws i.0 above.0 low ≡ Inner x) where
  abbrev found : (turn_at (lookup_turn key) h ws i above low ≡ lookup_turn key i x) × (is_inner x ≡ true) × (x.prefix < 128)
  found = turn_inner (lookup_turn key) h ws i above low x e

  pub turn_side : (one : Bool) → way_of (number_of key) (number_of x.key) x.prefix ≡ way_to one
      → turn_at (lookup_turn key) h ws i above low ≡ down (side_of one x) (x.prefix + 1)
  unfolding lookup_turn child_of
  turn_side one q =
      let way = way_side (number_of key) (number_of x.key) x.prefix one q in
      found.0 ∙ rw (way.0, found.1, way.1)

  pub turn_parts : way_of (number_of key) (number_of x.key) x.prefix ≡ Parts → turn_at (lookup_turn key) h ws i above low ≡ Break (Parted i x (shared_with key x))
  unfolding lookup_turn
  turn_parts q = found.0 ∙ rw (way_parts (number_of key) (number_of x.key) x.prefix q)
