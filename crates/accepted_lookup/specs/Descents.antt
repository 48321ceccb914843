-- The descents over the words of an image that holds a tree are the tree's: lookup ends at the tree's `target`, and a descent that takes a side at each
-- inner node, as remove's and those to the ends do, at the leaf that the sides lead to.
use Rattle.std.specs.Prelude.{◌≡◌, refl, List, Bool, true, false, cond, eqb, leb}
use Rattle.std.proofs.Math.Path.{ap}
use Rattle.std.proofs.Common.{subst, inl, inr, arith}
use Rattle.std.proofs.Math.Option.{Option, none, some}
use Prim.Native.Nat.{ℕ, zero, suc, ◌+◌, ◌≤◌}
use borrow.Author.Tests.{lt-ltb, le-ltb, ne_eqb}
use Rattle.keys.specs.declared.Key.{Key}
use Rattle.keys.specs.Number.{number_of}
use Rattle.keys.specs.Common.{common}
use Rattle.records.specs.declared.Header.{Header}
use Rattle.records.specs.declared.Node.{Node}
use Rattle.records.specs.declared.NodeIndex.{NodeIndex}
use Rattle.records.specs.Records.{node_of, leaf_node}
use Rattle.descent.specs.declared.Stop.{Stop}
use Rattle.descent.specs.declared.Stop.TheVariants as stop
use Rattle.std.specs.declared.ops.ControlFlow.TheVariants.{Break}
use Rattle.descent.specs.Descent.{Turn, down, is_inner, child_of, lookup_turn, bits_turn, side_of, end_turn, turn_at, descend}
use Rattle.lists.specs.Entries.{same}
use Rattle.trees.specs.Keys.{shared, bit, Cmp, Bit, Same, test≤, testb, test_same, itself}
use Rattle.trees.specs.Tree.{Tree, leaf, inner, top, key_of}
use Rattle.trees.specs.Lookup.{lookup, reach, outermost}
use Rattle.trees.specs.Paths.{depth}
use Rattle.trees.specs.Changes.{target}
use Rattle.accepted.specs.Rules.{Holds}
use Rattle.accepted.specs.Held.{Clean, node_passes}

abbrev pub at : ℕ → NodeIndex
at i = record { 0 = i }

-- ---- lookup

-- the node of a leaf that it finds names the value record
pub found_value : (h : Header) (ws : List ℕ) (key : Key) (parent low : ℕ) (t : Tree) → Holds h ws parent low t
    → (e : ℕ × ℕ) → lookup key t ≡ some e → (node_of ws e.0).value.0 ≡ e.1
unfolding Holds
found_value h ws key parent low (leaf i a v) k e q = go (same key a) q
  where
    go : (b : Bool) → cond b (some (i, v)) none ≡ some e → (node_of ws e.0).value.0 ≡ e.1
    go true q =
        let same : (i, v) ≡ e = cc in
        subst (λ (y : ℕ × ℕ). (node_of ws y.0).value.0 ≡ y.1) same (ap (λ (x : Node). x.value.0) k.here)
    go false q = let z : ◌≡◌ {A = ℕ} 0 1 = cc in absurd (omega arith)
found_value h ws key parent low (inner i a p l r) k e q =
    go (leb p (shared key a)) (bit key p) (found_value h ws key i (p + 1) l k.on_left e) (found_value h ws key i (p + 1) r k.on_right e) q
  where
    go : (s b : Bool) → (lookup key l ≡ some e → (node_of ws e.0).value.0 ≡ e.1) → (lookup key r ≡ some e → (node_of ws e.0).value.0 ≡ e.1)
        → cond s (cond b (lookup key r) (lookup key l)) none ≡ some e → (node_of ws e.0).value.0 ≡ e.1
    go true true f g q = g q
    go true false f g q = f q
    go false b f g q = let z : ◌≡◌ {A = ℕ} 0 1 = cc in absurd (omega arith)

-- where it stops: at the leaf that is found, or at the node x where the key parts
unfoldable pub stop_from : List ℕ → Key → Tree → Option (ℕ × ℕ) → Stop
stop_from ws key x (some e) = stop.Leaf (at e.0) (node_of ws e.0)
stop_from ws key x none = stop.Parted (at (top x)) (node_of ws (top x)) (shared key (key_of x))

-- ---- descents by sides

-- the leaf that the sides lead to: its key, node and value record
abbrev pub landed : (ℕ → Bool) → Tree → Key × (ℕ × ℕ)
landed side (leaf i a v) = (a, (i, v))
landed side (inner i a p l r) = cond (side p) (landed side r) (landed side l)

pub reach_landed : (key : Key) (t : Tree) → reach key t ≡ cond (same key (landed (bit key) t).0) (some (landed (bit key) t).1) none
reach_landed key (leaf i a v) = refl
reach_landed key (inner i a p l r) = go (testb (bit key p)) (reach_landed key l) (reach_landed key r)
  where
    Agrees : Tree → Type 0
    Agrees t = reach key t ≡ cond (same key (landed (bit key) t).0) (some (landed (bit key) t).1) none

    go : Bit (bit key p) → Agrees l → Agrees r → Agrees (inner i a p l r)
    go (inl e) x y = rw e y
    go (inr e) x y = rw e x

pub outermost_landed : (b : Bool) (t : Tree) → landed (λ p. b) t ≡ outermost b t
outermost_landed b (leaf i a v) = refl
outermost_landed b (inner i a p l r) = rw (outermost_landed b l, outermost_landed b r)

-- its record
pub landed_node : (h : Header) (ws : List ℕ) (side : ℕ → Bool) (parent low : ℕ) (t : Tree) → Holds h ws parent low t
    → (above : ℕ) × (node_of ws (landed side t).1.0 ≡ leaf_node above (landed side t).0 (landed side t).1.1)
unfolding Holds
landed_node h ws side parent low (leaf i a v) k = (parent, k.here)
landed_node h ws side parent low (inner i a p l r) k =
    go (testb (side p)) (landed_node h ws side i (p + 1) l k.on_left) (landed_node h ws side i (p + 1) r k.on_right)
  where
    NodeAt : Tree → Type 0
    NodeAt t = (above : ℕ) × (node_of ws (landed side t).1.0 ≡ leaf_node above (landed side t).0 (landed side t).1.1)

    go : Bit (side p) → NodeAt l → NodeAt r → NodeAt (inner i a p l r)
    go (inl e) x y = rw e y
    go (inr e) x y = rw e x

-- a turn that takes a side at each inner node
abbrev pub Sided : (ℕ → Bool) → (NodeIndex → Node → Turn) → Type 0
Sided side turn = (i : NodeIndex) (x : Node) → turn i x ≡ cond (is_inner x) (down (side_of (side x.prefix) x) (x.prefix + 1)) (Break (stop.Leaf i x))

pub bits_sided : (key : Key) → Sided (bit key) (bits_turn key)
unfolding bits_turn child_of
bits_sided key i x = refl

pub end_sided : (right : Bool) → Sided (λ p. right) (end_turn right)
unfolding end_turn
end_sided right i x = refl

-- ---- over the words

module _ (h : Header) (ws : List ℕ) (clean : Clean h ws) where
  some_value : (v : ℕ) → 1 ≤ v → eqb v 0 ≡ false
  some_value v s = ne_eqb v 0 (λ e. omega arith)

  pub find_held : (key : Key) (fuel parent low : ℕ) (t : Tree) → depth t ≤ fuel → Holds h ws parent low t
      → descend (lookup_turn key) fuel h ws (at (top t)) (at parent) low ≡ stop_from ws key (target key t) (lookup key t)
  unfolding descend turn_at lookup_turn child_of stop_from Holds
  find_held key zero parent low (leaf i a v) d k = absurd (omega arith)
  find_held key zero parent low (inner i a p l r) d k = absurd (omega arith)
  find_held key (suc fuel) parent low (leaf i a v) d k = go (test_same key a)
    where
      go : Same key a → descend (lookup_turn key) (suc fuel) h ws (at i) (at parent) low ≡ stop_from ws key (leaf i a v) (lookup key (leaf i a v))
      go (inl s) =
          rw (node_passes h ws clean parent low (leaf i a v) k, s.1, k.here, le-ltb (shared key a) 128 (omega (arith, itself a, ap (λ (x : ℕ). common x (number_of a)) s.0)), some_value v k.value_some)
      go (inr s) = rw (node_passes h ws clean parent low (leaf i a v) k, s.1, k.here, lt-ltb (shared key a) 128 s.0)
  find_held key (suc fuel) parent low (inner i a p l r) d k =
      go (test≤ p (shared key a)) (testb (bit key p)) (find_held key fuel i (p + 1) l (omega arith) k.on_left) (find_held key fuel i (p + 1) r (omega arith) k.on_right)
    where
      go : Cmp p (shared key a) → Bit (bit key p)
          → descend (lookup_turn key) fuel h ws (at (top l)) (at i) (p + 1) ≡ stop_from ws key (target key l) (lookup key l)
          → descend (lookup_turn key) fuel h ws (at (top r)) (at i) (p + 1) ≡ stop_from ws key (target key r) (lookup key r)
          → descend (lookup_turn key) (suc fuel) h ws (at i) (at parent) low ≡ stop_from ws key (target key (inner i a p l r)) (lookup key (inner i a p l r))
      go (inl s) (inl e) x y = rw (node_passes h ws clean parent low (inner i a p l r) k, k.here, s.1, le-ltb (shared key a) p s.0, e) y
      go (inl s) (inr e) x y = rw (node_passes h ws clean parent low (inner i a p l r) k, k.here, s.1, le-ltb (shared key a) p s.0, e) x
      go (inr s) b x y = rw (node_passes h ws clean parent low (inner i a p l r) k, s.1, k.here, lt-ltb (shared key a) p s.0)

  -- a descent by sides ends at the leaf that they lead to
  pub sides_held : (turn : NodeIndex → Node → Turn) (side : ℕ → Bool) → Sided side turn → (fuel parent low : ℕ) (t : Tree) → depth t ≤ fuel → Holds h ws parent low t
      → descend turn fuel h ws (at (top t)) (at parent) low ≡ stop.Leaf (at (landed side t).1.0) (node_of ws (landed side t).1.0)
  unfolding descend turn_at Holds
  sides_held turn side s zero parent low (leaf i a v) d k = absurd (omega arith)
  sides_held turn side s zero parent low (inner i a p l r) d k = absurd (omega arith)
  sides_held turn side s (suc fuel) parent low (leaf i a v) d k =
      rw (node_passes h ws clean parent low (leaf i a v) k, s (at i) (node_of ws i), k.here, some_value v k.value_some)
  sides_held turn side s (suc fuel) parent low (inner i a p l r) d k =
      go (testb (side p)) (sides_held turn side s fuel i (p + 1) l (omega arith) k.on_left) (sides_held turn side s fuel i (p + 1) r (omega arith) k.on_right)
    where
      EndsAt : ℕ → NodeIndex → ℕ → Tree → Tree → Type 0
      EndsAt f above least u t = descend turn f h ws (at (top u)) above least ≡ stop.Leaf (at (landed side t).1.0) (node_of ws (landed side t).1.0)

      go : Bit (side p) → EndsAt fuel (at i) (p + 1) l l → EndsAt fuel (at i) (p + 1) r r → EndsAt (suc fuel) (at parent) low (inner i a p l r) (inner i a p l r)
      go (inl e) x y = rw (node_passes h ws clean parent low (inner i a p l r) k, s (at i) (node_of ws i), k.here, e) y
      go (inr e) x y = rw (node_passes h ws clean parent low (inner i a p l r) k, s (at i) (node_of ws i), k.here, e) x
