-- The descent by a key's bits alone. The smallest entry is where the bits of 0 lead, and the largest where those of 2^128 - 1 do.
use Rattle.std.specs.Prelude.{◌≡◌, List, ◌≢◌, ◌⊎◌, Bool, cond, ◌&&◌}
use Rattle.std.proofs.Math.Path.{refl}
use Rattle.std.proofs.Math.Logic.{inl, inr}
use Rattle.std.proofs.Common.{⊎_elim, arith, eq-or-lt_of_le, eqb-true}
use Rattle.std.proofs.Math.Bool.{true, false}
use Rattle.std.specs.Bool.{beq}
use Prim.Native.Nat.{ℕ, zero, suc, ◌+◌, ◌<◌}
use Rattle.std.proofs.Math.Dec.{eqb}
use Rattle.std.proofs.lemmas.Bool.{eqb-false}
use Rattle.words.specs.Tests.{and_l, and_r, beq_equal}
use Rattle.keys.specs.declared.Key.{Key}
use Rattle.keys.specs.Number.{number_of}
use Rattle.keys.specs.Common.{bit_of}
use Rattle.records.specs.declared.Header.{Header}
use Rattle.records.specs.declared.Node.{Node}
use Rattle.records.specs.declared.NodeIndex.{NodeIndex}
use Rattle.records.specs.Records.{node_of}
use Rattle.inspection.specs.Tests.{node_ok, root_ok}
use Rattle.descent.specs.declared.Stop.{Stop}
use Rattle.descent.specs.declared.Stop.TheVariants.{Leaf, Empty, Damaged}
use Rattle.std.specs.declared.ops.ControlFlow.TheVariants.{Break}
use Rattle.descent.specs.Descent.{Turn, down, is_inner, child_of, bits_turn, side_of, end_turn, turn_at, follow, descend, no_node, from_root, leaf_of, end_of}
use Rattle.inspection.specs.Visit.{passed}
use Rattle.descent.specs.Laws.{Turns, went_down}

pub bits_turns : (key : Key) → Turns (bits_turn key)
unfolding bits_turn
bits_turns key i x c p e =
    let d = went_down (is_inner x) _ _ _ _ _ e in
    (eqb-true x.value.0 0 d.0, d.1)

-- ---- a descent that compares no prefix parts nowhere: it comes to a leaf, or to a test that fails

pub data Reached : Stop → Type 0 where
  leaf : (i : NodeIndex) (x : Node) → Reached (Leaf i x)
  fails : Reached Damaged

-- a turn that halts at leaves alone
abbrev Unparted : (NodeIndex → Node → Turn) → Type 0
Unparted turn = (i : NodeIndex) (x : Node) → ((c : NodeIndex) × (p : ℕ) × (turn i x ≡ down c p)) ⊎ (turn i x ≡ Break (Leaf i x))

module _ (turn : NodeIndex → Node → Turn) (unparted : Unparted turn) (h : Header) (ws : List ℕ) where
  reaches : (fuel : ℕ) (i above : NodeIndex) (low : ℕ) → Reached (descend turn fuel h ws i above low)
  unfolding descend turn_at
  reaches zero i above low = fails
  reaches (suc fuel) i above low =
      go (node_ok h ws i.0 above.0 low) (unparted i (node_of ws i.0)) (λ c p. reaches fuel c i p)
    where
      go : (ok : Bool) → ((c : NodeIndex) × (p : ℕ) × (turn i (node_of ws i.0) ≡ down c p)) ⊎ (turn i (node_of ws i.0) ≡ Break (Leaf i (node_of ws i.0)))
          → ((c : NodeIndex) (p : ℕ) → Reached (descend turn fuel h ws c i p))
          → Reached (follow (λ c next. descend turn fuel h ws c i next) (cond ok (turn i (node_of ws i.0)) (Break Damaged)))
      go false t on = fails
      go true (inl (c, p, e)) on = rw e (on c p)
      go true (inr e) on = rw e (leaf i (node_of ws i.0))

  -- from the root: nothing is found exactly in an empty map
  reaches_root : ((h.values.size ≡ 0) × (from_root turn h ws ≡ Empty)) ⊎ ((h.values.size ≢ 0) × Reached (from_root turn h ws))
  unfolding from_root
  reaches_root = go (eqb h.values.size 0) refl (root_ok h ws)
    where
      go : (none : Bool) → eqb h.values.size 0 ≡ none → (ok : Bool)
          → ((h.values.size ≡ 0) × (cond none Empty (cond ok (descend turn 129 h ws h.root no_node 0) Damaged) ≡ Empty))
          ⊎ ((h.values.size ≢ 0) × Reached (cond none Empty (cond ok (descend turn 129 h ws h.root no_node 0) Damaged)))
      go true t ok = inl (eqb-true h.values.size 0 t, refl)
      go false t true = inr (eqb-false h.values.size 0 t, reaches 129 h.root no_node 0)
      go false t false = inr (eqb-false h.values.size 0 t, fails)

to_leaf : (inner : Bool) (c : NodeIndex) (p : ℕ) (s : Stop)
    → ((d : NodeIndex) × (q : ℕ) × (cond inner (down c p) (Break s) ≡ down d q)) ⊎ (cond inner (down c p) (Break s) ≡ Break s)
to_leaf true c p s = inl (c, p, refl)
to_leaf false c p s = inr refl

-- the way to an end is one of these
pub end_reaches : (h : Header) (ws : List ℕ) (right : Bool)
    → ((h.values.size ≡ 0) × (end_of h ws right ≡ Empty)) ⊎ ((h.values.size ≢ 0) × Reached (end_of h ws right))
unfolding end_turn
end_reaches h ws right = reaches_root (end_turn right) (λ i x. to_leaf (is_inner x) (side_of right x) (x.prefix + 1) (Leaf i x)) h ws

-- ---- the way to an end

-- every bit is the side's
abbrev pub all_bits : Bool → Key
all_bits false = record { high = 0; low = 0 }
all_bits true = record { high = 18446744073709551615; low = 18446744073709551615 }

-- the first n bits are
abbrev first : Bool → ℕ → Bool
first right zero = true
first right (suc n) = first right n && beq (bit_of (number_of (all_bits right)) n) right

among_first : (right : Bool) (n p : ℕ) → first right n ≡ true → p < n → bit_of (number_of (all_bits right)) p ≡ right
among_first right zero p e l = absurd (omega arith)
among_first right (suc n) p e l =
    ⊎_elim
    (λ (s : p ≡ n). rw s (beq_equal _ _ (and_r (first right n) _ e)))
    (λ (s : p < n). among_first right n p (and_l (first right n) _ e) s)
    (eq-or-lt_of_le (omega arith))

all_bits_lem : (right : Bool) (p : ℕ) → p < 128 → bit_of (number_of (all_bits right)) p ≡ right
unfolding number_of bit_of
all_bits_lem false p l = among_first false 128 p refl l
all_bits_lem true p l = among_first true 128 p refl l

module _ (right : Bool) (h : Header) (ws : List ℕ) where
  pub ends : (fuel : ℕ) (i above : NodeIndex) (low : ℕ) → descend (bits_turn (all_bits right)) fuel h ws i above low ≡ descend (end_turn right) fuel h ws i above low
  unfolding descend turn_at bits_turn end_turn child_of
  ends zero i above low = refl
  ends (suc fuel) i above low = go (node_ok h ws i.0 above.0 low) refl (is_inner (node_of ws i.0)) refl (ends fuel (side_of right (node_of ws i.0)) i ((node_of ws i.0).prefix + 1))
    where
      go : (ok : Bool) → node_ok h ws i.0 above.0 low ≡ ok → (inner : Bool) → is_inner (node_of ws i.0) ≡ inner
          → descend (bits_turn (all_bits right)) fuel h ws (side_of right (node_of ws i.0)) i ((node_of ws i.0).prefix + 1)
          ≡ descend (end_turn right) fuel h ws (side_of right (node_of ws i.0)) i ((node_of ws i.0).prefix + 1)
          → follow (λ c next. descend (bits_turn (all_bits right)) fuel h ws c i next)
          (cond ok (cond inner (down (cond (bit_of (number_of (all_bits right)) (node_of ws i.0).prefix) (node_of ws i.0).right (node_of ws i.0).left) ((node_of ws i.0).prefix + 1)) (Break (Leaf i (node_of ws i.0)))) (Break Damaged))
          ≡ follow (λ c next. descend (end_turn right) fuel h ws c i next)
          (cond ok (cond inner (down (side_of right (node_of ws i.0)) ((node_of ws i.0).prefix + 1)) (Break (Leaf i (node_of ws i.0)))) (Break Damaged))
      go false t inner v on = refl
      go true t false v on = refl
      go true t true v on =
          let p : (node_of ws i.0).prefix < 128 = (passed h ws i.0 above.0 low t).inner (eqb-true (node_of ws i.0).value.0 0 v) in
          rw (all_bits_lem right (node_of ws i.0).prefix p) on

  pub end_bits : leaf_of h ws (all_bits right) ≡ end_of h ws right
  unfolding from_root
  end_bits = rw (ends 129 h.root no_node 0)
