-- "Local is global": if each child's key shares its parent's p bits and has the side's bit, every leaf below does, and the other
-- way round. And the walk's test of a side is the rule.
use Rattle.std.specs.Prelude.{◌≡◌, refl, Bool, true, false, ◌&&◌, ℕ, zero, suc, ◌+◌, ◌-◌, ◌≤◌, ◌<◌, eqb, leb}
use Rattle.std.proofs.Common.{sym, ◌∙◌, ⊎_elim, arith, leb-true, le-leb, eqb-true, ne_eqb}
use Rattle.std.specs.Bool.{beq}
use Rattle.words.specs.Tests.{and_l, and_r, or_cases, beq_equal, beq_itself}
use Rattle.keys.specs.declared.Key.{Key}
use Rattle.keys.specs.Number.{number_of}
use Rattle.keys.specs.Common.{common, bit_of}
use Rattle.records.specs.declared.Node.{Node}
use Rattle.trees.specs.Keys.{shared, bit, turn, ultra, agree}
use Rattle.trees.specs.Tree.{Tree, leaf, inner, key_of, prefix_of, Each, each_map, first, each_first, Side, Ordered}
use Rattle.full_check.specs.Walk.{side_ok}

-- ---- keys that share more than p bits are on the same side at p

side_moves : (k : Key) (p : ℕ) (b : Bool) (a c : Key) → p < shared a c → Side k p b a → Side k p b c
side_moves k p b a c l s = record { shares = omega (arith, s.shares, ultra k a c); turns = sym (agree a c l) ∙ s.turns }

-- what holds of the top's key holds of every leaf
pub side_down : (k : Key) (p : ℕ) (b : Bool) (t : Tree) → p < prefix_of t → Ordered t → Side k p b (key_of t) → Each (Side k p b) t
side_down k p b (leaf i a v) l o s = s
side_down k p b (inner i a q x y) l o s =
    (each_map (moves false) x o.left, each_map (moves true) y o.right)
  where
    moves : (side : Bool) (c : Key) → Side a q side c → Side k p b c
    moves side c h = side_moves k p b a c (omega (arith, l, h.shares)) s

-- what holds of every leaf holds of the top's key
pub side_up : (k : Key) (p : ℕ) (b : Bool) (t : Tree) → p < prefix_of t → Ordered t → Each (Side k p b) t → Side k p b (key_of t)
side_up k p b (leaf i a v) l o s = s
side_up k p b (inner i a q x y) l o s =
    side_moves k p b (first x) a (omega (arith, l, turn a (first x), (each_first (Side a q false) x o.left).shares))
    (each_first (Side k p b) x s.0)

-- ---- the test: `low` is one more than the prefix length above, and 0 at the root

abbrev pub OnSide : ℕ → Key → Bool → Key → Type 0
OnSide low k b a = (p : ℕ) → low ≡ p + 1 → Side k p b a

pub side_rules : (low : ℕ) (k : Key) (b : Bool) (x : Node) → side_ok low k b x ≡ true → OnSide low k b x.key
unfolding side_ok
side_rules low k b x e p z = ⊎_elim (λ (y : eqb low 0 ≡ true). absurd (omega (arith, eqb-true low 0 y))) tested (or_cases (eqb low 0) _ e)
  where
    less : low - 1 ≡ p
    less = omega arith

    tested : leb (low - 1) (common (number_of k) (number_of x.key)) && beq (bit_of (number_of x.key) (low - 1)) b ≡ true
        → Side k p b x.key
    tested y =
        let near : low - 1 ≤ shared k x.key = leb-true (low - 1) (shared k x.key) (search and_l) in
        let turned : bit x.key (low - 1) ≡ b = beq_equal (bit x.key (low - 1)) b (search and_r) in
        record { shares = omega arith; turns = rw less at turned }

pub side_passes : (low : ℕ) (k : Key) (b : Bool) (x : Node) → OnSide low k b x.key → side_ok low k b x ≡ true
unfolding side_ok
side_passes zero k b x s = refl
side_passes (suc p) k b x s =
    let h : Side k p b x.key = s p (omega arith) in
    let less : suc p - 1 ≡ p = omega arith in
    rw (ne_eqb (suc p) 0 (λ z. omega arith), less, le-leb p (shared k x.key) h.shares, h.turns, beq_itself b)
