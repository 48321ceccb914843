-- The stacks of a listing. A stack holds subtrees that hang off one path, and prefix lengths rise along it, so "two stacks of at most 129 node indexes"
-- (the rules L) are enough at every moment, also between the two pushes of an inner node and the pop that follows, in every order of the steps.
use Rattle.std.specs.Prelude.{◌≡◌, refl, Bool, true, false, cond, List, [], ◌∷◌, ◌++◌, ℕ, ◌≤◌, ◌<◌, length}
use Rattle.std.proofs.Math.Option.{none, some}
use Rattle.std.proofs.Common.{arith}
use Rattle.keys.specs.declared.Key.{Key}
use Rattle.lists.specs.Lists.{All}
use Rattle.lists.specs.Entries.{list_end}
use Rattle.trees.specs.Ends.{end_beside}
use Rattle.trees.specs.Tree.{Tree, leaf, inner, prefix_of, Ordered, prefix_low}
use Rattle.trees.specs.Map.{Map, OrderedMap}
use Rattle.trees.specs.Walk.{Position, start, popped, end_at, step}

-- ---- the moments

-- the stacks that a side's stack turns to when t is popped from it: after the two pushes of each inner node, and when the leaf is popped
abbrev pub passed : Bool → Tree → List Tree → List (List Tree)
passed b (leaf i k v) s = s ∷ []
passed false (inner i k p l r) s = (l ∷ r ∷ s) ∷ passed false l (r ∷ s)
passed true (inner i k p l r) s = (r ∷ l ∷ s) ∷ passed true r (l ∷ s)

-- the last of them is the stack that the step leaves
pub passed_last : (b : Bool) (t : Tree) (s : List Tree) → list_end true (passed b t s) ≡ some (popped b t s).1
passed_last b (leaf i k v) s = refl
passed_last false (inner i k p l r) s = end_beside true (passed false l (r ∷ s)) ((l ∷ r ∷ s) ∷ []) (passed_last false l (r ∷ s))
passed_last true (inner i k p l r) s = end_beside true (passed true r (l ∷ s)) ((r ∷ l ∷ s) ∷ []) (passed_last true r (l ∷ s))

abbrev pub passed_in : Bool → List Tree → List (List Tree)
passed_in b [] = []
passed_in b (t ∷ s) = passed b t s

-- those of a step
abbrev pub during : Bool → Position → List (List Tree)
during b w = cond w.ended [] (passed_in b (end_at b w).stack)

-- and of a run of steps: both stacks before and after each step, and those that the step passes through
abbrev pub moments : Position → List Bool → List (List Tree)
moments w [] = w.front.stack ∷ w.back.stack ∷ []
moments w (b ∷ bs) = w.front.stack ∷ w.back.stack ∷ (during b w ++ moments (step b w).1 bs)

-- ---- what stays so on the stacks

abbrev pub Both : (List Tree → Type 0) → Position → Type 0
Both Q w = Q w.front.stack × Q w.back.stack

-- what holds of a tree, and of the children of each node of which it holds, holds of every subtree on a stack
pub popped_all : (P : Tree → Type 0) → ((i : ℕ) (k : Key) (p : ℕ) (l r : Tree) → P (inner i k p l r) → P l × P r)
    → (b : Bool) (t : Tree) (s : List Tree) → All P (t ∷ s) → All P (popped b t s).1
popped_all P c b (leaf i k v) s h = h.1
popped_all P c false (inner i k p l r) s h = let g = c i k p l r h.0 in popped_all P c false l (r ∷ s) (g.0, (g.1, h.1))
popped_all P c true (inner i k p l r) s h = let g = c i k p l r h.0 in popped_all P c true r (l ∷ s) (g.1, (g.0, h.1))

-- ---- subtrees that hang off one path

-- each below a node whose prefix length is less than at the one above it in the stack, and less than m at the top
abbrev pub Hang : ℕ → List Tree → Type 0
Hang m [] = Unit {0}
Hang m (t ∷ s) = (p : ℕ) × (p < m) × (p < prefix_of t) × Ordered t × Hang p s

pub hang_length : (m : ℕ) (s : List Tree) → Hang m s → length s ≤ m
hang_length m [] h = omega arith
hang_length m (t ∷ s) (p, l, q, o, h) = omega (arith, hang_length p s h)

-- t may be popped from above s
pub record Above (t : Tree) (s : List Tree) : Type 0 where
  pub order : Ordered t
  pub least : ℕ
  pub rises : least ≤ prefix_of t
  pub hangs : Hang least s

abbrev pub Perched : List Tree → Type 0
Perched [] = Unit {0}
Perched (t ∷ s) = Above t s

pub perched_length : (s : List Tree) → Perched s → length s ≤ 129
perched_length [] h = omega arith
perched_length (t ∷ s) h = omega (arith, hang_length h.least s h.hangs, h.rises, prefix_low t h.order)

-- ---- the bound

abbrev pub Small : List Tree → Type 0
Small s = length s ≤ 129

abbrev pub Within : Position → Type 0
Within w = Both Perched w

pub start_within : (m : Map) → OrderedMap m → Within (start m)
start_within none o = (tt, tt)
start_within (some t) o = (alone, alone)
  where
    alone : Above t []
    alone = record { order = o; least = 0; rises = omega arith; hangs = tt }
