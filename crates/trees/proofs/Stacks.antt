-- The bound on the stacks of a listing.
use Rattle.std.specs.Prelude.{Bool, true, false, List, [], ◌∷◌, ℕ, suc, ◌≤◌, ◌<◌, eqb, length}
use Rattle.std.proofs.Math.Option.{none}
use Rattle.std.proofs.Common.{arith}
use Rattle.keys.specs.declared.Key.{Key}
use Rattle.lists.specs.Lists.{All, all_append}
use Rattle.trees.specs.Keys.{chosen}
use Rattle.trees.specs.Tree.{Tree, leaf, inner, prefix_of, Ordered}
use Rattle.trees.specs.Paths.{rising}
use Rattle.trees.specs.Map.{Map, OrderedMap}
use Rattle.trees.specs.Walk.{Position, start, popped, gives, meets, next, end_at, move, step}
use Rattle.trees.specs.Stacks.{passed, passed_in, during, moments, Both, Hang, hang_length, Above, Perched, perched_length, Small, Within, start_within}

-- what a pop keeps of a stack, a step keeps of both
module _ (Q : List Tree → Type 0) (kept : (b : Bool) (t : Tree) (s : List Tree) → Q (t ∷ s) → Q (popped b t s).1) where
  next_keeps : (b : Bool) (s : List Tree) (last other : ℕ) → Q s → Q (next b s last other).1.stack
  next_keeps b [] last other h = h
  next_keeps b (t ∷ s) last other h =
      let x = popped b t s in
      let left = kept b t s h in
      chosen (λ r. Q r.1.stack) (eqb x.0.1 other) (meets x last) (gives x) left left

  move_keeps : (b : Bool) (w : Position) → Both Q w → Both Q (move b w).1
  move_keeps false w h = (next_keeps false w.front.stack w.front.last w.back.last h.0, h.1)
  move_keeps true w h = (h.0, next_keeps true w.back.stack w.back.last w.front.last h.1)

  pub step_keeps : (b : Bool) (w : Position) → Both Q w → Both Q (step b w).1
  step_keeps b w h = chosen (λ z. Both Q z.1) w.ended (none, w) (move b w) h (move_keeps b w h)

hang_more : (m n : ℕ) (s : List Tree) → m ≤ n → Hang m s → Hang n s
hang_more m n [] l h = tt
hang_more m n (t ∷ s) l (p, k, q, o, h) = (p, omega arith, q, o, h)

perched : (m : ℕ) (s : List Tree) → Hang m s → Perched s
perched m [] h = tt
perched m (t ∷ s) (p, l, q, o, h) = record { order = o; least = p; rises = omega arith; hangs = h }

-- an inner node is replaced by its children, either of them on top: the other one hangs at the node's prefix length
children : (i : ℕ) (k : Key) (p : ℕ) (l r : Tree) (s : List Tree) → Above (inner i k p l r) s → Above l (r ∷ s) × Above r (l ∷ s)
children i k p l r s h = (pushed l r o.on_left o.on_right on_left on_right, pushed r l o.on_right o.on_left on_right on_left)
  where
    o : Ordered (inner i k p l r)
    o = h.order

    on_left : p < prefix_of l
    on_left = rising k false l o.low o.left o.on_left

    on_right : p < prefix_of r
    on_right = rising k true r o.low o.right o.on_right

    pushed : (near far : Tree) → Ordered near → Ordered far → p < prefix_of near → p < prefix_of far → Above near (far ∷ s)
    pushed near far x y q z = record { order = x; least = suc p; rises = q; hangs = (p, omega arith, z, y, hang_more h.least p s h.rises h.hangs) }

passed_small : (b : Bool) (t : Tree) (s : List Tree) → Above t s → All Small (passed b t s) × Perched (popped b t s).1
passed_small b (leaf i k v) s h = ((omega (arith, hang_length h.least s h.hangs, h.rises), tt), perched h.least s h.hangs)
passed_small false (inner i k p l r) s h =
    let a = (children i k p l r s h).0 in
    let z = passed_small false l (r ∷ s) a in
    ((perched_length (l ∷ r ∷ s) a, z.0), z.1)
passed_small true (inner i k p l r) s h =
    let a = (children i k p l r s h).1 in
    let z = passed_small true r (l ∷ s) a in
    ((perched_length (r ∷ l ∷ s) a, z.0), z.1)

passed_in_small : (b : Bool) (s : List Tree) → Perched s → All Small (passed_in b s)
passed_in_small b [] h = tt
passed_in_small b (t ∷ s) h = (passed_small b t s h).0

pub step_within : (b : Bool) (w : Position) → Within w → Within (step b w).1
step_within b w h = step_keeps Perched (λ b t s p. (passed_small b t s p).1) b w h

pub during_small : (b : Bool) (w : Position) → Within w → All Small (during b w)
during_small b w h = chosen (All Small) w.ended [] (passed_in b (end_at b w).stack) tt (passed_in_small b (end_at b w).stack (near b))
  where
    near : (b : Bool) → Perched (end_at b w).stack
    near false = h.0
    near true = h.1

moments_small : (w : Position) (sides : List Bool) → Within w → All Small (moments w sides)
moments_small w [] h = (perched_length w.front.stack h.0, (perched_length w.back.stack h.1, tt))
moments_small w (b ∷ sides) h = (
  perched_length w.front.stack h.0,
  (
    perched_length w.back.stack h.1,
    all_append Small (during b w) (moments (step b w).1 sides) (during_small b w h) (moments_small (step b w).1 sides (step_within b w h)),
  ),
)

-- At every moment of a listing, in every order of its steps, no stack holds more than 129 subtrees.
pub stacks_bound : (m : Map) → OrderedMap m → (sides : List Bool) → All (λ s. length s ≤ 129) (moments (start m) sides)
stacks_bound m o sides = moments_small (start m) sides (start_within m o)
