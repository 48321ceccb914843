-- Where the words of an arena stand to each other: the header before the records, no two records at one place, and all of them inside the image. What goes by cases
-- on the two arenas stands here alone; the laws of the steps are stated once over both.
use Rattle.std.specs.Prelude.{◌≡◌, ◌≢◌, true, ℕ, ◌+◌, ◌≤◌, ◌<◌, leb}
use Rattle.std.proofs.Common.{arith, leb-true, le-leb}
use Rattle.words.specs.Tests.{and_l, and_r}
use Rattle.node_allocator.specs.declared.Arena.{Arena}
use Rattle.node_allocator.specs.declared.Arena.TheVariants.{Nodes, Values}
use Rattle.node_allocator.specs.declared.Register.{Register}
use Rattle.node_allocator.specs.declared.Register.TheVariants.{Left, Right, Parent, Value}
use Rattle.node_allocator.specs.Layout.{header_at, record_at, capacity_of, width_of, register_of, inside}

-- an index that names a record
pub record Inside (a : Arena) (i : ℕ) : Type 0 where
  pub low : 1 ≤ i
  pub high : i ≤ capacity_of a

pub is_inside : (a : Arena) (i : ℕ) → inside a i ≡ true → Inside a i
is_inside a i e =
    record { low = leb-true 1 i (and_l _ (leb i (capacity_of a)) e); high = leb-true i (capacity_of a) (and_r (leb 1 i) _ e) }

pub inside_is : {a : Arena} {i : ℕ} → Inside a i → inside a i ≡ true
inside_is {a} {i} h = rw (le-leb 1 i h.low, le-leb i (capacity_of a) h.high)

-- the arena lies in an image of so many words
pub record Lies (a : Arena) (words : ℕ) : Type 0 where
  pub room : record_at a (capacity_of a + 1) ≤ words

-- ---- the header and the records

pub register_small : (f : Register) → register_of f < 4
register_small Left = omega arith
register_small Right = omega arith
register_small Parent = omega arith
register_small Value = omega arith

pub width_some : (a : Arena) → 4 < width_of a
unfolding width_of
width_some (Nodes n) = omega arith
width_some (Values n m) = omega arith

-- a record stands past the header
pub past_header : (a : Arena) (i : ℕ) → 1 ≤ i → header_at a + 4 ≤ record_at a i
unfolding header_at record_at
past_header (Nodes n) i h = omega arith
past_header (Values n m) i h = omega arith

-- the next record begins where this one ends
pub next_record : (a : Arena) (i : ℕ) → 1 ≤ i → record_at a (i + 1) ≡ record_at a i + width_of a
unfolding record_at width_of
next_record (Nodes n) i h = omega arith
next_record (Values n m) i h = omega arith

pub record_order : (a : Arena) (i j : ℕ) → 1 ≤ i → i < j → record_at a i + width_of a ≤ record_at a j
unfolding record_at width_of
record_order (Nodes n) i j h l = omega arith
record_order (Values n m) i j h l = omega arith

-- a word of a record lies in the image
pub within : {a : Arena} {words i : ℕ} (r : ℕ) → Lies a words → Inside a i → r < width_of a → record_at a i + r < words
within {a} {words} {i} r l h s =
    omega (arith, l.room, record_order a i (capacity_of a + 1) h.low (omega (arith, h.high)))

pub header_within : {a : Arena} {words : ℕ} → Lies a words → header_at a + 4 ≤ words
header_within {a} {words} l = omega (arith, l.room, past_header a (capacity_of a + 1) (omega arith))

-- words of different records stand apart
pub apart : (a : Arena) (i j r s : ℕ) → 1 ≤ i → 1 ≤ j → i ≢ j → r < width_of a → s < width_of a → record_at a i + r ≢ record_at a j + s
unfolding record_at width_of
apart (Nodes n) i j r s h k d x y e = d (omega arith)
apart (Values n m) i j r s h k d x y e = d (omega arith)
