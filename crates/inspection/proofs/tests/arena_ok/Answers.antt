-- `tests::arena_ok` meets its contract: that the bump is at least 1 follows from what is tested of the head. Assumes nothing.
use mathlib.Core.Path.{◌≡◌, refl}
use mathlib.Core.Bool.{Bool, true, false, ◌&&◌}
use Prim.Native.Nat.{ℕ, ◌+◌, ◌≤◌}
use native.Mathlib.Omega.{arith}
use lib.Dec.{leb}
use borrow.Author.Tests.{leb-true, le-leb}
use Rattle.words.specs.Tests.{and_l, and_r}
use Rattle.node_allocator.specs.declared.Counts.{Counts}
use Rattle.inspection.specs.Tests.{arena_ok}
use Rattle.inspection.proofs.tests.arena_ok.Goals as goal

-- bump and head lie in their ranges

abbrev ranged : Counts → ℕ → Bool
ranged c limit = leb c.bump (limit + 1) && leb 1 c.head && leb c.head c.bump

some : (c : Counts) (limit : ℕ) → ranged c limit ≡ true → 1 ≤ c.bump
some c limit e =
    let a : 1 ≤ c.head = leb-true 1 c.head (search (and_l, and_r)) in
    let b : c.head ≤ c.bump = leb-true c.head c.bump (search (and_l, and_r)) in
    omega arith

-- then the bump is at least 1; and where one range fails, the whole test fails

with-bump : (c : Counts) (limit : ℕ) → ranged c limit ≡ true → leb 1 c.bump && leb c.bump (limit + 1) && leb 1 c.head && leb c.head c.bump ≡ true
with-bump c limit e = rw (le-leb 1 c.bump (some c limit e)) e

outside : (c : Counts) (limit : ℕ) → ranged c limit ≡ false → leb 1 c.bump && leb c.bump (limit + 1) && leb 1 c.head && leb c.head c.bump ≡ false
outside c limit e = go (leb 1 c.bump) (leb c.bump (limit + 1)) (leb 1 c.head) (leb c.head c.bump) e
  where
    go : (z x y w : Bool) → x && y && w ≡ false → z && x && y && w ≡ false
    go true x y w f = f
    go false x y w f = refl

pub overflow_sub-last : goal.overflow_sub-last
overflow_sub-last c = some c.args.c c.args.limit c.if-c-limit.true

pub returns-then-c-limit : goal.returns-then-c-limit
unfolding arena_ok
returns-then-c-limit c = simp (with-bump c.args.c c.args.limit c.if-c-limit.true)

pub returns : goal.returns
unfolding arena_ok
returns c = simp (outside c.args.c c.args.limit c.if-c-limit.false)
