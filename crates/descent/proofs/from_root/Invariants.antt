-- `descent::from_root` meets its contract. The loop's invariant: what is left of the descent is the whole of it, with fuel enough.
use Prim.Native.Nat.{ℕ, ◌≤◌, ◌+◌, ◌-◌}
use mathlib.Core.Path.{◌≡◌}
use Rattle.words.specs.Words.{words}
use Rattle.descent.specs.Descent.{descend, no_node}
use Rattle.descent.proofs.from_root.Given as goal

abbrev pub invariant-loop-next : goal.invariant-loop-next
invariant-loop-next g l =
    let turn = g.D.Descend.turn l.by in
    (l.low ≤ 128)
    × ((f : ℕ) × (129 ≤ f + l.low) × (descend turn f l.image.h (words l.image.bytes.now) l.at l.above l.low ≡ descend turn 129 l.image.h (words l.image.bytes.now) l.image.h.root no_node 0))

abbrev pub decreases-loop-next : goal.decreases-loop-next
decreases-loop-next g l = 129 - l.low
