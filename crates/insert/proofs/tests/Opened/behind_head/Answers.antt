-- `insert::tests::Opened::behind_head` meets its contract. Assumes nothing.
use mathlib.Core.Path.{◌≡◌}
use mathlib.Core.Logic.{◌≢◌}
use native.Mathlib.Omega.{arith}
use borrow.Author.Tests.{lt-ltb, le-ltb, eq-eqb, ne_eqb}
use Rattle.insert.specs.Plan.{behind_head, taken_node, next_node}
use Rattle.insert.proofs.tests.Opened.behind_head.Goals as goal

pub returns-then-free_node : goal.returns-then-free_node
unfolding behind_head taken_node next_node
returns-then-free_node c = let i = c.args.self.now.image.h.nodes.head in let apart : i ≢ c.args.self.now.image.h.nodes.bump = λ e. omega (arith, c.if-i-h.true) in simp (lt-ltb _ _ c.if-i-h.true, ne_eqb _ _ apart, ← c.node_in-x.ensures, ← c.free_node.ensures, c.if-free_node.true)

pub returns-else-free_node : goal.returns-else-free_node
unfolding behind_head taken_node
returns-else-free_node c = simp (lt-ltb _ _ c.if-i-h.true, ← c.node_in-x.ensures, ← c.free_node.ensures, c.if-free_node.false)

pub returns-then-fresh_node : goal.returns-then-fresh_node
unfolding behind_head taken_node next_node
returns-then-fresh_node c = let same : c.args.self.now.image.h.nodes.head ≡ c.args.self.now.image.h.nodes.bump = omega (arith, c.if-i-h.false, c.args.self.now.ready.most) in simp (le-ltb _ _ c.if-i-h.false, eq-eqb _ _ same, ← c.fresh_node.ensures, c.if-fresh_node.true)

pub returns-else-fresh_node : goal.returns-else-fresh_node
unfolding behind_head taken_node
returns-else-fresh_node c = simp (le-ltb _ _ c.if-i-h.false, ← c.fresh_node.ensures, c.if-fresh_node.false)
