-- `insert::tests::Opened::split_tests` meets its contract. Assumes nothing.
use mathlib.Core.Path.{sym, ◌∙◌}
use native.Mathlib.Omega.{arith}
use Rattle.insert.specs.Plan.{leaf_tests, split_tests}
use Rattle.insert.specs.Ready.{next_some, behind_some, behind_none}
use Rattle.insert.proofs.tests.Opened.split_tests.Goals as goal

pub taken_node-requires : goal.taken_node-requires
taken_node-requires c =
    let some = behind_some _ _ _ _ (sym c.behind_head.ensures ∙ c.in-Some.is) in
    omega (arith, some.1, next_some _ _ _ _ c.args.self.now.ready.most some.0)

pub returns-in-Some : goal.returns-in-Some
unfolding split_tests leaf_tests
returns-in-Some c =
    let some = behind_some _ _ _ _ (sym c.behind_head.ensures ∙ c.in-Some.is) in
    simp (some.0, ← some.1, c.taken_value.ensures, c.taken_node.ensures)

pub returns-in-None : goal.returns-in-None
unfolding split_tests leaf_tests
returns-in-None c = simp (behind_none _ _ _ (sym c.behind_head.ensures ∙ c.in-None.is))
