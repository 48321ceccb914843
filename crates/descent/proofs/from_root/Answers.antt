-- `descent::from_root` meets its contract.
use mathlib.Core.Path.{refl, sym, ◌∙◌}
use borrow.Author.Rules.{rules}
use Rattle.descent.specs.Laws.{rises, again}
use Rattle.descent.proofs.from_root.Goals as goal

pub loop-next-init : goal.loop-next-init
loop-next-init g c = (search rules, (129, search rules, refl))

pub loop-next-preserved : goal.loop-next-preserved
loop-next-preserved g c =
    let turns = g.met.D.Descend.turns c.args.by in
    let l = c.loop-next in
    let e = sym c.turn.ensures ∙ c.in-Continue.is in (
      (rises _ turns _ _ _ _ _ _ _ e).1,
      again _ turns _ _ _ _ _ _ _ l.invariant.1.1 l.invariant.0 l.invariant.1.2 _ _ e,
    )
