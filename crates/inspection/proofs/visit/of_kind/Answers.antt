-- `inspection::visit::of_kind` meets its contract. Assumes nothing.
use borrow.Author.Tests.{eq-eqb, ne_eqb}
use Rattle.inspection.specs.Visit.{of_kind}
use Rattle.inspection.proofs.visit.of_kind.Goals as goal

pub returns-then-inner_form : goal.returns-then-inner_form
unfolding of_kind
returns-then-inner_form c = simp (eq-eqb _ _ c.if-x-eq0.true, ← c.inner_form.ensures, c.if-inner_form.true)

pub returns-then-x-eq0 : goal.returns-then-x-eq0
unfolding of_kind
returns-then-x-eq0 c = simp (eq-eqb _ _ c.if-x-eq0.true, ← c.inner_form.ensures, c.if-inner_form.false)

pub returns-then-x-h : goal.returns-then-x-h
unfolding of_kind
returns-then-x-h c = simp (ne_eqb _ _ c.if-x-eq0.false, ← c.leaf_form.ensures, c.if-x-h.true)

pub returns : goal.returns
unfolding of_kind
returns c = simp (ne_eqb _ _ c.if-x-eq0.false, ← c.leaf_form.ensures, c.if-x-h.false)
