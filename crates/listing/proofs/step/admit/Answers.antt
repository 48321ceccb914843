-- `listing::step::admit` meets its contract. Assumes nothing. No answer names a test of the code, so that an edit of a test is refused for what it means.
use Rattle.std.specs.Prelude.{◌≡◌, true, length, Err}
use Rattle.std.proofs.Common.{sym, ◌∙◌, arith, rules}
use Rattle.std.proofs.lemmas.Bool.Decides.{nat_tests}
use Rattle.records.specs.Layout.{image_of}
use Rattle.inspection.specs.Tests.{shape_ok}
use Rattle.inspection.specs.Room.{shaped_shut, shaped_opens}
use Rattle.listing.specs.Ends.{opened_admit, admit_of}
use Rattle.listing.proofs.step.admit.Goals as goal

pub returns-in_err-h : goal.returns-in_err-h
unfolding admit_of opened_admit
returns-in_err-h c =
    let shape : shape_ok c.args.m c.args.n (length (image_of c.args.img.now)) ≡ true = search rules in
    let shut = shaped_shut c.args.m c.args.n _ _ shape (sym c.open_shaped.ensures ∙ c.in_err-h.was) in
    let given : c.from_residual.result ≡ Err c.in_err-h.field-0.0 = search rules in
    grind (arith, nat_tests)

pub returns-then-ended-count : goal.returns-then-ended-count
unfolding admit_of opened_admit
returns-then-ended-count c =
    let shape : shape_ok c.args.m c.args.n (length (image_of c.args.img.now)) ≡ true = search rules in
    let good = shaped_opens c.args.m c.args.n _ _ shape (sym c.open_shaped.ensures ∙ c.in_ok-h.was) in
    grind (arith, nat_tests)

pub returns : goal.returns
unfolding admit_of opened_admit
returns c =
    let shape : shape_ok c.args.m c.args.n (length (image_of c.args.img.now)) ≡ true = search rules in
    let good = shaped_opens c.args.m c.args.n _ _ shape (sym c.open_shaped.ensures ∙ c.in_ok-h.was) in
    grind (arith, nat_tests)
