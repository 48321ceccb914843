-- `all::put_all` meets its contract.
use Rattle.listing.specs.declared.Made.{Made}
use mathlib.Core.Path.{◌≡◌, refl, sym, ap, ◌∙◌}
use mathlib.Core.List.{List, [], ◌++◌}
use Prim.Native.Nat.{ℕ, ◌-◌}
use native.Mathlib.Omega.{arith}
use Rattle.records.specs.Layout.{image_of}
use Rattle.texts.specs.Put.{then, nothing, reads}
use Rattle.texts.specs.Texts.{end_text}
use Rattle.commands.specs.Answers.{list_text, all_text, list_on, list_shut, list_end_lem}
use Rattle.commands.proofs.all.put_all.Goals as goal

pub loop-count-init : goal.loop-count-init
loop-count-init c = (omega arith, refl, ([], nothing, refl))

pub returns-in-Err-clause-text : goal.returns-in-Err-clause-text
unfolding all_text
returns-in-Err-clause-text c =
    let said = c.loop-count.invariant.2 in
    let first = ap (λ (x : Made). list_text 256 512 (image_of c.args.img.now) 256 x.position 0) c.list.ensures in
    reads (list_shut 256 512 (image_of c.args.img.now) c.loop-count.p c.loop-count.count _ c.next-stepped.result said.0 c.loop-count-test.true c.next-stepped.ensures c.in-Err.is ∙ said.2 ∙ first) (then said.1 c.answer_close.ensures.text)

pub loop-count-preserved : goal.loop-count-preserved
loop-count-preserved c =
    let said = c.loop-count.invariant.2 in
    (omega arith, omega arith, (_, then said.1 c.put_entry-place.ensures.text, list_on 256 512 (image_of c.args.img.now) c.loop-count.p c.loop-count.count _ _ c.next-stepped.result said.0 c.loop-count-test.true c.next-stepped.ensures c.in-Ok.is ∙ said.2))

pub returns-clause-text : goal.returns-clause-text
unfolding all_text
returns-clause-text c =
    let said = c.loop-count.invariant.2 in
    let first = ap (λ (x : Made). list_text 256 512 (image_of c.args.img.now) 256 x.position 0) c.list.ensures in
    let all : c.loop-count.count ≡ 256 = omega arith in
    reads (ap (λ (k : ℕ). said.0 ++ end_text k) (sym all) ∙ ap (λ (t : List ℕ). said.0 ++ t) (list_end_lem 256 512 (image_of c.args.img.now) (256 - c.loop-count.count) c.loop-count.p c.loop-count.count (omega arith)) ∙ said.2 ∙ first) (then said.1 c.put_end.ensures.text)
