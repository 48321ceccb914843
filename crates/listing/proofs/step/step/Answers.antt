-- `listing::step::step` meets its contract.
use mathlib.Core.Path.{◌≡◌, refl, sym, ap, ◌∙◌}
use native.Mathlib.Omega.{arith}
use Rattle.words.specs.Words.{words}
use Rattle.records.specs.Layout.{image_of}
use Rattle.listing.specs.Step.{reached_at, pop_to}
use Rattle.listing.specs.Ends.{admit_moved, end_step}
use Rattle.listing.specs.Laws.{opening, opens_room, opens_nearer, opens_on, opens_last, finished, kept_back, kept_on, admit_room, admit_count, admit_moved_lem}
use Rattle.listing.proofs.step.step.Goals.{in-Came, in-Spoiled, then-not-g, else-not-g}
use Rattle.listing.proofs.step.step.Goals as goal

pub returns-in-Err : goal.returns-in-Err
unfolding end_step
returns-in-Err c = sym (ap (admit_moved c.args.back c.args.n (image_of c.args.img.now) c.args.ended c.args.s c.args.other) (sym c.admit.ensures ∙ c.in-Err.is))

pub overflow_sub-count : goal.overflow_sub-count
overflow_sub-count c = omega (arith, admit_count c.args.m c.args.n c.args.img.now c.args.ended c.args.held _ c.args.s.count (sym c.admit.ensures ∙ c.in-Ok.is))

pub bounds-places-top : goal.bounds-places-top
bounds-places-top c = omega (arith, admit_count c.args.m c.args.n c.args.img.now c.args.ended c.args.held _ c.args.s.count (sym c.admit.ensures ∙ c.in-Ok.is))

pub invariant_of-image : goal.invariant_of-image
invariant_of-image c = record { room = admit_room c.args.m c.args.n c.args.img.now c.args.ended c.args.held _ c.args.s.count (sym c.admit.ensures ∙ c.in-Ok.is) }

pub loop-wait-init : goal.loop-wait-init
loop-wait-init c = ((sym c.admit.ensures ∙ c.in-Ok.is), simp c.visit_first-came.ensures (opening c.args.back _ (words c.args.img.now) c.args.s (admit_count c.args.m c.args.n c.args.img.now c.args.ended c.args.held _ c.args.s.count (sym c.admit.ensures ∙ c.in-Ok.is)).1))

pub open_turn-requires : goal.open_turn-requires
open_turn-requires c = c.loop-wait.invariant.1.room

pub bounds-places-at : goal.bounds-places-at
bounds-places-at c = omega (arith, opens_room c.args.back _ (words c.args.img.now) c.args.s c.loop-wait.places c.loop-wait.count c.loop-wait.i c.loop-wait.came c.loop-wait.invariant.1 _ _ _ (sym c.open_turn.ensures ∙ c.in-On.is))

pub bounds-places-at-in-On : goal.bounds-places-at-in-On
bounds-places-at-in-On c = omega (arith, opens_room c.args.back _ (words c.args.img.now) c.args.s c.loop-wait.places c.loop-wait.count c.loop-wait.i c.loop-wait.came c.loop-wait.invariant.1 _ _ _ (sym c.open_turn.ensures ∙ c.in-On.is))

pub loop-wait-smaller : goal.loop-wait-smaller
loop-wait-smaller c = let k = opens_nearer c.args.back _ (words c.args.img.now) c.args.s c.loop-wait.places c.loop-wait.count c.loop-wait.i c.loop-wait.came c.loop-wait.invariant.1 _ _ _ (sym c.open_turn.ensures ∙ c.in-On.is) in omega (arith, k.0, k.1)

pub loop-wait-preserved : goal.loop-wait-preserved
loop-wait-preserved c = (c.loop-wait.invariant.0, opens_on c.args.back _ (words c.args.img.now) c.args.s c.loop-wait.places c.loop-wait.count c.loop-wait.i c.loop-wait.came c.loop-wait.invariant.1 _ _ _ (sym c.open_turn.ensures ∙ c.in-On.is))

pub returns : goal.returns
returns c =
    let last = opens_last c.args.back c.in-Ok.h (words c.args.img.now) c.args.s c.loop-wait.places c.loop-wait.count c.loop-wait.i c.loop-wait.came c.loop-wait.invariant.1 in
    let whole : reached_at c.match-open_turn.reached c.loop-wait.places c.loop-wait.count c.loop-wait.i ≡ pop_to c.args.back c.in-Ok.h (words c.args.img.now) c.args.s =
    elim c.match-open_turn.branch [
      | in-Came w ↦ rw w.reached-is (last _ (sym c.open_turn.ensures ∙ w.in-Came.is) _ (λ go. refl))
      | in-Spoiled w ↦ rw w.reached-is (last _ (sym c.open_turn.ensures ∙ w.in-Spoiled.is) _ (λ go. refl))
    ] in
    let k = c.given-g.result.moves in
    let ends = finished c.args.back c.in-Ok.h (words c.args.img.now) c.args.s c.loop-wait.places c.loop-wait.count c.loop-wait.i c.match-open_turn.reached c.args.n c.args.other whole c.given-g.result c.given-g.ensures c.if-not-g.places c.if-not-g.count in
    elim c.if-not-g.branch [
      | then-not-g w ↦ ends (w.places-is ∙ kept_back k c.loop-wait.places _ w.if-not-g.true) (w.count-is ∙ kept_back k c.loop-wait.count _ w.if-not-g.true)
      | else-not-g w ↦ ends (w.places-is ∙ kept_on k _ c.args.s.places w.if-not-g.false) (w.count-is ∙ kept_on k _ c.args.s.count w.if-not-g.false)
    ]
    ∙ admit_moved_lem c.args.m c.args.n c.args.img.now c.args.ended c.args.held c.in-Ok.h c.args.back c.args.s c.args.other c.loop-wait.invariant.0
