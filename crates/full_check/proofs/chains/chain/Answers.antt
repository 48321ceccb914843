-- `full_check::chains::chain` meets its contract.
use Rattle.std.specs.Prelude.{true, ◌&&◌, leb, ltb}
use mathlib.Core.Path.{◌≡◌, sym, ap, ◌∙◌}
use Prim.Native.Nat.{ℕ, ◌-◌, ◌+◌, ◌≤◌, ◌<◌}
use native.Mathlib.Omega.{arith}
use borrow.Author.Tests.{leb-true, ltb-true}
use Rattle.words.specs.Tests.{and_l, and_r}
use Rattle.full_check.specs.Chains.{chain_of, free_count, chain_end, chain_outside, chain_stops, chain_goes_on}
use Rattle.full_check.proofs.chains.chain.Goals as goal

inside : (i bump : ℕ) → leb 1 i && ltb i bump ≡ true → (1 ≤ i) × (i < bump)
inside i bump e = (leb-true 1 i (and_l _ _ e), ltb-true i bump (and_r (leb 1 i) _ e))

pub loop-init : goal.loop-init
loop-init g c free next links =
    let whole : c.free_count-end.result - 0 ≡ free_count c.args.c = omega (arith, c.free_count-end.ensures) in
    ap (λ many. chain_of free next c.args.c.bump many c.args.c.head) whole

pub returns-then-not-i-c : goal.returns-then-not-i-c
returns-then-not-i-c g c free next links =
    sym (chain_outside free next _ (c.free_count-end.result - c.loop.counter) c.loop.i (omega arith) c.if-not-i-c.true)
    ∙ c.loop.invariant free next links

pub link-requires : goal.link-requires
link-requires g c = c.requires c.loop.i (inside _ _ c.if-not-i-c.false).0 (inside _ _ c.if-not-i-c.false).1

pub returns-in-None : goal.returns-in-None
returns-in-None g c free next links =
    let within = c.if-not-i-c.false in
    let answer = links c.loop.i _ (inside _ _ within).0 (inside _ _ within).1 c.link.ensures in
    sym (chain_stops free next _ (c.free_count-end.result - c.loop.counter) c.loop.i (omega arith) within (sym c.in-None.is ∙ answer))
    ∙ c.loop.invariant free next links

pub loop-preserved : goal.loop-preserved
loop-preserved g c free next links =
    let within = c.if-not-i-c.false in
    let answer = links c.loop.i _ (inside _ _ within).0 (inside _ _ within).1 c.link.ensures in
    let less : c.free_count-end.result - (c.loop.counter + 1) ≡ c.free_count-end.result - c.loop.counter - 1 = omega arith in
    rw less (sym (chain_goes_on free next _ (c.free_count-end.result - c.loop.counter) c.loop.i (omega arith) within c.in-Some.next (sym c.in-Some.is ∙ answer))
    ∙ c.loop.invariant free next links)

pub returns : goal.returns
returns g c free next links =
    sym (chain_end free next _ (c.free_count-end.result - c.loop.counter) c.loop.i (omega arith)) ∙ c.loop.invariant free next links
