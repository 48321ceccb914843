-- `full_check::chains::chain` meets its contract. The loop's invariant: what is left of the chain is the whole of it.
use Rattle.std.proofs.Common.{◌≡◌, ◌-◌, ℕ, Bool}
use Rattle.full_check.specs.Chains.{chain_of, free_count, Links}
use Rattle.full_check.proofs.chains.chain.Given as goal

abbrev pub invariant-loop : goal.invariant-loop
invariant-loop g l =
    (free : ℕ → Bool) (next : ℕ → ℕ) → Links free next l.c.bump (goal.F-post g l.link)
    → chain_of free next l.c.bump (l.end - l.counter) l.i ≡ chain_of free next l.c.bump (free_count l.c) l.c.head
