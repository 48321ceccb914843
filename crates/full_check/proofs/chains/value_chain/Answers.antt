-- `full_check::chains::value_chain` meets its contract.
use Rattle.std.proofs.Common.{rules}
use Rattle.words.specs.Words.{words}
use Rattle.full_check.specs.Chains.{value_chain, value_free, value_next}
use Rattle.full_check.proofs.chains.value_chain.Goals as goal

pub returns : goal.returns
unfolding value_chain
returns c = c.chain.ensures (value_free c.args.n c.args.h (words c.args.img.now)) (value_next c.args.n (words c.args.img.now)) (λ i r one below e. search rules)
