-- `full_check::chains::node_chain` meets its contract.
use Rattle.std.proofs.Common.{rules}
use Rattle.words.specs.Words.{words}
use Rattle.full_check.specs.Chains.{node_chain, node_free, node_next}
use Rattle.full_check.proofs.chains.node_chain.Goals as goal

pub returns : goal.returns
unfolding node_chain
returns c = c.chain.ensures (node_free c.args.image.now.h (words c.args.image.now.bytes.now)) (node_next (words c.args.image.now.bytes.now)) (λ i r one below e. search rules)
