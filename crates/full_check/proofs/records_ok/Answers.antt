-- `full_check::records_ok` meets its contract. Assumes nothing.
use Rattle.node_allocator.specs.Layout.{record_at, capacity_of, width_of}
use Rattle.full_check.specs.Chains.{nodes_unused, values_unused}
use Rattle.full_check.specs.Check.{records_ok}
use Rattle.full_check.proofs.records_ok.Goals as goal

pub returns : goal.returns
unfolding records_ok nodes_unused values_unused record_at capacity_of width_of
returns c = simp (c.tree_ok.ensures, c.node_chain.ensures, c.value_chain.ensures, c.unused.ensures, c.unused-2.ensures, c.requires)
