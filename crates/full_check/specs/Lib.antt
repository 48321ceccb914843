-- What the contracts of `full_check` cite: the walk over the tree, the chains, and the check's answer.
pub mod Walk
pub mod Walked
pub mod Chains
pub mod Check
pub mod Scratch
pub mod Promises
pub mod Examples
