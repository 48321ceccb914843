-- What the proofs of `records` cite.
pub mod Tags
