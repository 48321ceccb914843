-- What proofs of `words` cite: a part of a buffer that is written as a whole.
pub mod Parts
