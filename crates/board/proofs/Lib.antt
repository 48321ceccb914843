-- What proofs of `board` cite: a part of a buffer that is written as a whole.
pub mod Parts
