-- What several proofs of `keys` cite: from a machine's words to the numbers that the contracts speak of.
pub mod Zeros
pub mod Places
pub mod Halves
pub mod Words
