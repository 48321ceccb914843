-- What the contracts of `words` cite: a buffer's words, two words as one number, and runs of zeros.
pub mod Tests
pub mod Words
pub mod Wide
pub mod Zeros
