-- What the contracts of `insert` cite: what insert tests, and the words that it leaves; then what follows of them, and the examples of the rules B.
pub mod Plan
pub mod Steps
pub mod Ready
pub mod Planned
pub mod Promises
pub mod Examples
