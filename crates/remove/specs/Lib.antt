-- What the contracts of `remove` cite: what remove tests, and the words that it leaves. Then what its proofs go by,
-- what follows of every call, and the bench example (rule B9).
pub mod Plan
pub mod Steps
pub mod Beside
pub mod Planned
pub mod Promises
pub mod Examples
