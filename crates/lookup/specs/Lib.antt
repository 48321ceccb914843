-- What the contracts of `lookup` cite: each call's answer, and the words that start and the value write leave.
pub mod Start
pub mod Get
pub mod Ends
pub mod Promises
