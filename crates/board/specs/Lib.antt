-- What the contracts of `board` cite: the bytes of the output and of the scratch after each call, and what the rules promise of them.
pub mod Output
pub mod Scratch
pub mod Promises
pub mod Examples
