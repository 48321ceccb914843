-- The laws of the arena's steps: what a record is after a link, an addition and a removal, and what the free chain is.
pub mod Places
pub mod Laws
pub mod Taken
pub mod Chain
