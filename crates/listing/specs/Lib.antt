-- What the contracts of `listing` cite: making a position, and a step at either end.
pub mod Position
pub mod Step
pub mod Ends
pub mod Laws
pub mod Promises
