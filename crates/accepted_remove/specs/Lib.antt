-- Remove on an accepted image: what its stores leave, what it plans, and the tree that the image holds afterwards.
pub mod Stores
pub mod Spot
pub mod Moved
pub mod After
pub mod Cut
pub mod Lone
pub mod Call
