-- The full check is exact: it accepts an image exactly if the image keeps the rules (T15).
pub mod Sides
pub mod Marks
pub mod Chains
pub mod Passes
pub mod Reached
pub mod Pigeons
pub mod Places
pub mod Exact
