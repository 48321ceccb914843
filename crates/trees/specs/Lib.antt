-- Crit-bit trees over the keys of crate `keys`: what each step of the map does to a tree is what it does to the ascending list.
pub mod Keys
pub mod Ends
pub mod Tree
pub mod Lookup
pub mod Insert
pub mod Remove
pub mod Shape
pub mod Paths
pub mod Map
pub mod Values
pub mod Walk
pub mod Stacks
pub mod Nodes
pub mod Changes
pub mod Examples
