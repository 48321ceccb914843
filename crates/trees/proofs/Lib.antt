-- The theorems that rest on another theorem of this crate that a wrong definition breaks (must-fail/). In specs/ they would go unchecked then, and the edit would count as one that cannot be read.
pub mod Tree
pub mod Lookup
pub mod Insert
pub mod Remove
pub mod Shape
pub mod Paths
pub mod Map
pub mod Walk
pub mod Stacks
