-- What the records of an image are after a store: an image seen as its header, its nodes and its value records, and one calculus of stores.
pub mod Words
pub mod Kept
pub mod Nodes
pub mod Values
pub mod Small
pub mod Header
pub mod Stored
