-- What the contracts of `keys` cite, a key's number, leading equal bits and a bit, and the laws that hold of them.
pub mod Number
pub mod Common
pub mod Ways
pub mod Examples
pub mod Width
pub mod Prefixes
pub mod Bits
pub mod Order
