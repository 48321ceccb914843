-- The starred bench examples of the rules B.
pub mod Table
