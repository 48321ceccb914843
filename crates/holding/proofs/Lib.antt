-- Lemmas on lending a local that holds a value; no proof of today cites them.
pub mod Lent
