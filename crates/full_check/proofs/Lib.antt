-- Proofs of `full_check` that are no function's own.
pub mod Rules
