-- What the crate's contracts say.
pub mod Held
pub mod Laws
