-- What the contracts of `descent` cite: the descents and their turns.
pub mod Descent
pub mod Laws
pub mod Bits
pub mod Found
