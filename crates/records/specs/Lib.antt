-- What the contracts of `records` cite: the image, its records, how they are stored, and the numbers of refusals.
pub mod Layout
pub mod Records
pub mod Writes
pub mod Rewritten
pub mod Numbers
