-- What the contracts of `texts` cite: bytes put into a buffer, numbers as text and text as numbers, what a line asks, and the words of an answer.
pub mod Put
pub mod Digits
pub mod Lines
pub mod Texts
pub mod Exact
pub mod Spelled
pub mod Fitting
