-- A listing on an accepted image gives the list's entries from both ends, with value writes between.
pub mod Parts
pub mod Opens
pub mod Related
pub mod Once
pub mod Segments
pub mod Written
pub mod Moments
pub mod Agrees
pub mod Histories
