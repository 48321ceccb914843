-- Histories of calls, and the demands as theorems: Calls has the calls over the words (over the list they are crate `lists`, Machine), Demands the theorems that a reader looks for first.
pub mod Calls
pub mod Blank
pub mod Agrees
pub mod Refusals
pub mod Indexes
pub mod Unique
pub mod Shapes
pub mod NotEmpty
pub mod Sharp
pub mod ShutOut
pub mod Listings
pub mod Examples
pub mod Demands
