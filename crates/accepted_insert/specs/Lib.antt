-- Insert on an accepted image: the answer, the image and its list afterwards.
pub mod Arenas
pub mod Taken
pub mod Planned
pub mod Entered
pub mod Holding
pub mod Leaf
pub mod Kids
pub mod Grown
pub mod First
pub mod Splitting
pub mod Call
