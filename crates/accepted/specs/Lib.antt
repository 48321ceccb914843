-- The rules of an image, written as rules (T1 to T15), and what follows from them alone.
pub mod Rules
pub mod Accepted
pub mod Tests
pub mod Held
pub mod Frame
pub mod Forks
pub mod Apart
