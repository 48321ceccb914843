-- Start and the value write: each leaves an accepted image with the list's next state.
pub mod Write
pub mod Call
pub mod Start
