-- What the contracts of `commands` cite: what a command is answered, lines one after the other, and lines in pieces; that no second outcome fits; and what piece after piece comes to.
pub mod Answers
pub mod Session
pub mod Examples
pub mod Whole
pub mod Moved
pub mod Pieces
pub mod Once
pub mod Feeding
