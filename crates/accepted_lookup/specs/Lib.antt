-- Looking on an accepted image: the descents over its words are those over its tree, and the calls answer as the list.
pub mod Descents
pub mod Answers
