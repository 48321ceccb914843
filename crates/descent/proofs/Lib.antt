-- What the code is proved by and rests on a theorem of specs/ that an edit breaks (must-fail/).
pub mod Turns
