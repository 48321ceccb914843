-- What the contracts of `inspection` cite: the tests of each record, a visited node, the opening of an image, what an opened image has room for,
-- and what a call that writes leaves.
pub mod Tests
pub mod Visit
pub mod Opening
pub mod Room
pub mod Outcome
pub mod Answers
