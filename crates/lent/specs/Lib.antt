-- The demands over the bytes that calls are lent, as the contracts of the code's own functions relate them: Answers for one call, Histories for any sequence of them, Listings with listings among them,
-- Holding for the listing that holds its image, Board for what C calls.
pub mod Answers
pub mod Histories
pub mod Listings
pub mod Holding
pub mod Board
