-- What the proof of `feed` cites: a text, piece by piece.
pub mod Feed
