-- What each call rewrites, on any image: at most five node records, one value record and the header.
pub mod Stores
pub mod Inserted
pub mod Removed
pub mod Written
