pub mod Matching
pub mod Stored
