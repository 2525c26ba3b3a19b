pub mod Integers
pub mod Lists
pub mod Moves
pub mod Rows
pub mod Keys
pub mod Answers
pub mod Verdict
