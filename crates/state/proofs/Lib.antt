pub mod Answers
pub mod Counts
pub mod Parts
pub mod Play
pub mod New
pub mod Keeping
pub mod Stored
pub mod Lent
