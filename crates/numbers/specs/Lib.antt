pub mod Ranges
pub mod Refusals
pub mod Random
pub mod Limits
