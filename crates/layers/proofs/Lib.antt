pub mod Sums
pub mod Parts
pub mod Calls
pub mod Own
pub mod Kept
pub mod Grown
pub mod Set
