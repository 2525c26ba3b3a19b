pub mod Limits
pub mod Calls
pub mod Kept
pub mod Options
