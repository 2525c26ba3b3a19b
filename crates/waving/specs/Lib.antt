pub mod Drawings
pub mod Calls
pub mod Passes
