pub mod Putting
pub mod Ends
