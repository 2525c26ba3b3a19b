pub mod Profile
pub mod Calls
pub mod Steps
