pub mod Options
pub mod Frequency
pub mod Write
pub mod Calls
