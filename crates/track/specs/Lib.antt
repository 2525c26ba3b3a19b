pub mod Reading
pub mod Series
pub mod Codes
